-- Each turn takes a digit off, as each step of the definition does. Assumes nothing.
use Prim.Native.Nat.{◌-◌}
use Rattle.text.proofs.PutLaws.{Counted}
use Rattle.text.proofs.places.Given as goal

abbrev pub invariant-loop-k : goal.invariant-loop-k
invariant-loop-k l = Counted l.n l.k l.rest

abbrev pub decreases-loop-k : goal.decreases-loop-k
decreases-loop-k l = 10 - l.k
