-- Each turn writes the last digit of what is left, before those that are written. Assumes nothing.
use Rattle.text.proofs.PutLaws.{Spelled}
use Rattle.text.proofs.lay_digits.Given as goal

abbrev pub invariant-loop-i : goal.invariant-loop-i
invariant-loop-i l = Spelled l.initial.out l.at l.base l.k l.n l.out l.i l.rest

abbrev pub decreases-loop-i : goal.decreases-loop-i
decreases-loop-i l = l.i
