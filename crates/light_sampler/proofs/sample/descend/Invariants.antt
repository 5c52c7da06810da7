-- The walk that is left comes to what the whole walk comes to. Assumes nothing.
use Prim.Native.Nat.{◌-◌}
use mathlib.Core.Path.{◌≡◌}
use Rattle.ieee.specs.Single.{onef}
use Rattle.words.specs.LittleEndian.{words_of}
use Rattle.light_sampler.specs.Walks.{descend}
use Rattle.light_sampler.proofs.sample.descend.Given as goal

abbrev pub invariant-loop : goal.invariant-loop
invariant-loop l =
    (descend (words_of l.nodes) l.fn.query (l.count - l.counter) l.place l.pmf l.u).outcome
    ≡ (descend (words_of l.nodes) l.fn.query l.count 0 onef l.fn.u).outcome
