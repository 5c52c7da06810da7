-- The invariant: the box of the powered rows up to i, absent at the start. Assumes nothing.
use mathlib.Core.Path.{◌≡◌}
use Rattle.words.specs.Answers.{optional}
use Rattle.light_bvh.specs.Build.{all_bounds}
use Rattle.light_bvh.proofs.build.all_bounds.Given as goal

abbrev pub invariant-loop-i : goal.invariant-loop-i
invariant-loop-i l = optional l.all ≡ all_bounds l.block l.i
