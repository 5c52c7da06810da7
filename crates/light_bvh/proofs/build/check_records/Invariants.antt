-- `light_bvh::build::check_records`: up to i every record is valid. Assumes nothing.
use mathlib.Core.Path.{◌≡◌}
use Rattle.words.specs.Answers.{given}
use Rattle.light_bvh.specs.Build.{validated}
use Rattle.light_bvh.proofs.build.check_records.Given as goal

abbrev pub invariant-loop-i : goal.invariant-loop-i
invariant-loop-i l = validated l.block l.i ≡ given tt
