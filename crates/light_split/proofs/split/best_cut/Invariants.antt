-- `light_split::split::best_cut`: the left side and the best of the cuts so far, which a cut behind an empty bucket
-- does not change. Assumes nothing.
use mathlib.Core.Path.{◌≡◌}
use lib.ListN.{take}
use Rattle.std.specs.Prelude.{None}
use Rattle.words.specs.Answers.{given}
use Rattle.light_split.specs.Buckets.{union_range}
use Rattle.light_split.specs.Split.{cuts}
use Rattle.light_split.proofs.split.best_cut.Given as goal

abbrev pub invariant-loop-bucket : goal.invariant-loop-bucket
invariant-loop-bucket l = record {
  left_is : union_range None (take l.bucket l.buckets) ≡ given l.left;
  best_is : cuts l.buckets l.axis.parent l.axis.dimension l.initial.best l.bucket ≡ given l.best;
}
