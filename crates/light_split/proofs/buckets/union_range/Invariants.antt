-- `light_split::buckets::union_range`: what is left to join gives the same answer at each turn. Assumes nothing.
use mathlib.Core.Path.{◌≡◌}
use lib.ListN.{drop}
use Rattle.std.specs.Prelude.{None}
use Rattle.light_split.specs.Buckets.{union_range}
use Rattle.light_split.proofs.buckets.union_range.Given as goal

abbrev pub invariant-loop-bucket : goal.invariant-loop-bucket
invariant-loop-bucket l = union_range l.result (drop l.bucket-index l.buckets) ≡ union_range None l.buckets
