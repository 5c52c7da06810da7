-- `light_split::buckets::fill_buckets`: what is left to fill in gives the same answer at each turn. Assumes nothing.
use mathlib.Core.Path.{◌≡◌}
use lib.ListN.{drop}
use Rattle.light_split.specs.Buckets.{fill_buckets, empty_buckets}
use Rattle.light_split.proofs.buckets.fill_buckets.Given as goal

abbrev pub invariant-loop-handle : goal.invariant-loop-handle
invariant-loop-handle l =
    fill_buckets l.block l.ends l.dimension l.buckets (drop l.handle-index l.handles) ≡
    fill_buckets l.block l.ends l.dimension empty_buckets l.handles
