-- `light_bvh::build::table_leaves`: the leaves among the nodes up to i are in the table. Assumes nothing.
use mathlib.Core.Path.{◌≡◌}
use Rattle.light_bvh.specs.AsCoded.Tables.{tabled_below}
use Rattle.light_bvh.proofs.build.table_leaves.Given as goal

abbrev pub invariant-loop-place : goal.invariant-loop-place
invariant-loop-place l = l.table ≡ tabled_below l.nodes l.place l.initial.table
