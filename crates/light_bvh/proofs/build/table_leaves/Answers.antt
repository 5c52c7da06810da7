-- `light_bvh::build::table_leaves`: the leaves among the nodes up to i are in the table. Assumes nothing.
use mathlib.Core.Path.{◌≡◌, refl, ap, sym, ◌∙◌}
use native.Mathlib.Omega.{arith}
use lib.Seq.{set_out}
use Rattle.std.proofs.Common.{rules}
use Rattle.light_bvh.specs.AsCoded.Tables.{tabled_below}
use Rattle.light_bvh.proofs.BuildLaws.{tabled-node, labelled}
use Rattle.light_rows.specs.Nodes.{node, node_at}
use Rattle.light_bvh.proofs.build.table_leaves.Goals as goal

pub loop-place-init : goal.loop-place-init
unfolding tabled_below
loop-place-init c = refl

pub loop-place-preserved : goal.loop-place-preserved
loop-place-preserved c =
    let i = c.loop-place.place in
    let next = tabled-node c.args.nodes.now i c.args.table.now (omega arith) in
    let is = c.node_at.ensures in
    let so : c.match-node_at.table ≡ labelled (node c.node_at.result) i c.loop-place.table =
    search (rules, set_out) in
    so ∙ rw (c.loop-place.invariant, is ∙ ap (node_at c.args.nodes.now) c.wide.ensures) (sym next)
