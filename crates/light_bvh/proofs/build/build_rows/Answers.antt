-- The fronts of the table, the work and the nodes are lent for the tree of the powered rows, and what is left of them
-- is the definition's at each of the three ends; where there is a tree there is a box. Assumes nothing.
use Prim.Native.Nat.{◌≤◌}
use mathlib.Core.Path.{◌≡◌, sym, ◌∙◌}
use mathlib.Core.Option.{some}
use Rattle.std.proofs.Common.{arith, Ok}
use Rattle.std.proofs.lemmas.Grind.{common_steps}
use Rattle.words.specs.Answers.{given, optional}
use Rattle.light_bvh.specs.Build.{built}
use lib.ListN.{length, get_or}
use Rattle.light_bvh.proofs.BuildLaws.{rows-fit}
use Rattle.light_bvh.proofs.RowsLaws.{labels-fit}
use Rattle.light_bvh.proofs.RowTrays.{Gathered, gathered, end_of, table-front, Lent}
use Rattle.light_bvh.proofs.RowTrays.{rows_none, rows_lost, rows-tree, rows-boxed, nodes-here, nodes-built}
use Rattle.light_bvh.proofs.build.build_rows.Goals as goal
use Rattle.light_bvh.proofs.build.build_rows.Goals.{After-gather_handles-k, After-build_subtree}

-- ---- the places: the handles are gathered, the tree is tried

got : (c : After-gather_handles-k) →
    Gathered c.args.block.now (get_or c.args.block.now 0 0) c.args.nodes.now c.args.table.now c.args.work.now
    c.gather_handles-k.new.handles c.gather_handles-k.result
got c =
    let told = c.gather_handles-k.ensures in
    gathered _ _ _ _ _ _ _ c.requires told.value told.handles_after

lent : (c : After-build_subtree) →
    Lent c.args.block.now (get_or c.args.block.now 0 0) c.args.nodes.now c.args.table.now c.args.work.now
    c.gather_handles-k.new.handles c.gather_handles-k.result c.build_subtree.new.handles c.build_subtree.new.work
    c.build_subtree.new.nodes
lent c =
    let told = c.gather_handles-k.ensures in
    let kept = c.build_subtree.auto in
    record {
      gathered = gathered _ _ _ _ _ _ _ c.requires told.value told.handles_after;
      some = omega (arith, c.if-k-eq0.false);
      same-table = kept.handles;
      same_work = kept.work;
      same_nodes = kept.nodes;
    }

-- ---- the needs

pub gather_handles-k-requires : goal.gather_handles-k-requires
gather_handles-k-requires c = (rows-fit _ _ _ _ _ _ c.requires).1

pub returns-then-k-eq0 : goal.returns-then-k-eq0
returns-then-k-eq0 c =
    let m = c.row_count-m.ensures in
    let told = rw m at c.zero_reserves.ensures in
    let h = rows_none (got (goal.at.returns-then-k-eq0 c).After-gather_handles-k) c.if-k-eq0.true told.nodes_after
    told.table_after (rw (c.wide.ensures, m) at c.fill.ensures) told.work_after in
    record { result_value = h.0; nodes_after = h.1.0; table_after = h.1.1.0; work_after = h.1.1.1 }

pub overflow_mul-end-2 : goal.overflow_mul-end-2
overflow_mul-end-2 c =
    let g = got (goal.at.overflow_mul-end-2 c).After-gather_handles-k in omega (arith, g.within, g.few)

pub slice_bounds-build_subtree-end-2 : goal.slice_bounds-build_subtree-end-2
slice_bounds-build_subtree-end-2 c =
    let g = got (goal.at.slice_bounds-build_subtree-end-2 c).After-gather_handles-k in
    let e : c.gather_handles-k.result ≤ length c.args.work.now = omega (arith, g.within, g.room_work) in
    e

pub slice_bounds-build_subtree-end-3 : goal.slice_bounds-build_subtree-end-3
slice_bounds-build_subtree-end-3 c =
    let g = got (goal.at.slice_bounds-build_subtree-end-3 c).After-gather_handles-k in
    let e : end_of c.gather_handles-k.result ≤ length c.args.nodes.now = omega (arith, g.within, g.room-nodes) in
    e

pub build_subtree-requires-clause-handles_bound : goal.build_subtree-requires-clause-handles_bound
build_subtree-requires-clause-handles_bound c =
    let g = got (goal.at.build_subtree-requires-clause-handles_bound c).After-gather_handles-k in
    omega (arith, table-front g, g.within, g.few)

pub build_subtree-requires-clause-by_index : goal.build_subtree-requires-clause-by_index
build_subtree-requires-clause-by_index c =
    let g = got (goal.at.build_subtree-requires-clause-by_index c).After-gather_handles-k in
    labels-fit _ _ g.checked g.few g.long

pub table_leaves-requires : goal.table_leaves-requires
table_leaves-requires c =
    let l = lent (goal.at.table_leaves-requires c).After-build_subtree in
    let g = l.gathered in
    rw (nodes-built l) (omega (arith, nodes-here l, g.within, g.few))

pub returns-in-Err : goal.returns-in-Err
returns-in-Err c =
    let told = rw c.row_count-m.ensures at c.zero_reserves-in-Err.ensures in
    let h = rows_lost (lent (goal.at.returns-in-Err c).After-build_subtree) _ c.in-Err.ensures.result_value
    told.nodes_after told.table_after told.work_after in
    record { result_value = h.0; nodes_after = h.1.0; table_after = h.1.1.0; work_after = h.1.1.1 }

pub returns : goal.returns
returns c =
    let m = c.row_count-m.ensures in
    let l = lent (goal.at.returns c).After-build_subtree in
    let (box, is) = rows-boxed l in
    let there : optional c.all_bounds.result ≡ some box = c.all_bounds.ensures ∙ is in
    let answer : built (Ok c.map.result) ≡ given (c.gather_handles-k.result, some box) =
    grind (arith, common_steps, there) in
    let told = c.in_default.ensures in
    let h = rows-tree l told.result_value told.nodes_after (rw (c.wide-2.ensures, m) at c.fill-2.ensures)
    (rw (nodes-built l) at c.table_leaves.ensures) (rw (c.nodes_reserve.ensures, m) at c.zero_words.ensures)
    (rw (c.work_reserve.ensures, m) at c.zero_words-2.ensures) box (sym is) in
    record { result_value = answer ∙ h.0; nodes_after = h.1.0; table_after = h.1.1.0; work_after = h.1.1.1 }
