-- Each part that is handed on is as long as what was laid at its front. Assumes nothing.
use Prim.Native.Nat.{◌≤◌}
use mathlib.Core.Path.{◌≡◌, refl, sym, ap, ◌∙◌}
use native.Mathlib.Omega.{arith}
use lib.ListN.{length}
use Rattle.words.specs.Answers.{Answer}
use Rattle.light_bvh.specs.Build.{LightBVH}
use Rattle.light_report.specs.Report.{report_tree}
use Rattle.light_report.specs.AsCoded.Written.{first_lines, node_bytes, table_bytes}
use Rattle.light_report.specs.declared.Opened.{Opened}
use Rattle.light_report.proofs.TreeBytes.{tree-room, first-room, opened-lines, opened-tree, handed-front}
use Rattle.light_report.proofs.write_report.Goals as goal
use Rattle.light_report.proofs.write_report.Goals.{After-open_front-opened, In-Some}

module _ (c : After-open_front-opened) where
  abbrev tree : Answer LightBVH
  tree = report_tree c.args.front.now

  lines : c.open_front-opened.result.lines ≡ length (first_lines tree)
  lines = ap (λ (o : Opened). o.lines) c.open_front-opened.ensures.opened ∙ opened-lines tree

  first : length (first_lines tree) ≤ length c.args.out.now
  first = omega (arith, first-room tree)

  nodes : length (node_bytes tree) ≤ length c.args.tree.now.nodes
  nodes = omega (arith, (tree-room c.args.front.now tree refl).0)

  table : length (table_bytes tree) ≤ length c.args.tree.now.table
  table = omega (arith, (tree-room c.args.front.now tree refl).1)

ends : (c : In-Some)
    → (c.in-Some.ends.nodes ≡ length (node_bytes (report_tree c.args.front.now)))
    × (c.in-Some.ends.table ≡ length (table_bytes (report_tree c.args.front.now)))
ends c =
    opened-tree (report_tree c.args.front.now) _
    (sym (ap (λ (o : Opened). o.tree) c.open_front-opened.ensures.opened) ∙ c.in-Some.is)

pub write_first-requires : goal.write_first-requires
write_first-requires c =
    let at = (goal.at.write_first-requires c).After-open_front-opened in
    handed-front c.args.out.now _ _ (first at) c.open_front-opened.ensures.lines-laid (lines at)

pub write_groups-requires : goal.write_groups-requires
write_groups-requires c =
    let at = goal.at.write_groups-requires c in
    let long = ends at.In-Some in
    let left = c.open_front-opened.ensures in (
      handed-front c.args.tree.now.nodes _ _ (nodes at.After-open_front-opened) left.nodes-laid long.0,
      handed-front c.args.tree.now.table _ _ (table at.After-open_front-opened) left.table-laid long.1,
    )

pub shared_ref_as_front-write_first : goal.shared_ref_as_front-write_first
shared_ref_as_front-write_first c =
    let at = (goal.at.shared_ref_as_front-write_first c).After-open_front-opened in
    omega (arith, lines at, first at)

pub shared_ref_as_front-walked : goal.shared_ref_as_front-walked
shared_ref_as_front-walked c =
    let at = goal.at.shared_ref_as_front-walked c in
    omega (arith, (ends at.In-Some).0, nodes at.After-open_front-opened)

pub shared_ref_as_front-walked-in-Some : goal.shared_ref_as_front-walked-in-Some
shared_ref_as_front-walked-in-Some c =
    let at = goal.at.shared_ref_as_front-walked-in-Some c in
    omega (arith, (ends at.In-Some).1, table at.After-open_front-opened)
