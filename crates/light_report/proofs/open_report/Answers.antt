-- The header, then the bytes of the words at the front of the trays, or the refusal behind the header. Assumes nothing.
use Prim.Native.Nat.{ℕ, ◌+◌, ◌≤◌}
use mathlib.Core.Path.{◌≡◌, refl, sym, ap, ◌∙◌}
use native.Mathlib.Omega.{arith}
use lib.ListN.{length, take}
use lib.Seq.{sets}
use Rattle.words.specs.Answers.{given, refused}
use Rattle.words.specs.LittleEndian.{bytes_of}
use Rattle.words.specs.Refusals.{number}
use Rattle.text.proofs.PutLaws.{fitting-all, words-fit}
use Rattle.light_report.specs.Report.{report_lamps, report_tree, header_bytes}
use Rattle.light_report.specs.AsCoded.Written.{sizes, taken, node_bytes, table_bytes}
use Rattle.light_report.proofs.TreeBytes.{sizes-few, nodes-front, table-front, opened-groups}
use Rattle.light_report.proofs.TreeBytes.{first-header, tree-room, Ends, ended-first}
use Rattle.light_report.proofs.open_report.Goals as goal
use Rattle.light_report.proofs.open_report.Goals.{After-put_text-header, In-Ok, After-put_words-nodes}
use Rattle.light_report.proofs.open_report.Goals.{After-put_words-table, After-put_refused}

header : (c : After-put_text-header)
    → (c.put_text-header.new.out ≡ sets c.args.out.now 0 header_bytes)
    × (c.put_text-header.result ≡ length header_bytes)
header c =
    let room = fitting-all c.args.out.now 0 header_bytes (omega arith) in
    (rw room at c.put_text-header.ensures.out_after, rw room at c.put_text-header.ensures.value)

-- a tree with so many lamps and so many of them powered
module _ (c : In-Ok) where
  sized : given (c.in-Ok.taken.lamps, c.in-Ok.taken.powered) ≡ sizes (report_tree c.args.front.now)
  sized = sym (ap taken c.in-Ok.is) ∙ c.take_tree.ensures.result_value

  few : (c.in-Ok.taken.powered ≤ c.in-Ok.taken.lamps) × (c.in-Ok.taken.lamps ≤ report_lamps)
  few = sizes-few c.args.front.now c.in-Ok.taken.lamps c.in-Ok.taken.powered sized

-- its nodes' bytes
nodes : (c : After-put_words-nodes)
    → given (
      c.in-Ok.taken.lamps,
      c.in-Ok.taken.powered,
    ) ≡ sizes
    (report_tree c.args.front.now)
    → (c.put_words-nodes.new.out ≡ sets c.args.tree.now.nodes 0 (node_bytes (report_tree c.args.front.now)))
    × (c.put_words-nodes.result ≡ length (node_bytes (report_tree c.args.front.now)))
nodes c tree =
    let front = c.args.front.now in
    let words = ap (λ (n : ℕ). bytes_of (take n c.take_tree.new.room.nodes)) c.nodes_reserve-words.ensures in
    let room : length (node_bytes (report_tree front)) ≤ length c.args.tree.now.nodes =
    omega (arith, (tree-room front (report_tree front) refl).0) in
    words-fit _ _ (node_bytes (report_tree front))
    (words ∙ nodes-front front c.in-Ok.taken.lamps c.in-Ok.taken.powered tree _ _ _ c.take_tree.ensures.nodes_after)
    room (c.put_words-nodes.ensures.out_after, c.put_words-nodes.ensures.value)

table : (c : After-put_words-table)
    → given (
      c.in-Ok.taken.lamps,
      c.in-Ok.taken.powered,
    ) ≡ sizes
    (report_tree c.args.front.now)
    → (c.put_words-table.new.out
    ≡ sets c.args.tree.now.table 0 (table_bytes (report_tree c.args.front.now)))
    × (c.put_words-table.result ≡ length (table_bytes (report_tree c.args.front.now)))
table c tree =
    let front = c.args.front.now in
    let room : length (table_bytes (report_tree front)) ≤ length c.args.tree.now.table =
    omega (arith, (tree-room front (report_tree front) refl).1) in
    words-fit _ _ (table_bytes (report_tree front))
    (rw c.wide.ensures
    (table-front front c.in-Ok.taken.lamps c.in-Ok.taken.powered tree _ _ _ c.take_tree.ensures.table_after))
    room (c.put_words-table.ensures.out_after, c.put_words-table.ensures.value)

-- of a bad block
module _ (c : After-put_refused) where
  none : refused (number c.in-Err.why) ≡ sizes (report_tree c.args.front.now)
  none = sym (ap taken c.in-Err.is) ∙ c.take_tree.ensures.result_value

  ended : (c.put_text-header.new.out ≡ sets c.args.out.now 0 header_bytes)
      × (c.put_text-header.result ≡ length header_bytes)
      → Ends (report_tree c.args.front.now) c.args.out.now (c.put_text-header.result + c.put_refused.result)
      c.put_refused.new.out
  ended said =
      ended-first (report_tree c.args.front.now) _ none c.args.out.now c.put_text-header.result c.put_refused.result
      (omega arith) said
      (c.put_refused.ensures.out_after, c.put_refused.ensures.value)

pub overflow_cast-taken : goal.overflow_cast-taken
overflow_cast-taken c =
    let tree = few (goal.at.overflow_cast-taken c).In-Ok in
    record { fits = omega (arith, tree.0, tree.1) }

pub shared_ref_as_front-put_words : goal.shared_ref_as_front-put_words
shared_ref_as_front-put_words c =
    let tree = few (goal.at.shared_ref_as_front-put_words c).In-Ok in
    omega (arith, c.nodes_reserve-words.ensures, tree.0, tree.1)

pub shared_ref_as_front-put_words-in-Ok : goal.shared_ref_as_front-put_words-in-Ok
shared_ref_as_front-put_words-in-Ok c =
    let tree = few (goal.at.shared_ref_as_front-put_words-in-Ok c).In-Ok in
    omega (arith, tree.1)

pub overflow_add-result : goal.overflow_add-result
overflow_add-result c =
    let at = goal.at.overflow_add-result c in
    omega (arith, (ended at.After-put_refused (header at.After-put_text-header)).few)

pub returns-in-Ok : goal.returns-in-Ok
returns-in-Ok c =
    let at = goal.at.returns-in-Ok c in
    let tree = sized at.In-Ok in
    let front = c.args.front.now in
    let said = header at.After-put_text-header in
    let walked = nodes at.After-put_words-nodes tree in
    let tabled = table at.After-put_words-table tree in
    record {
      opened = opened-groups front c.in-Ok.taken.lamps c.in-Ok.taken.powered tree _ _ _ said.1 walked.1 tabled.1;
      nodes-laid = walked.0;
      table-laid = tabled.0;
      lines-laid = said.0 ∙ ap (sets c.args.out.now 0)
          (first-header front c.in-Ok.taken.lamps c.in-Ok.taken.powered
          tree);
    }

pub returns-in-Err : goal.returns-in-Err
returns-in-Err c =
    let at = goal.at.returns-in-Err c in
    let end = ended at.After-put_refused (header at.After-put_text-header) in
    record {
      opened = end.opened;
      nodes-laid = ap (sets c.args.tree.now.nodes 0) end.no-nodes;
      table-laid = ap (sets c.args.tree.now.table 0) end.no_table;
      lines-laid = end.lines;
    }
