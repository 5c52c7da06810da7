-- The tree of a report's block, from the block's bytes to its own: what of the trays is handed on, and why it
-- fits. Assumes nothing.
use Prim.Native.Nat.{ℕ, ◌+◌, ◌*◌, ◌/◌, ◌%◌, ◌≤◌}
use mathlib.Core.Path.{◌≡◌, refl, sym, ap, ◌∙◌}
use mathlib.Core.List.{List, []}
use native.Mathlib.Nat.{zero-add, sub-zero}
use native.Mathlib.Omega.{arith}
use borrow.Author.Tests.{eq-eqb, le-leb}
use lib.Dec.{ltb}
use lib.ListN.{length, get_or, take, length-append}
use lib.Seq.{sets, length-sets, length-take-le}
use Rattle.std.specs.Prelude.{Some, None}
use Rattle.words.specs.Answers.{Answer, given, refused, ◌then◌}
use Rattle.words.specs.LittleEndian.{words_of, bytes_of}
use Rattle.words.specs.AsCoded.WordSlices.{word_count, read_words}
use Rattle.words.specs.Tray.{tray}
use Rattle.words.specs.Laws.TrayLaws.{tray-early, tray-front}
use Rattle.words.proofs.AnswerLaws.{given_injective, refused_injective, not-both, Early}
use Rattle.words.proofs.AnswerLaws.{only-given, only-refused, only-cond, only-number}
use Rattle.words.proofs.LittleEndianLaws.{length-words_of, length-bytes_of}
use Rattle.light_rows.specs.Block.{block_words}
use Rattle.light_bvh.specs.Build.{LightBVH, nodes_reserve, nodes_written, table_written, summary}
use Rattle.text.specs.Text.{refusal_line}
use Rattle.text.specs.AsCoded.Puts.{fitting, Put}
use Rattle.text.proofs.PutLaws.{refusal-short, put-fits, put_then, handed}
use Rattle.light_report.specs.Lines.{line_bytes, report_lines}
use Rattle.light_report.specs.Report.{report_lamps, block_bytes, block_lamps, tree_of, report_tree, header_bytes}
use Rattle.light_report.specs.AsCoded.Written.{powered, sizes}
use Rattle.light_report.specs.AsCoded.Written.{first_lines, node_bytes, table_bytes, chunk_lines, opened_of}
use Rattle.light_report.specs.Laws.TreeLaws.{rows_are, tree-of}
use Rattle.light_report.specs.declared.Opened.{Opened}
use Rattle.light_report.specs.declared.TreeEnds.{TreeEnds}

-- ---- the block's words

pub words-read : (bytes before : List ℕ) → (length bytes % 4 ≡ 0) × (length bytes ≤ 4 * length before)
    → take (length bytes / 4) (tray (λ (n : ℕ). words_of bytes) (length bytes / 4)
    (read_words bytes (length before)) before) ≡ words_of bytes
unfolding read_words word_count ◌then◌
words-read bytes before (whole, room) =
    simp (eq-eqb (length bytes % 4) 0 whole, le-leb (length bytes / 4) (length before) (omega (arith, room)))
    (tray-front (λ (n : ℕ). words_of bytes) (length bytes / 4) (length bytes / 4) (length bytes / 4) before
    (length-words_of bytes))

-- they stand at the front of the slice that its bytes were read into
pub block_read : (m : ℕ) (input after : List ℕ) → block_bytes m ≤ length input
    → take (length (take (block_bytes m) input) / 4) after ≡ words_of (take (block_bytes m) input)
    → take (block_words m) after ≡ words_of (take (block_bytes m) input)
block_read m input after room e =
    let n : length (take (block_bytes m) input) / 4 ≡ block_words m = rw (length-take-le (block_bytes m) input room)
    (omega arith) in
    rw n at e

-- what is refused before build leaves the trays as they are
lamps-early : (input : List ℕ) → Early (block_lamps input)
unfolding block_lamps
lamps-early input =
    let m = get_or (words_of input) 0 0 in
    only-cond (ltb (length input) 4) (only-refused (omega arith))
    (only-cond (ltb report_lamps m) (only-refused (omega arith))
    (only-cond (ltb (length input) (block_bytes m)) (only-refused (omega arith)) only-given))

pub unbuilt : (input : List ℕ) (n : ℕ) → block_lamps input ≡ refused n
    → (written : LightBVH → List ℕ) (reserve : ℕ) (before : List ℕ)
    → before ≡ tray written reserve (refused n) before
unbuilt input n e written reserve before = sym (tray-early written reserve before n (only-number (lamps-early input) e))

-- ---- the answer

pub sizes-given : (m : ℕ) (ws : List ℕ) (k : ℕ) → given k ≡ powered (summary (tree_of m ws))
    → given (m, k) ≡ sizes (tree_of m ws)
unfolding tree_of sizes powered
sizes-given m ws k e = go (tree_of m ws) refl e
  where
    go : (x : Answer LightBVH) → tree_of m ws ≡ x → given k ≡ powered (summary x) → given (m, k) ≡ sizes x
    go (given b) is e = rw (rows_are m ws _ _ _ b is, given_injective e)
    go (refused n) is e = absurd (not-both (sym e) refl)

pub sizes-refused : (x : Answer LightBVH) (n : ℕ) → refused n ≡ powered (summary x) → refused n ≡ sizes x
unfolding sizes powered
sizes-refused (given b) n e = absurd (not-both e refl)
sizes-refused (refused m) n e = ap refused (refused_injective {A = ℕ} e)

sizes-tree : (t : Answer LightBVH) (m k : ℕ) → given (m, k) ≡ sizes t → (b : LightBVH) × (t ≡ given b) × (m ≡ b.rows)
    × (k ≡ b.k)
unfolding sizes
sizes-tree (given b) m k e =
    (b, refl, ap (λ (p : ℕ × ℕ). p.0) (given_injective e), ap (λ (p : ℕ × ℕ). p.1) (given_injective e))
sizes-tree (refused n) m k e = absurd (not-both (sym e) refl)

sizes-none : (t : Answer LightBVH) (n : ℕ) → refused n ≡ sizes t → t ≡ refused n
unfolding sizes
sizes-none (given b) n e = absurd (not-both refl (sym e))
sizes-none (refused m) n e = ap refused (sym (refused_injective {A = ℕ × ℕ} e))

-- ---- what `Opened` says

abbrev pub groups : ℕ → ℕ → ℕ → Opened
groups lines nodes table = record { lines = lines; tree = Some (record { nodes = nodes; table = table }) }

abbrev pub ended : ℕ → Opened
ended lines = record { lines = lines; tree = None }

pub opened-lines : (t : Answer LightBVH) → (opened_of t).lines ≡ length (first_lines t)
unfolding opened_of
opened-lines (given b) = refl
opened-lines (refused n) = refl

pub opened-tree : (t : Answer LightBVH) (ends : TreeEnds) → (opened_of t).tree ≡ Some ends
    → (ends.nodes ≡ length (node_bytes t)) × (ends.table ≡ length (table_bytes t))
unfolding opened_of
opened-tree (given b) ends e = grind arith
opened-tree (refused n) ends e = grind arith

-- ---- the tree's bytes

-- of a tree that was taken, with so many lamps and so many of them powered
module _ (front : List ℕ) (m k : ℕ) (sized : given (m, k) ≡ sizes (report_tree front)) where
  pub sizes-few : (k ≤ m) × (m ≤ report_lamps)
  sizes-few =
      let (b, is, rows, count) = sizes-tree (report_tree front) m k sized in
      let tree = tree-of front b is in
      (omega (arith, rows, count, tree.powered), omega (arith, rows, tree.few))

  -- the words that are handed on, at the front of the trays
  pub nodes-front : (reserve : ℕ) (before after : List ℕ)
      → after ≡ tray nodes_written reserve
      (report_tree front) before
      → bytes_of (take (nodes_reserve k) after) ≡ node_bytes (report_tree front)
  unfolding node_bytes
  nodes-front reserve before after e =
      let (b, is, rows, count) = sizes-tree (report_tree front) m k sized in
      let given_is = e ∙ ap (λ (t : Answer LightBVH). tray nodes_written reserve t before) is in
      let words = tray-front nodes_written reserve (nodes_reserve k) b before
      ((tree-of front b is).nodes ∙ ap nodes_reserve (sym count)) in
      ap (λ (l : List ℕ). bytes_of (take (nodes_reserve k) l)) given_is ∙ ap bytes_of words ∙ ap node_bytes (sym is)

  pub table-front : (reserve : ℕ) (before after : List ℕ)
      → after ≡ tray table_written reserve
      (report_tree front) before
      → bytes_of (take m after) ≡ table_bytes (report_tree front)
  unfolding table_bytes
  table-front reserve before after e =
      let (b, is, rows, count) = sizes-tree (report_tree front) m k sized in
      let given_is = e ∙ ap (λ (t : Answer LightBVH). tray table_written reserve t before) is in
      let words = tray-front table_written reserve m b before ((tree-of front b is).table ∙ sym rows) in
      ap (λ (l : List ℕ). bytes_of (take m l)) given_is ∙ ap bytes_of words ∙ ap table_bytes (sym is)

  pub first-header : header_bytes ≡ first_lines (report_tree front)
  unfolding first_lines
  first-header = let (b, is, rows, count) = sizes-tree (report_tree front) m k sized in sym (ap first_lines is)

  pub opened-groups : (lines nodes table : ℕ) → lines ≡ length header_bytes
      → nodes ≡ length (node_bytes (report_tree front))
      → table ≡ length (table_bytes (report_tree front)) → groups lines nodes table ≡ opened_of (report_tree front)
  unfolding opened_of first_lines
  opened-groups lines nodes table e f g =
      let (b, is, rows, count) = sizes-tree (report_tree front) m k sized in
      let walked = f ∙ ap (λ (t : Answer LightBVH). length (node_bytes t)) is in
      let tabled = g ∙ ap (λ (t : Answer LightBVH). length (table_bytes t)) is in
      rw (e, walked, tabled) (sym (ap opened_of is))

-- ---- a bad block

-- there are no bytes of a tree, and the first lines end with the refusal
pub record Ends (t : Answer LightBVH) (before : List ℕ) (end : ℕ) (after : List ℕ) : Type 0 where
  pub opened : ended end ≡ opened_of t
  pub no-nodes : [] ≡ node_bytes t
  pub no_table : [] ≡ table_bytes t
  pub lines : after ≡ sets before 0 (first_lines t)
  pub few : end ≤ 36

-- the header and the refusal stand behind each other
pub ended-first : (t : Answer LightBVH) (n : ℕ) → refused n ≡ sizes t
    → (before : List ℕ) (header count : ℕ) {said after : List ℕ}
    → 36 ≤ length before → (said ≡ sets before 0 header_bytes) × (header ≡ length header_bytes)
    → (after ≡ sets said header (fitting said header (refusal_line n))) ×
    (count ≡ length (fitting said header (refusal_line n)))
    → Ends t before (header + count) after
unfolding opened_of first_lines node_bytes table_bytes line_bytes
ended-first t n none before header count {said} {after} room (first, long) (second, more) =
    let kept : length said ≡ length before = rw first (length-sets before 0 header_bytes) in
    let start : Put before 0 header_bytes said header = record { is = first; past = long } in
    let line : Put said header (refusal_line n) after (header + count) = put-fits
    (omega (arith, kept, room, long, refusal-short n)) second more in
    let both = put_then start line in
    let end = length-append header_bytes (refusal_line n) in
    rw (sizes-none t n none)
    (record {
      opened = ap ended (both.past ∙ zero-add _);
      no-nodes = refl;
      no_table = refl;
      lines = both.is;
      few = omega (arith, both.past, end, refusal-short n);
    })

-- ---- room

-- nodes and table of as many lamps as a report takes
pub tree-room : (front : List ℕ) (t : Answer LightBVH) → report_tree front ≡ t → (length (node_bytes t) ≤ 65472)
    × (length (table_bytes t) ≤ 2048)
unfolding node_bytes table_bytes
tree-room front (given b) is =
    let tree = tree-of front b is in (
      rw (length-bytes_of (nodes_written b)) (omega (arith, tree.nodes, tree.powered, tree.few)),
      rw (length-bytes_of (table_written b)) (omega (arith, tree.table, tree.few)),
    )
tree-room front (refused n) is = (omega arith, omega arith)

pub first-room : (t : Answer LightBVH) → length (first_lines t) ≤ 36
unfolding first_lines line_bytes
first-room (given b) = omega arith
first-room (refused n) = rw (length-append header_bytes (line_bytes (refused n))) (omega (arith, refusal-short n))

-- ---- what is handed on

-- the front part of a slice at whose front text was put, as long as the text
pub handed-front : (before text : List ℕ) {after : List ℕ} (n : ℕ) → length text ≤ length before
    → after ≡ sets before 0 text → n ≡ length text
    → take n after ≡ text
handed-front before text n room is long = rw (sub-zero n) at (handed before text n room is long)

-- a chunk's lines
pub lines-handed : (t : Answer LightBVH) (nodes table groups before : List ℕ) {after : List ℕ} (n : ℕ)
    → (nodes ≡ node_bytes t) × (table ≡ table_bytes t)
    → (after ≡ sets before 0 (report_lines nodes table groups)) ×
    ((n ≡ length (report_lines nodes table groups)) × (n ≤ length before))
    → take n after ≡ chunk_lines t groups
lines-handed t nodes table groups before n (walked, tabled) (is, (long, room)) =
    rw (← walked, ← tabled)
    (handed-front before (report_lines nodes table groups) n (omega (arith, long, room)) is long)
