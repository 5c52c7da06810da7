-- What the program hands to its writes, of a front and of the chunks behind it, is the report of all that was
-- read. Assumes nothing.
use Rattle.std.specs.Prelude.{ℕ, ◌%◌, ◌≤◌, ◌≡◌, refl, Bool, true, false, cond, ◌⊎◌, ltb, length, get_or}
use Rattle.std.proofs.Common.{sym, ap, ◌∙◌, ⊎_elim, arith, le-ltb, drop_at}
use mathlib.Core.List.{List, [], ◌∷◌, ◌++◌, flatten, append-nil}
use Rattle.std.proofs.Math.Seq.{take-append_seam}
use Rattle.words.specs.Answers.{Answer, given, refused}
use Rattle.words.specs.LittleEndian.{words_of}
use Rattle.light_bvh.specs.Build.{LightBVH}
use Rattle.light_report.specs.Lines.{line_bytes, report_lines, group_lines, part_line}
use Rattle.light_report.specs.Report.{report_lamps, block_bytes, report_tree, header_bytes, behind_header, report}
use Rattle.light_report.specs.AsCoded.Written.{front_bytes, first_lines, node_bytes, table_bytes}
use Rattle.light_report.specs.AsCoded.Written.{chunk_lines, all_lines, behind_first, written}
use Rattle.light_report.specs.Laws.ReportLaws.{report_chunks, front-word, lamps-there, tree-front}
use Rattle.light_report.specs.Laws.TreeLaws.{tree-of}

-- the front that is read: as many bytes as the block takes, or all that there are
abbrev pub Fronted : List ℕ → List ℕ → Type 0
Fronted front rest = (length front ≤ front_bytes front) × ((length front ≡ front_bytes front) ⊎ (rest ≡ []))

-- every chunk but the last is of whole groups
abbrev pub WholeButLast : List (List ℕ) → Type 0
WholeButLast [] = Unit
WholeButLast (c ∷ []) = Unit
WholeButLast (c ∷ d ∷ cs) = (length c % 28 ≡ 0) × WholeButLast (d ∷ cs)

-- ---- chunks

chunks-lines : (t : Answer LightBVH) (chunks : List (List ℕ)) → WholeButLast chunks
    → all_lines t chunks ≡ chunk_lines t (flatten chunks)
unfolding flatten report_lines group_lines part_line
chunks-lines t [] whole = refl
chunks-lines t (c ∷ []) whole = append-nil (chunk_lines t c) ∙ ap (chunk_lines t) (sym (append-nil c))
chunks-lines t (c ∷ d ∷ cs) (whole, rest) =
    ap (λ (l : List ℕ). chunk_lines t c ++ l) (chunks-lines t (d ∷ cs) rest)
    ∙ sym (report_chunks (node_bytes t) (table_bytes t) c (flatten (d ∷ cs)) whole)

-- ---- the front

front-least : (front : List ℕ) → 4 ≤ front_bytes front
unfolding front_bytes
front-least front = go (ltb report_lamps (get_or (words_of front) 0 0))
  where
    go : (b : Bool) → 4 ≤ cond b 4 (block_bytes (get_or (words_of front) 0 0))
    go true = omega arith
    go false = omega arith

-- a word 0 that is within a report's lamps
front-few : (front : List ℕ) (m : ℕ) → get_or (words_of front) 0 0 ≡ m → m ≤ report_lamps
    → front_bytes front ≡ block_bytes
    m
unfolding front_bytes
front-few front m word few = rw (word, le-ltb report_lamps m few)

module _ (front rest : List ℕ) (fronted : Fronted front rest) where
  -- the front tells of the tree what all tells
  tree-read : report_tree (front ++ rest) ≡ report_tree front
  tree-read = ⊎_elim whole (λ none. rw none (ap report_tree (append-nil front))) fronted.1
    where
      whole : length front ≡ front_bytes front → report_tree (front ++ rest) ≡ report_tree front
      whole all =
          let word : 4 ≤ length front = omega (arith, all, front-least front) in
          let cut = take-append_seam front rest in
          let same : get_or (words_of front) 0 0 ≡ get_or (words_of (front ++ rest)) 0 0 = rw cut at
          (front-word (front ++ rest) (length front) word) in
          sym (rw cut at (tree-front (front ++ rest) (length front) word (λ m is.
          let (zero, few, _) = lamps-there (front ++ rest) m is in
          omega (arith, all, front-few front m (same ∙ zero) few))))

  -- a block that is taken is all of the front
  block-is : (b : LightBVH) → report_tree front ≡ given b → length front ≡ block_bytes b.rows
  block-is b is =
      let tree = tree-of front b is in
      omega (arith, fronted.0, tree.there, front-few front b.rows tree.word tree.few)

pub report-written : (front : List ℕ) (chunks : List (List ℕ)) → Fronted front (flatten chunks) → WholeButLast chunks
    → written front chunks ≡ report (front ++ flatten chunks)
unfolding written report behind_header behind_first first_lines node_bytes table_bytes
report-written front chunks fronted whole = rw (tree-read front (flatten chunks) fronted) (go (report_tree front) refl)
  where
    go : (t : Answer LightBVH) → report_tree front ≡ t
        → first_lines t ++ behind_first t chunks ≡ header_bytes ++ behind_header (front ++ flatten chunks) t
    go (given b) is =
        let behind = drop_at front (flatten chunks) (block_bytes b.rows)
        (block-is front (flatten chunks) fronted b is) in
        rw behind (ap (λ (l : List ℕ). header_bytes ++ l) (chunks-lines (given b) chunks whole))
    go (refused n) is = append-nil (header_bytes ++ line_bytes (refused n))
