-- The whole light report (R13): a bounds block and groups in, lines out. `report`
-- says what the program writes for what it reads. No promise can speak of reading and writing: those of its
-- functions say which bytes are handed to each write, of the bytes that were read, and `written` what these are
-- together. Definitions only. Assumes nothing.
use Rattle.std.specs.Prelude.{ℕ, ◌*◌, cond, List, [], ◌∷◌, ◌++◌, ltb, length, get_or, take, drop}
use Rattle.words.specs.Answers.{Answer, given, refused, ◌then◌}
use Rattle.words.specs.LittleEndian.{words_of, bytes_of}
use Rattle.light_rows.specs.Block.{block_words}
use Rattle.light_bvh.specs.Build.{LightBVH, build_light_bvh, nodes_reserve, work_reserve, nodes_written, table_written}
use Rattle.light_report.specs.Lines.{line_bytes, report_lines}

-- lamps of a report's block
abbrev pub report_lamps : ℕ
report_lamps = 512

-- the bytes of a block of m lamps
abbrev pub block_bytes : ℕ → ℕ
block_bytes m = 4 * block_words m

-- How many lamps the block at the front has. Without a word 0 it is refused as 1, by a word 0 above 512 as 2
-- though it be cut, cut short as 1.
unfoldable pub block_lamps : List ℕ → Answer ℕ
block_lamps input =
    let m = get_or (words_of input) 0 0 in
    cond (ltb (length input) 4) (refused 1)
    (cond (ltb report_lamps m) (refused 2) (cond (ltb (length input) (block_bytes m)) (refused 1) (given m)))

-- what build makes of it, lent the reserves of 512 lamps; the record count is word 0
unfoldable pub tree_of : ℕ → List ℕ → Answer LightBVH
tree_of m block = build_light_bvh m block (nodes_reserve report_lamps) report_lamps (work_reserve report_lamps)

unfoldable pub report_tree : List ℕ → Answer LightBVH
report_tree input = block_lamps input then λ (m : ℕ). tree_of m (words_of (take (block_bytes m) input))

-- `lamp drawn named`, with the line's end
abbrev pub header_bytes : List ℕ
header_bytes = 108 ∷ 97 ∷ 109 ∷ 112 ∷ 32 ∷ 100 ∷ 114 ∷ 97 ∷ 119 ∷ 110 ∷ 32 ∷ 110 ∷ 97 ∷ 109 ∷ 101 ∷ 100 ∷ 10 ∷ []

-- a bad block ends the report
unfoldable pub behind_header : List ℕ → Answer LightBVH → List ℕ
behind_header input (given b) = report_lines (bytes_of (nodes_written b)) (bytes_of (table_written b))
    (drop (block_bytes b.rows) input)
behind_header input (refused n) = line_bytes (refused n)

unfoldable pub report : List ℕ → List ℕ
report input = header_bytes ++ behind_header input (report_tree input)
