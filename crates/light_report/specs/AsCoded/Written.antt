-- The report as it is written: the first lines, then the lines of each chunk of groups. Definitions only. Assumes
-- nothing.
use Rattle.std.specs.Prelude.{ℕ, cond, ◌≡◌, ltb, length, get_or}
use mathlib.Core.List.{List, [], ◌++◌, map, flatten}
use Rattle.std.specs.Prelude.{Result, Ok, Err, Some, None}
use Rattle.std.proofs.Math.Option.{Option}
use Rattle.std.proofs.lemmas.List.Edits.{sets}
use Rattle.words.specs.Answers.{Answer, given, refused}
use Rattle.words.specs.LittleEndian.{words_of, bytes_of}
use Rattle.words.specs.Refusals.{number}
use Rattle.words.specs.declared.refusals.Refusal.{Refusal}
use Rattle.light_bvh.specs.Build.{LightBVH, nodes_written, table_written}
use Rattle.light_bounds.specs.declared.bounds.Bounds3.{Bounds3}
use Rattle.light_report.specs.declared.Opened.{Opened}
use Rattle.light_report.specs.declared.Taken.{Taken}
use Rattle.light_report.specs.Lines.{line_bytes, report_lines}
use Rattle.light_report.specs.Report.{report_tree, header_bytes, block_bytes, report_lamps}

-- How many bytes the block takes of an input that begins with these: word 0 alone where it tells of too many lamps.
unfoldable pub front_bytes : List ℕ → ℕ
front_bytes head = let m = get_or (words_of head) 0 0 in cond (ltb report_lamps m) 4 (block_bytes m)

-- the lines before the first group's: the header, and behind it the refusal of a bad block
unfoldable pub first_lines : Answer LightBVH → List ℕ
first_lines (given b) = header_bytes
first_lines (refused n) = header_bytes ++ line_bytes (refused n)

-- the bytes that draws walk; none of a bad block
unfoldable pub node_bytes : Answer LightBVH → List ℕ
node_bytes (given b) = bytes_of (nodes_written b)
node_bytes (refused n) = []

unfoldable pub table_bytes : Answer LightBVH → List ℕ
table_bytes (given b) = bytes_of (table_written b)
table_bytes (refused n) = []

-- the lines of a chunk of the bytes behind the block, and of chunks one behind the other
abbrev pub chunk_lines : Answer LightBVH → List ℕ → List ℕ
chunk_lines t chunk = report_lines (node_bytes t) (table_bytes t) chunk

abbrev pub all_lines : Answer LightBVH → List (List ℕ) → List ℕ
all_lines t chunks = flatten (map (chunk_lines t) chunks)

-- what is written of the front of an input and of the chunks that are read behind it; behind a bad block none is read
unfoldable pub behind_first : Answer LightBVH → List (List ℕ) → List ℕ
behind_first (given b) chunks = all_lines (given b) chunks
behind_first (refused n) chunks = []

unfoldable pub written : List ℕ → List (List ℕ) → List ℕ
written front chunks = first_lines (report_tree front) ++ behind_first (report_tree front) chunks

-- what `Opened` says: how many bytes the first lines have, and the tree's where groups follow
unfoldable pub opened_of : Answer LightBVH → Opened
opened_of (given b) = record {
  lines = length (first_lines (given b));
  tree = Some (record { nodes = length (node_bytes (given b)); table = length (table_bytes (given b)) });
}
opened_of (refused n) = record { lines = length (first_lines (refused n)); tree = None }

-- what opening a report leaves: its answer, and in place of what three slices held the tree's bytes and the first lines
pub record Opens (t : Answer LightBVH) (answer : Opened) (nodes table out nodes-left table-left out-left : List ℕ)
    : Type 0 where
  pub opened : answer ≡ opened_of t
  pub nodes-laid : nodes-left ≡ sets nodes 0 (node_bytes t)
  pub table-laid : table-left ≡ sets table 0 (table_bytes t)
  pub lines-laid : out-left ≡ sets out 0 (first_lines t)

-- how many lamps have power
unfoldable pub powered : Answer (ℕ × Option Bounds3) → Answer ℕ
powered (given summary) = given summary.0
powered (refused n) = refused n

-- how many lamps there are, and how many of them have power
unfoldable pub sizes : Answer LightBVH → Answer (ℕ × ℕ)
sizes (given b) = given (b.rows, b.k)
sizes (refused n) = refused n

-- what taking a tree answers
abbrev pub taken : Result Taken Refusal → Answer (ℕ × ℕ)
taken (Ok t) = given (t.lamps, t.powered)
taken (Err why) = refused (number why)
