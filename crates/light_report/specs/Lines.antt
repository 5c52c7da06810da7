-- The lines of the report, in ASCII, as R13.4 has them: what a group of seven
-- words draws, and how it is written. Chances are written as their words' eight hexadecimal digits, handles and
-- refusals in decimal. Definitions only. Assumes nothing.
use Rattle.std.specs.Prelude.{ℕ, zero, suc, ◌+◌, ◌*◌, ◌/◌, ◌%◌, cond, List, [], ◌∷◌, ◌++◌, eqb, Float, length, get_or}
use Rattle.std.specs.Prelude.{take, drop}
use Rattle.std.specs.Prelude.{Result, Ok, Err, Some, None}
use Rattle.std.specs.Prelude.{Option as Option-of-std}
use Rattle.std.proofs.Math.Option.{Option, none, some}
use Rattle.std.specs.Float.{binary32}
use Rattle.std.specs.Float.Ieee.{to_bits}
use Rattle.ieee.specs.Single.{single}
use Rattle.words.specs.Answers.{Answer, given, refused, ◌then◌}
use Rattle.words.specs.LittleEndian.{words_of}
use Rattle.words.specs.Refusals.{number}
use Rattle.light_rows.specs.QueryWords.{query_of, query_words}
use Rattle.light_bounds.specs.declared.importance.Query.{Query}
use Rattle.light_sampler.specs.Sampler.{sample, pmf}
use Rattle.light_sampler.specs.Walks.{Draw}
use Rattle.text.specs.Text.{decimal_bytes, hex_bytes, newline, refusal_line}
use Rattle.words.specs.declared.refusals.Refusal.{Refusal}
use Rattle.light_report.specs.declared.lines.Line.{Line}

-- ---- what a group draws

-- a lamp, its chance as drawn and its chance by name; or none
abbrev pub Shown : Type 0
Shown = Option (ℕ × (Float × Float))

-- the lamp drawn with its chance by name beside the drawn one
unfoldable pub named : List ℕ → List ℕ → Query → Draw → Answer Shown
named nodes table q none = given none
named nodes table q (some d) = pmf nodes table q d.0 then λ (chance : Float). given (some (d.0, (d.1, chance)))

abbrev pub shown : List ℕ → List ℕ → Query → Float → Answer Shown
shown nodes table q u = sample nodes q u then named nodes table q

-- a group's words: p, n, u
abbrev pub group_words : ℕ
group_words = query_words + 1

abbrev pub group_shown : List ℕ → List ℕ → List ℕ → Answer Shown
group_shown nodes table ws = shown nodes table (query_of ws) (single (get_or ws query_words 0))

-- ---- how it is written

-- a space and a float's bits
unfoldable pub chance_bytes : Float → List ℕ
chance_bytes x = 32 ∷ hex_bytes (to_bits binary32 x)

-- `none`, with the line's end
abbrev pub none_bytes : List ℕ
none_bytes = 110 ∷ 111 ∷ 110 ∷ 101 ∷ 10 ∷ []

unfoldable pub line_bytes : Answer Shown → List ℕ
line_bytes (given (some (
  handle,
  (drawn, chance),
))) = decimal_bytes handle ++ chance_bytes drawn ++ chance_bytes chance ++ newline
line_bytes (given none) = none_bytes
line_bytes (refused n) = refusal_line n

-- ---- the lines of the bytes behind the block

-- a group's line
abbrev pub group_line : List ℕ → List ℕ → List ℕ → List ℕ
group_line nodes table group = line_bytes (group_shown nodes table (words_of group))

-- those of the first n groups
unfoldable pub group_lines : List ℕ → List ℕ → List ℕ → ℕ → List ℕ
group_lines nodes table bytes zero = []
group_lines nodes table bytes (suc n) = group_lines nodes table bytes n ++ group_line nodes table
    (take 28 (drop (28 * n) bytes))

-- bytes that are no whole group are a part group, and that is refusal 1
unfoldable pub part_line : List ℕ → List ℕ
part_line bytes = cond (eqb (length bytes % 28) 0) [] (line_bytes (refused 1))

unfoldable pub report_lines : List ℕ → List ℕ → List ℕ → List ℕ
report_lines nodes table bytes = group_lines nodes table bytes (length bytes / 28) ++ part_line bytes

-- ---- what a group's draw answers

abbrev pub line : Result (Option-of-std Line) Refusal → Answer Shown
line (Ok (Some l)) = given (some (l.handle, (l.drawn, l.named)))
line (Ok None) = given none
line (Err why) = refused (number why)
