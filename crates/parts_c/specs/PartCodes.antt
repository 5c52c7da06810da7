-- Answers as words, for C. A record is thirteen words, a query six; too few words or an unknown side are refusal 1.
-- Definitions only. Assumes nothing.
use Rattle.std.specs.Prelude.{ℕ, cond, List, leb, Float, length}
use Rattle.words.specs.Answers.{Answer, given, refused, ◌then◌}
use Rattle.light_bounds.specs.Importance.{importance}
use Rattle.light_bounds.specs.LightBounds.{validate, union}
use Rattle.light_rows.specs.QueryWords.{query_words, query_of}
use Rattle.light_rows.specs.RecordWords.{record_at, record_words}
use Rattle.light_bounds.specs.declared.light_bounds.LightBounds.{LightBounds}

-- a count, or the largest number where it is refused
abbrev pub count_code : Answer ℕ → ℕ
count_code (given n) = n
count_code (refused k) = 0xffff_ffff_ffff_ffff

unfoldable pub validate_words : List ℕ → Answer (Unit {0})
validate_words ws = record_at 1 ws 0 then λ r. validate r

unfoldable pub importance_words : List ℕ → List ℕ → Answer Float
importance_words ws qs =
    cond (leb query_words (length qs)) (record_at 1 ws 0 then λ r. importance r (query_of qs)) (refused 1)

-- `room` words are lent for the answer
unfoldable pub union_words : List ℕ → List ℕ → ℕ → Answer LightBounds
union_words ws vs room =
    record_at 1 ws 0 then λ a. record_at 1 vs 0 then λ b. cond (leb record_words room) (union a b) (refused 3)
