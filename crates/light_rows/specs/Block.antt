-- The bounds block: `pack_exhaustive_bounds` of `light_sampler.rs`. A count, then rows of a handle and a record. The
-- layout of a row is said here alone. Definitions only. Assumes nothing.
use Rattle.std.specs.Prelude.{ℕ, ◌+◌, ◌*◌, Bool, cond, ◌&&◌, List, ◌∷◌, eqb, length, get_or}
use Rattle.words.specs.Answers.{Answer, given, refused, ◌then◌}
use Rattle.words.specs.Limits.{crowded}
use Rattle.words.specs.Rows.{rows_from, below}
use Rattle.light_rows.specs.RecordWords.{record_at, record_list, record_words, side_place}
use Rattle.light_bounds.specs.Side.{side_known}
use Rattle.light_bounds.specs.declared.light_bounds.LightBounds.{LightBounds}

-- `EXHAUSTIVE_BOUNDS_WORDS`: a handle and a record
abbrev pub bounds_words : ℕ
bounds_words = 1 + record_words

-- the reserve of m records
abbrev pub block_words : ℕ → ℕ
block_words m = 1 + bounds_words * m

-- ---- written

abbrev pub bounds_row : ℕ → LightBounds → List ℕ
bounds_row i b = i ∷ record_list b

unfoldable pub pack_exhaustive_bounds : List LightBounds → List ℕ
pack_exhaustive_bounds bs = length bs ∷ rows_from bounds_row 0 bs

-- the places of row i's handle and of its record
abbrev pub handle_place : ℕ → ℕ
handle_place i = 1 + bounds_words * i

abbrev pub record_place : ℕ → ℕ
record_place i = 2 + bounds_words * i

-- ---- read back

abbrev pub side_at : List ℕ → ℕ → Bool
side_at ws i = side_known (get_or ws (side_place (record_place i)) 0)

abbrev pub handle_at : List ℕ → ℕ → Bool
handle_at ws i = eqb (get_or ws (handle_place i) 0) i

-- 2, then 1 of the length and of sides
unfoldable pub block_layout : List ℕ → Answer ℕ
block_layout ws =
    let m = get_or ws 0 0 in
    cond (crowded ws) (refused 2)
    (cond (eqb (length ws) (block_words m) && below (side_at ws) m) (given m) (refused 1))

-- then 4
unfoldable pub block_handles : List ℕ → Answer ℕ
block_handles ws = let m = get_or ws 0 0 in cond (below (handle_at ws) m) (given m) (refused 4)

unfoldable pub block_check : List ℕ → Answer ℕ
block_check ws = block_layout ws then λ _. block_handles ws

-- the record at a place, 1 past the block's end or where its side is unknown
abbrev pub block_record : List ℕ → ℕ → Answer LightBounds
block_record ws i = record_at 1 ws (record_place i)
