-- A row of a block as it is written. Definitions only. Assumes nothing.
use Rattle.std.specs.Prelude.{ℕ, ◌+◌, cond, List, leb, length}
use Rattle.std.proofs.lemmas.List.Edits.{sets}
use Rattle.light_bounds.specs.declared.light_bounds.LightBounds.{LightBounds}
use Rattle.light_rows.specs.Block.{bounds_row, handle_place, bounds_words}

-- a row, its place as its handle; where there are too few words nothing is written
unfoldable pub row_written : List ℕ → ℕ → LightBounds → List ℕ
row_written ws i b = cond (leb (handle_place i + bounds_words) (length ws)) (sets ws (handle_place i)
    (bounds_row i b)) ws
