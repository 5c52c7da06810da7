-- Rows: bounds blocks and bins of the alias table are rows of words of a fixed width, behind a head or none, written by
-- one function of a row's place and its item. Definitions only. Assumes nothing.
use Rattle.std.specs.Prelude.{ℕ, zero, suc, Bool, true, ◌&&◌, List, [], ◌∷◌, ◌++◌}

-- the rows of a list, the first at place i
unfoldable pub rows_from : {A : Type 0} → (ℕ → A → List ℕ) → ℕ → List A → List ℕ
rows_from row i [] = []
rows_from row i (x ∷ xs) = row i x ++ rows_from row (suc i) xs

-- a test at every place below n
unfoldable pub below : (ℕ → Bool) → ℕ → Bool
below test zero = true
below test (suc n) = below test n && test n
