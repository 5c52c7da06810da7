-- Functions of lists that definitions of several crates cite: the items that pass a test, a list over the front of
-- another, the reverse, the last, the sort of numbers, and how often a number stands in a list. Definitions only. Assumes
-- nothing.
use Rattle.std.specs.Prelude.{ℕ, ◌+◌, Bool, cond, List, [], ◌∷◌, ◌++◌, leb, eqb}

-- the items that pass a test
unfoldable pub kept : {A : Type 0} → (A → Bool) → List A → List A
kept test [] = []
kept test (x ∷ xs) = cond (test x) (x ∷ kept test xs) (kept test xs)

-- the last first
unfoldable pub reversed : {A : Type 0} → List A → List A
reversed [] = []
reversed (x ∷ xs) = reversed xs ++ (x ∷ [])

-- ---- the sort, by insertion

unfoldable pub insert : ℕ → List ℕ → List ℕ
insert x [] = x ∷ []
insert x (y ∷ ys) = cond (leb x y) (x ∷ y ∷ ys) (y ∷ insert x ys)

unfoldable pub sorted : List ℕ → List ℕ
sorted [] = []
sorted (x ∷ xs) = insert x (sorted xs)

-- ---- how often a number stands in a list

abbrev pub once : ℕ → ℕ → ℕ
once x y = cond (eqb x y) 1 0

unfoldable pub often : ℕ → List ℕ → ℕ
often x [] = 0
often x (y ∷ ys) = once x y + often x ys
