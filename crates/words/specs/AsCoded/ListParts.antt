-- A list over the front of another, and the last item. Definitions only. Assumes nothing.
use Rattle.std.specs.Prelude.{ℕ, List, [], ◌∷◌, ◌++◌, length, drop}

-- a list written over the front of another
abbrev pub laid : {A : Type 0} → List A → List A → List A
laid xs ys = xs ++ drop (length xs) ys

-- the last one, 0 for an empty list
unfoldable pub last_of : List ℕ → ℕ
last_of [] = 0
last_of (i ∷ []) = i
last_of (i ∷ j ∷ is) = last_of (j ∷ is)
