-- What demand 3 says of the nodes and the handle table that build leaves, as docs/REQUIREMENTS.md R8
-- explains it; light_runs DemandWords has the words on draws. Definitions only. Assumes nothing.
use Rattle.std.specs.Prelude.{ℕ, zero, suc, ◌+◌, ◌≡◌, cond, List, [], ◌∷◌, ◌++◌, get_or}
use Rattle.words.specs.Answers.{Answer, given, refused}
use Rattle.light_bounds.specs.Bounds.{Holds}
use Rattle.light_bounds.specs.declared.light_bounds.LightBounds.{LightBounds}
use Rattle.light_rows.specs.Nodes.{LightBVHNode, leaf, interior, invalid_index, node_at, bounds_at}
use Rattle.light_bvh.specs.Build.{LightBVH, is_powered, table_written}

-- the place that the handle table has for a lamp
abbrev pub place_of : LightBVH → ℕ → ℕ
place_of b h = get_or (table_written b) h invalid_index

-- the number of lamps below m with a phi above 0
unfoldable pub powered_below : List ℕ → ℕ → ℕ
powered_below ws zero = 0
powered_below ws (suc m) = powered_below ws m + cond (is_powered ws m) 1 0

-- the places that child words reach from the node at a place, itself first, at most n forks deep
unfoldable pub reached : List ℕ → ℕ → ℕ → List ℕ
reached ws zero i = i ∷ []
reached ws (suc n) i = i ∷ children (node_at ws i) (λ (j : ℕ). reached ws n j)
  where
    children : Answer LightBVHNode → (ℕ → List ℕ) → List ℕ
    children (given (interior l r p)) from = from l ++ from r
    children (given (leaf h p)) from = []
    children (refused n) from = []

-- n places from a place on
unfoldable pub places_from : ℕ → ℕ → List ℕ
places_from i zero = []
places_from i (suc n) = i ∷ places_from (i + 1) n

-- a fork's box holds its children's
pub record HoldsChildren (ws : List ℕ) (i l r : ℕ) : Type 0 where
  pub own : LightBounds
  pub left : LightBounds
  pub right : LightBounds
  pub own_is : bounds_at ws i ≡ given own
  pub left_is : bounds_at ws l ≡ given left
  pub right_is : bounds_at ws r ≡ given right
  pub holds-left : Holds own.bounds left.bounds
  pub holds-right : Holds own.bounds right.bounds
