-- `build_subtree` of `light_bvh.rs`: a stretch of handles, rows of a block, to a tree. Definitions only. Assumes
-- nothing.
use Rattle.std.specs.Prelude.{ℕ, zero, suc, List, [], ◌∷◌, get_or}
use Rattle.words.specs.Answers.{Answer, given, refused, ◌then◌}
use Rattle.light_bounds.specs.LightBounds.{union}
use Rattle.light_bounds.specs.declared.light_bounds.LightBounds.{LightBounds}
use Rattle.light_rows.specs.Block.{handle_place}
use Rattle.light_rows.specs.Tree.{Tree, leaf, fork, bounds}
use Rattle.light_split.specs.Lights.{light_of}
use Rattle.light_split.specs.Partition.{partition_handles}
use Rattle.light_split.specs.Split.{choose_split}
use Rattle.light_split.specs.declared.split.Split.{Split}

-- a leaf's label is the handle word of its row
abbrev pub label_of : List ℕ → ℕ → ℕ
label_of ws h = get_or ws (handle_place h) 0

-- a fork over the trees of the halves, the left one built whole before the right
unfoldable pub forked : List ℕ → List ℕ → (List ℕ → Answer Tree) → Answer Tree
forked ws hs build =
    choose_split ws hs then λ (s : Split). build (partition_handles ws hs s).0 then λ (l : Tree). build
    (partition_handles ws hs s).1 then λ (r : Tree).
    union (bounds l) (bounds r) then λ (b : LightBounds). given (fork b l r)

-- the tree of a stretch, by those of shorter ones; an empty stretch, which the Rust calls an error, is met in no build
unfoldable pub tree_by : List ℕ → List ℕ → (List ℕ → Answer Tree) → Answer Tree
tree_by ws [] build = refused 12
tree_by ws (h ∷ []) build = given (leaf (label_of ws h) (light_of ws h))
tree_by ws (h ∷ i ∷ hs) build = forked ws (h ∷ i ∷ hs) build

-- The number bounds the depth. Each half is shorter than its stretch, so the stretch's length is enough.
unfoldable pub build_subtree : List ℕ → ℕ → List ℕ → Answer Tree
build_subtree ws zero hs = tree_by ws hs (λ (_ : List ℕ). refused 12)
build_subtree ws (suc n) hs = tree_by ws hs (λ (hs : List ℕ). build_subtree ws n hs)
