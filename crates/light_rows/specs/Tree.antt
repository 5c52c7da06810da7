-- The light tree as data, and as the words that `build_subtree` of `light_bvh.rs` leaves: a node before its left tree,
-- the left before the right. Definitions only. Assumes nothing.
use Rattle.std.specs.Prelude.{ℕ, ◌+◌, ◌*◌, List, [], ◌∷◌, ◌++◌}
use Rattle.light_bounds.specs.declared.light_bounds.LightBounds.{LightBounds}
use Rattle.light_rows.specs.Nodes.{leaf as leaf_node, interior, invalid_index, node_list}

pub data Tree : Type 0 where
  leaf : ℕ → LightBounds → Tree
  fork : LightBounds → Tree → Tree → Tree

abbrev pub bounds : Tree → LightBounds
bounds (leaf h b) = b
bounds (fork b l r) = b

unfoldable pub leaves : Tree → ℕ
leaves (leaf h b) = 1
leaves (fork b l r) = leaves l + leaves r

-- the handles in the order of the leaves
unfoldable pub leaf_handles : Tree → List ℕ
leaf_handles (leaf h b) = h ∷ []
leaf_handles (fork b l r) = leaf_handles l ++ leaf_handles r

-- the right tree stands behind the left one's 2 n - 1 nodes
abbrev pub right_place : ℕ → Tree → ℕ
right_place at l = at + 2 * leaves l

-- a tree whose root stands at a place, under a parent
unfoldable pub flatten : ℕ → ℕ → Tree → List ℕ
flatten at parent (leaf h b) = node_list (leaf_node h parent) b
flatten at parent (fork b l r) =
    node_list (interior (at + 1) (right_place at l) parent) b ++ flatten (at + 1) at l ++ flatten
    (right_place at l) at
    r

-- a whole tree
abbrev pub tree_words : Tree → List ℕ
tree_words t = flatten 0 invalid_index t
