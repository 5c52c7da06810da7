-- A tree that stands in words: each of its nodes is read at its place. Definitions only. Assumes nothing.
use Rattle.std.specs.Prelude.{ℕ, ◌+◌, List}
use Rattle.light_rows.specs.Nodes.{leaf as leaf_node, interior}
use Rattle.light_rows.specs.Tree.{Tree, leaf, fork, right_place}
use Rattle.tree_laws.specs.Laws.PlaceLaws.{Reads}

-- with its root at a place, under a parent
abbrev pub Stands : List ℕ → ℕ → ℕ → Tree → Type 0
Stands ws at p (leaf h b) = Reads ws at (leaf_node h p, b)
Stands ws at p (fork b l r) =
    Reads ws at (
      interior (at + 1) (right_place at l) p,
      b,
    ) × Stands ws (at + 1) at l × Stands ws
    (right_place at l) at
    r
