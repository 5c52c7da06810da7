-- Whether a node's row is there and its head has room, and what is written. Definitions only. Assumes nothing.
use Rattle.std.specs.Prelude.{ℕ, suc, Bool, ◌&&◌, cond, List, leb, ltb, length}
use Rattle.light_rows.specs.Nodes.{node_place, node_list, LightBVHNode, leaf, interior}
use Rattle.std.proofs.lemmas.List.Edits.{sets}
use Rattle.light_bounds.specs.declared.light_bounds.LightBounds.{LightBounds}

-- a head has thirty bits for a handle or a left child
abbrev pub head_fits : LightBVHNode → Bool
head_fits (leaf h p) = ltb h 0x4000_0000
head_fits (interior l r p) = ltb l 0x4000_0000

-- whether a node can be written at a place: its row is there, and its head has room for the handle or the left child
unfoldable pub node_fits : List ℕ → ℕ → LightBVHNode → Bool
node_fits ws i n = leb (node_place (suc i)) (length ws) && head_fits n

-- where it cannot, nothing is
unfoldable pub node_written : List ℕ → ℕ → LightBVHNode → LightBounds → List ℕ
node_written ws i n b = cond (node_fits ws i n) (sets ws (node_place i) (node_list n b)) ws
