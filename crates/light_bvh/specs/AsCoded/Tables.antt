-- The handle table as one pass over the nodes writes it. Definitions only. Assumes nothing.
use Rattle.std.specs.Prelude.{ℕ, zero, suc, cond, List, eqb, get_or, set}
use Rattle.words.specs.Heads.{kind_of, handle_of}
use Rattle.light_rows.specs.Nodes.{node_place}

-- a pass over the first n nodes: each leaf's place at its label
unfoldable pub tabled_below : List ℕ → ℕ → List ℕ → List ℕ
tabled_below ws zero table = table
tabled_below ws (suc n) table =
    let head = get_or ws (node_place n) 0 in
    let before = tabled_below ws n table in
    cond (eqb (kind_of head) 1) (set before (handle_of head) n) before
