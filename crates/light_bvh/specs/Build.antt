-- `build_light_bvh` of `light_bvh.rs`, in the order of R5.2 to R5.4: 2, 1, 4, 3, each record's check, then the tree.
-- Definitions only. Assumes nothing.
use Rattle.std.specs.Prelude.{ℕ, zero, suc, ◌-◌, ◌*◌, Bool, cond, ◌||◌, List, [], ◌∷◌, ◌++◌, eqb, ltb, length, set}
use Rattle.std.specs.Prelude.{replicate}
use Rattle.std.proofs.Math.Option.{Option, none, some}
use Rattle.std.specs.Float.Ieee.{lt}
use Rattle.ieee.specs.Single.{zerof}
use Rattle.words.specs.Answers.{Answer, given, refused, ◌then◌}
use Rattle.words.specs.Refusals.{number}
use Rattle.light_bounds.specs.Bounds.{box_union}
use Rattle.light_bounds.specs.LightBounds.{validate}
use Rattle.light_bounds.specs.declared.bounds.Bounds3.{Bounds3}
use Rattle.light_rows.specs.Block.{block_layout, block_handles}
use Rattle.light_rows.specs.Nodes.{node_words, invalid_index}
use Rattle.light_rows.specs.Tree.{Tree, leaf, fork, right_place, tree_words}
use Rattle.light_split.specs.Lights.{light_of}
use Rattle.light_bvh.specs.Subtree.{build_subtree}
use Rattle.light_bvh.specs.declared.build.Built.{Built}
use Rattle.std.specs.Prelude.{Option as Option-of-std, Some, None, Result, Ok, Err}
use Rattle.words.specs.declared.refusals.Refusal.{Refusal}

-- ---- the powered lamps

abbrev pub is_powered : List ℕ → ℕ → Bool
is_powered ws h = lt zerof (light_of ws h).phi

-- `bounded_handles`: of the first n rows, those with a phi above 0
unfoldable pub bounded_handles : List ℕ → ℕ → List ℕ
bounded_handles ws zero = []
bounded_handles ws (suc n) = bounded_handles ws n ++ cond (is_powered ws n) (n ∷ []) []

-- `all_bounds`: the box of just these
abbrev pub grown : Option Bounds3 → Bounds3 → Option Bounds3
grown none b = some b
grown (some a) b = some (box_union a b)

unfoldable pub all_bounds : List ℕ → ℕ → Option Bounds3
all_bounds ws zero = none
all_bounds ws (suc n) = cond (is_powered ws n) (grown (all_bounds ws n) (light_of ws n).bounds) (all_bounds ws n)

-- every record is checked, unpowered ones too
unfoldable pub validated : List ℕ → ℕ → Answer (Unit {0})
validated ws zero = given tt
validated ws (suc n) = validated ws n then λ _. validate (light_of ws n)

-- ---- the tree

-- `LightBVH`: the number of rows, k and the box, and the tree, which there is where k is above 0
pub record LightBVH : Type 0 where
  pub rows : ℕ
  pub k : ℕ
  pub all-bounds : Option Bounds3
  pub tree : Option Tree

unfoldable pub tree_of : List ℕ → List ℕ → Answer (Option Tree)
tree_of ws [] = given none
tree_of ws (h ∷ hs) = build_subtree ws (length (h ∷ hs)) (h ∷ hs) then λ (t : Tree). given (some t)

-- the core, behind the checks
unfoldable pub built_bvh : List ℕ → ℕ → Answer LightBVH
built_bvh ws m =
    let handles = bounded_handles ws m in
    tree_of ws handles then λ (t : Option Tree). given
    (record { rows = m; k = length handles; all-bounds = all_bounds ws m; tree = t })

-- the reserves of m rows
abbrev pub nodes_reserve : ℕ → ℕ
nodes_reserve m = node_words * (2 * m - 1)

abbrev pub work_reserve : ℕ → ℕ
work_reserve m = 2 * m

-- a slice that is lent is under its reserve
abbrev pub is_short : ℕ → ℕ → ℕ → ℕ → Bool
is_short m nodes table work = ltb nodes (nodes_reserve m) || (ltb table m || ltb work (work_reserve m))

-- 2 and 1 of the block, 1 where the light records are not as many as the rows, 4, 3: how many rows there are
unfoldable pub build_check : ℕ → List ℕ → ℕ → ℕ → ℕ → Answer ℕ
build_check lights ws nodes table work =
    block_layout ws then λ (m : ℕ). cond (eqb lights m) (given m) (refused 1) then λ (m : ℕ).
    block_handles ws then λ (m : ℕ). cond (is_short m nodes table work) (refused 3) (given m)

unfoldable pub build_light_bvh : ℕ → List ℕ → ℕ → ℕ → ℕ → Answer LightBVH
build_light_bvh lights ws nodes table work =
    build_check lights ws nodes table work then λ (m : ℕ). validated ws m then λ _. built_bvh ws m

-- ---- what is written

unfoldable pub nodes_written : LightBVH → List ℕ
nodes_written b = words b.tree
  where
    words : Option Tree → List ℕ
    words none = []
    words (some t) = tree_words t

-- `handle_to_leaf`: each leaf's place at its label
unfoldable pub tabled : ℕ → Tree → List ℕ → List ℕ
tabled at (leaf h b) table = set table h at
tabled at (fork b l r) table = tabled (right_place at l) r (tabled (suc at) l table)

unfoldable pub table_written : LightBVH → List ℕ
table_written b = over b.tree (replicate b.rows invalid_index)
  where
    over : Option Tree → List ℕ → List ℕ
    over none table = table
    over (some t) table = tabled 0 t table

abbrev pub work_written : LightBVH → List ℕ
work_written b = []

-- ---- what is answered: k, and the box of the powered lamps or its absence

abbrev pub summary : Answer LightBVH → Answer (ℕ × Option Bounds3)
summary (given b) = given (b.k, b.all-bounds)
summary (refused n) = refused n

abbrev pub built : Result (Option-of-std Built) Refusal → Answer (ℕ × Option Bounds3)
built (Ok (Some b)) = given (b.powered, some b.bounds)
built (Ok None) = given (0, none)
built (Err why) = refused (number why)
