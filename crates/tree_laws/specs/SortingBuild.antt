-- `build_light_bvh` with `partition_handles` as `light_bvh.rs` has it: where a half is empty it sorts the handles
-- before it cuts them at the middle. Definitions only: `SortLaws` has that this is `build_light_bvh`, which does not
-- sort. Assumes nothing.
use Rattle.std.specs.Prelude.{ℕ, zero, suc, ◌/◌, cond, ◌||◌, List, [], ◌∷◌, ◌++◌, eqb, length, take, drop}
use Rattle.std.proofs.Math.Option.{Option, none, some}
use Rattle.words.specs.Answers.{Answer, given, refused, ◌then◌}
use Rattle.light_bounds.specs.LightBounds.{union}
use Rattle.light_bounds.specs.declared.light_bounds.LightBounds.{LightBounds}
use Rattle.light_rows.specs.Tree.{Tree, leaf, fork, bounds}
use Rattle.light_split.specs.Lights.{light_of}
use Rattle.light_split.specs.Partition.{lefts, rights}
use Rattle.light_split.specs.Split.{choose_split}
use Rattle.light_split.specs.declared.split.Split.{Split}
use Rattle.light_bvh.specs.Build.{LightBVH, bounded_handles, all_bounds, validated, build_check}
use Rattle.light_bvh.specs.Subtree.{label_of}
use Rattle.words.specs.Lists.{sorted}

-- `sorted = left; sorted.extend(right); sorted.sort_unstable(); mid = sorted.len() / 2`
unfoldable pub partition_sorting : List ℕ → List ℕ → Split → List ℕ × List ℕ
partition_sorting ws hs s =
    let l = lefts ws hs s in
    let r = rights ws hs s in
    let all = sorted (l ++ r) in
    let mid = length all / 2 in
    cond (eqb (length l) 0 || eqb (length r) 0) (take mid all, drop mid all) (l, r)

-- what stands on it, step by step as in `build_light_bvh`
unfoldable pub forked_sorting : List ℕ → List ℕ → (List ℕ → Answer Tree) → Answer Tree
forked_sorting ws hs build =
    choose_split ws hs then λ (s : Split). build (partition_sorting ws hs s).0 then λ (l : Tree).
    build (partition_sorting ws hs s).1 then λ (r : Tree). union (bounds l) (bounds r) then λ (b : LightBounds).
    given (fork b l r)

unfoldable pub tree_by_sorting : List ℕ → List ℕ → (List ℕ → Answer Tree) → Answer Tree
tree_by_sorting ws [] build = refused 12
tree_by_sorting ws (h ∷ []) build = given (leaf (label_of ws h) (light_of ws h))
tree_by_sorting ws (h ∷ i ∷ hs) build = forked_sorting ws (h ∷ i ∷ hs) build

unfoldable pub subtree_sorting : List ℕ → ℕ → List ℕ → Answer Tree
subtree_sorting ws zero hs = tree_by_sorting ws hs (λ (_ : List ℕ). refused 12)
subtree_sorting ws (suc n) hs = tree_by_sorting ws hs (λ (hs : List ℕ). subtree_sorting ws n hs)

unfoldable pub tree_sorting : List ℕ → List ℕ → Answer (Option Tree)
tree_sorting ws [] = given none
tree_sorting ws (h ∷ hs) = subtree_sorting ws (length (h ∷ hs)) (h ∷ hs) then λ (t : Tree). given (some t)

unfoldable pub built_sorting : List ℕ → ℕ → Answer LightBVH
built_sorting ws m =
    let handles = bounded_handles ws m in
    tree_sorting ws handles then λ (t : Option Tree).
    given (record { rows = m; k = length handles; all-bounds = all_bounds ws m; tree = t })

unfoldable pub build_sorting : ℕ → List ℕ → ℕ → ℕ → ℕ → Answer LightBVH
build_sorting lights ws nodes table work =
    build_check lights ws nodes table work then λ (m : ℕ). validated ws m then λ _. built_sorting ws m
