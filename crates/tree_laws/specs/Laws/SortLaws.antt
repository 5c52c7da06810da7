-- The Rust's sort changes no build: handles ascend in every stretch (StretchLaws), so `partition_handles` with its
-- sort gives the halves that it gives without (`partition_sorting_lem`), and the whole build, its refusals too, is
-- `build_light_bvh` for every light record often, block and lent length (`build_sorting_lem`). Assumes nothing.
use Prim.Native.Nat.{ℕ, zero, suc, ◌/◌}
use Rattle.std.specs.Prelude.{◌≡◌, Bool, true, false, cond, ◌||◌, eqb, length, take, drop}
use Rattle.std.proofs.Math.Path.{refl}
use Rattle.std.proofs.Common.{ap, inl, inr, eqb-true}
use mathlib.Core.List.{List, [], ◌∷◌, ◌++◌}
use Rattle.words.specs.Answers.{Answer, refused}
use Rattle.words.proofs.AnswerLaws.{then_same}
use Rattle.light_rows.specs.Tree.{Tree}
use Rattle.light_split.specs.Partition.{lefts, rights, partition_handles}
use Rattle.light_split.specs.Split.{choose_split}
use Rattle.light_split.specs.declared.split.Split.{Split}
use Rattle.light_bvh.specs.Build.{bounded_handles, validated, tree_of, built_bvh, build_check, build_light_bvh}
use Rattle.light_bvh.specs.Subtree.{forked, tree_by, build_subtree}
use Rattle.tree_laws.specs.Laws.StretchLaws.{sort_changes-nothing, partition_ascends, bounded_ascends}
use Rattle.words.proofs.OrderedLists.{Ascends}
use Rattle.words.proofs.ListLaws.{no_length}
use Rattle.words.specs.Lists.{sorted}
use Rattle.tree_laws.specs.SortingBuild.{partition_sorting, forked_sorting, tree_by_sorting, subtree_sorting}
use Rattle.tree_laws.specs.SortingBuild.{tree_sorting, built_sorting, build_sorting}

module _ (ws : List ℕ) where
  pub partition_sorting_lem : (hs : List ℕ) (s : Split) → Ascends hs
      → partition_sorting ws hs s ≡ partition_handles ws hs
      s
  unfolding partition_sorting partition_handles
  partition_sorting_lem hs s h = go (eqb (length l) 0) (eqb (length r) 0) refl refl
    where
      l : List ℕ
      l = lefts ws hs s

      r : List ℕ
      r = rights ws hs s

      cut : List ℕ → List ℕ × List ℕ
      cut all = (take (length all / 2) all, drop (length all / 2) all)

      go : (a b : Bool) → eqb (length l) 0 ≡ a → eqb (length r) 0 ≡ b
          → cond (a || b) (cut (sorted (l ++ r))) (l, r) ≡ cond (a || b) (cut (l ++ r)) (l, r)
      go true b e f = ap cut (sort_changes-nothing ws hs s h (inl (no_length l (eqb-true (length l) 0 e))))
      go false true e f = ap cut (sort_changes-nothing ws hs s h (inr (no_length r (eqb-true (length r) 0 f))))
      go false false e f = refl

  -- two builds of the halves that agree on every ascending stretch
  module _ (f g : List ℕ → Answer Tree) (same : (hs : List ℕ) → Ascends hs → f hs ≡ g hs) where
    forked_sorting_lem : (hs : List ℕ) → Ascends hs → forked_sorting ws hs f ≡ forked ws hs g
    unfolding forked_sorting forked
    forked_sorting_lem hs h =
        then_same (choose_split ws hs) _ _ (λ (s : Split).
        let (low, high) = partition_ascends ws hs s h in
        rw (partition_sorting_lem hs s h, same (partition_handles ws hs s).0 low)
        (then_same (g (partition_handles ws hs s).0) _ _ (λ (l : Tree). rw (same (partition_handles ws hs s).1 high))))

    tree_sorting_lem : (hs : List ℕ) → Ascends hs → tree_by_sorting ws hs f ≡ tree_by ws hs g
    unfolding tree_by_sorting tree_by
    tree_sorting_lem [] h = refl
    tree_sorting_lem (x ∷ []) h = refl
    tree_sorting_lem (x ∷ y ∷ hs) h = forked_sorting_lem (x ∷ y ∷ hs) h

  pub subtree_sorting_lem : (n : ℕ) (hs : List ℕ) → Ascends hs → subtree_sorting ws n hs ≡ build_subtree ws n hs
  unfolding subtree_sorting build_subtree
  subtree_sorting_lem zero hs h =
      tree_sorting_lem (λ (_ : List ℕ). refused 12) (λ (_ : List ℕ). refused 12) (λ _ _. refl) hs h
  subtree_sorting_lem (suc n) hs h =
      tree_sorting_lem (λ (hs : List ℕ). subtree_sorting ws n hs) (λ (hs : List ℕ). build_subtree ws n hs)
      (λ hs h. subtree_sorting_lem n hs h) hs h

  tree-of_sorting : (hs : List ℕ) → Ascends hs → tree_sorting ws hs ≡ tree_of ws hs
  unfolding tree_sorting tree_of
  tree-of_sorting [] h = refl
  tree-of_sorting (x ∷ hs) h = rw (subtree_sorting_lem (length (x ∷ hs)) (x ∷ hs) h)

  built_sorting_lem : (m : ℕ) → built_sorting ws m ≡ built_bvh ws m
  unfolding built_sorting built_bvh
  built_sorting_lem m = rw (tree-of_sorting (bounded_handles ws m) (bounded_ascends ws m))

pub build_sorting_lem : (lights : ℕ) (ws : List ℕ) (nodes table work : ℕ)
    → build_sorting lights ws nodes table work ≡ build_light_bvh lights ws nodes table work
unfolding build_sorting build_light_bvh
build_sorting_lem lights ws nodes table work =
    then_same (build_check lights ws nodes table work) _ _
    (λ (m : ℕ). then_same (validated ws m) _ _ (λ _. built_sorting_lem ws m))
