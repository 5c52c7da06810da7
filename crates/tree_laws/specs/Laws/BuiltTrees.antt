-- What holds of every leaf of a build, and of a stretch's tree wherever it holds of its halves' trees, holds of every
-- tree that is built. Assumes nothing.
use Prim.Native.Nat.{ℕ, zero, suc, ◌≤◌}
use Rattle.std.specs.Prelude.{◌≡◌, refl, length}
use Rattle.std.proofs.Math.Path.{subst}
use mathlib.Core.List.{List, [], ◌∷◌}
use Rattle.std.proofs.Common.{arith}
use Rattle.words.specs.Answers.{Answer, given, refused, ◌then◌}
use Rattle.words.proofs.AnswerLaws.{then-given, given_injective, not-both}
use Rattle.light_bounds.specs.LightBounds.{union}
use Rattle.light_bounds.specs.declared.light_bounds.LightBounds.{LightBounds}
use Rattle.light_rows.specs.Tree.{Tree, leaf, fork, bounds}
use Rattle.light_split.specs.Lights.{light_of}
use Rattle.light_split.specs.Partition.{partition_handles}
use Rattle.light_split.specs.Split.{choose_split}
use Rattle.light_split.specs.declared.split.Split.{Split}
use Rattle.light_bvh.specs.Subtree.{label_of, forked, tree_by, build_subtree}

module _ (ws : List ℕ) (Q : List ℕ → Tree → Type 0)
    (at_leaf : (h : ℕ) → Q (h ∷ []) (leaf (label_of ws h) (light_of ws h)))
    (at_Fork : (hs : List ℕ) (s : Split) (l r : Tree) (b : LightBounds) → 2 ≤ length hs → union (bounds l)
    (bounds r) ≡ given b
    → Q (partition_handles ws hs s).0 l → Q (partition_handles ws hs s).1 r → Q hs (fork b l r)) where
  by-fork : (hs : List ℕ) (build : List ℕ → Answer Tree) (t : Tree)
      → ((hs : List ℕ) (t : Tree) → build hs ≡ given t → Q hs t) → 2 ≤ length hs
      → forked ws hs build ≡ given t → Q hs t
  unfolding forked
  by-fork hs build t holds two e =
      let (s, _, e₁) =
      then-given (choose_split ws hs)
      (λ (s : Split). build (partition_handles ws hs s).0 then λ (l : Tree). build (partition_handles ws hs s).1 then λ
      (r : Tree).
      union (bounds l) (bounds r) then λ (b : LightBounds). given (fork b l r)) t e in
      let (l, el, e₂) =
      then-given (build (partition_handles ws hs s).0)
      (λ (l : Tree). build (partition_handles ws hs s).1 then λ (r : Tree). union (bounds l) (bounds r) then λ
      (b : LightBounds). given (fork b l r)) t e₁ in
      let (r, er, e₃) =
      then-given (build (partition_handles ws hs s).1)
      (λ (r : Tree). union (bounds l) (bounds r) then λ (b : LightBounds). given (fork b l r)) t e₂ in
      let (b, eb, e₄) = then-given (union (bounds l) (bounds r)) (λ (b : LightBounds). given (fork b l r)) t e₃ in
      subst (Q hs) {x = fork b l r} (given_injective {a = fork b l r} e₄)
      (at_Fork hs s l r b two eb (holds (partition_handles ws hs s).0 l el) (holds (partition_handles ws hs s).1 r er))

  by-tree : (hs : List ℕ) (build : List ℕ → Answer Tree) (t : Tree)
      → ((hs : List ℕ) (t : Tree) → build hs ≡ given t → Q hs t)
      → tree_by ws hs build ≡ given t → Q hs t
  unfolding tree_by
  by-tree [] build t holds e = absurd (not-both e refl)
  by-tree (h ∷ []) build t holds e = subst (Q (h ∷ [])) (given_injective e) (at_leaf h)
  by-tree (h ∷ i ∷ hs) build t holds e = by-fork (h ∷ i ∷ hs) build t holds (omega arith) e

  pub built_holds : (n : ℕ) (hs : List ℕ) (t : Tree) → build_subtree ws n hs ≡ given t → Q hs t
  unfolding build_subtree
  built_holds zero hs t e = by-tree hs (λ (_ : List ℕ). refused 12) t (λ _ _ f. absurd (not-both f refl)) e
  built_holds (suc n) hs t e = by-tree hs (λ (hs : List ℕ). build_subtree ws n hs) t (λ hs t f. built_holds n hs t f) e
