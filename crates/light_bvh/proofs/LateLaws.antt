-- How a split and a tree refuse. A split and a union by 10 alone: each step of a split joins records, and a join
-- refuses where a union does. So a tree refuses late: by 10, or a stretch without handles, which no build meets, by 12.
-- Assumes nothing.
use Prim.Native.Nat.{ℕ, zero, suc, ◌≤◌, ◌<◌}
use mathlib.Core.Path.{◌≡◌, refl, subst, sym, ◌∙◌}
use mathlib.Core.List.{List, [], ◌∷◌}
use native.Mathlib.Omega.{arith}
use lib.Ieee.{eq}
use lib.ListN.{length, get_or, set, take, drop}
use Rattle.std.specs.Prelude.{None, Some}
use Rattle.words.specs.Answers.{Answer, given, refused}
use Rattle.words.proofs.AnswerLaws.{Only, Late, only-given, only-refused, only-cond, only_then, refused_injective}
use Rattle.light_bounds.proofs.LateLaws.{late-union}
use Rattle.light_bounds.specs.LightBounds.{union}
use Rattle.light_bounds.specs.declared.bounds.Bounds3.{Bounds3}
use Rattle.light_bounds.specs.declared.light_bounds.LightBounds.{LightBounds}
use Rattle.light_rows.specs.Tree.{Tree, bounds}
use Rattle.light_split.specs.Buckets.{Bucket, join_to, fill_buckets, empty_buckets, union_range}
use Rattle.light_split.specs.Buckets.{union_bucket_range, cut_cost}
use Rattle.light_split.specs.Lights.{light_of, component, centroid_ends, bucket_of}
use Rattle.light_split.specs.Partition.{partition_handles}
use Rattle.light_split.specs.Split.{no_best, combined_bounds, cuts, axis, choose_split}
use Rattle.light_split.specs.declared.split.Best.{Best}
use Rattle.light_split.proofs.BucketLaws.{union-refused}
use Rattle.light_bvh.specs.Subtree.{forked, tree_by, build_subtree}
use Rattle.light_bvh.specs.AsCoded.Stretches.{union_at}
use Rattle.light_bvh.proofs.SubtreeLaws.{halves}

-- ---- a split: whatever holds of 10 holds of its refusal

module _ (P : ℕ → Type 0) (ten : P 10) where
  only-union : (a b : LightBounds) → Only P (union a b)
  only-union a b = go (union a b) refl
    where
      go : (x : Answer LightBounds) → union a b ≡ x → Only P x
      go (given r) e = only-given
      go (refused n) e = only-refused (subst P (sym (refused_injective (sym e ∙ union-refused a b n e))) ten)

  only-join : (o : Bucket) (b : LightBounds) → Only P (join_to o b)
  unfolding join_to
  only-join None b = only-given
  only-join (Some a) b = only_then (only-union a b) (λ _. only-given)

  only_fill : (ws : List ℕ) (ends : Bounds3) (d : ℕ) (bs : List Bucket) (hs : List ℕ) →
      Only P (fill_buckets ws ends d bs hs)
  unfolding fill_buckets
  only_fill ws ends d bs [] = only-given
  only_fill ws ends d bs (h ∷ hs) =
      only_then (only-join (get_or bs (bucket_of ws ends d h) None) (light_of ws h))
      (λ b. only_fill ws ends d (set bs (bucket_of ws ends d h) b) hs)

  only_range : (o : Bucket) (bs : List Bucket) → Only P (union_range o bs)
  unfolding union_range
  only_range o [] = only-given
  only_range o (None ∷ bs) = only_range o bs
  only_range o (Some b ∷ bs) = only_then (only-join o b) (λ r. only_range r bs)

  only_cost : (bs : List Bucket) (parent : Bounds3) (d k : ℕ) → Only P (cut_cost bs parent d k)
  unfolding cut_cost union_bucket_range
  only_cost bs parent d k =
      only_then (only_range None (drop 0 (take (suc k) bs)))
      (λ l. only_then (only_range None (drop (suc k) (take 12 bs))) (λ r. only-given))

  only-cuts : (bs : List Bucket) (parent : Bounds3) (d : ℕ) (b : Best) (n : ℕ) → Only P (cuts bs parent d b n)
  unfolding cuts
  only-cuts bs parent d b zero = only-given
  only-cuts bs parent d b (suc n) =
      only_then (only-cuts bs parent d b n) (λ _. only_then (only_cost bs parent d n) (λ _. only-given))

  only-axis : (ws hs : List ℕ) (ends parent : Bounds3) (d : ℕ) (b : Best) → Only P (axis ws hs ends parent d b)
  unfolding axis
  only-axis ws hs ends parent d b =
      only-cond (eq (component d ends.min) (component d ends.max)) only-given
      (only_then (only_fill ws ends d empty_buckets hs) (λ bs. only-cuts bs parent d b 11))

  only-split : (ws hs : List ℕ) → Only P (choose_split ws hs)
  unfolding choose_split
  only-split ws hs =
      let ends = centroid_ends ws hs in
      let parent = combined_bounds ws hs in
      only_then (only-axis ws hs ends parent 0 no_best)
      (λ b. only_then (only-axis ws hs ends parent 1 b) (λ b. only_then (only-axis ws hs ends parent 2 b) (λ b.
      only-given)))

-- ---- by 10 alone

abbrev pub Ten : {A : Type 0} → Answer A → Type 0
Ten x = Only (λ (n : ℕ). n ≡ 10) x

pub ten-split : (ws hs : List ℕ) → Ten (choose_split ws hs)
ten-split ws hs = only-split (λ (n : ℕ). n ≡ 10) refl ws hs

-- of the trees' records, read back
pub union_lost : (ws : List ℕ) (right n : ℕ) → union_at ws right ≡ refused n → union_at ws right ≡ refused 10
union_lost ws right n e = union-refused _ _ n e

-- ---- late

late-split : (ws hs : List ℕ) → Late (choose_split ws hs)
late-split ws hs = only-split (λ (n : ℕ). 4 < n) (omega arith) ws hs

-- ---- a tree

late-by : (ws hs : List ℕ) (build : List ℕ → Answer Tree) → ((l : List ℕ) → Late (build l)) → Late (tree_by ws hs build)
unfolding tree_by forked
late-by ws [] build late = only-refused (omega arith)
late-by ws (h ∷ []) build late = only-given
late-by ws (h ∷ i ∷ hs) build late =
    let all = h ∷ i ∷ hs in
    only_then (late-split ws all) (λ s. only_then (late (partition_handles ws all s).0) (λ l.
    only_then (late (partition_handles ws all s).1) (λ r. only_then (late-union (bounds l) (bounds r))
    (λ b. only-given))))

pub late-tree : (ws : List ℕ) (n : ℕ) (hs : List ℕ) → Late (build_subtree ws n hs)
unfolding build_subtree
late-tree ws zero hs = late-by ws hs _ (λ l. only-refused (omega arith))
late-tree ws (suc n) hs = late-by ws hs _ (λ l. late-tree ws n l)

-- of a stretch with handles, as every build meets it, by 10 alone
pub ten-tree : (ws : List ℕ) (n : ℕ) (hs : List ℕ) → 1 ≤ length hs → length hs ≤ n → Ten (build_subtree ws n hs)
unfolding build_subtree tree_by forked
ten-tree ws zero hs some few = absurd (omega arith)
ten-tree ws (suc n) [] some few = absurd (omega arith)
ten-tree ws (suc n) (h ∷ []) some few = only-given
ten-tree ws (suc n) (h ∷ i ∷ hs) some few =
    let all = h ∷ i ∷ hs in
    only_then (ten-split ws all) (λ s. let both = halves ws all s (omega arith) in
    only_then (ten-tree ws n (partition_handles ws all s).0 both.left (omega (arith, both.right, both.sum, few))) (λ l.
    only_then (ten-tree ws n (partition_handles ws all s).1 both.right (omega (arith, both.left, both.sum, few))) (λ r.
    only_then (only-union (λ (n : ℕ). n ≡ 10) refl (bounds l) (bounds r)) (λ b. only-given))))
