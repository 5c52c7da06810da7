-- The tree that `build_rows` comes to. Its labels are the rows' handles, which are their places (`labels-below`), so
-- that each fits a head (`labels-fit`); and the box of the powered rows is there where one of them is (`bounds-there`,
-- `bounds-none`). Assumes nothing.
use Prim.Native.Nat.{ℕ, zero, suc, ◌/◌, ◌^◌, ◌≤◌, ◌<◌}
use mathlib.Core.Path.{◌≡◌, refl, sym, ◌∙◌}
use mathlib.Core.Bool.{Bool, true, false, cond, ◌||◌}
use mathlib.Core.List.{List, [], ◌∷◌, ◌++◌, append-nil}
use mathlib.Core.Option.{Option, none, some, none-ne-some}
use native.Mathlib.Omega.{arith}
use borrow.Author.Tests.{eqb-true, ltb-true, ltb-false}
use lib.Dec.{eqb, ltb}
use lib.ListN.{length, get_or, take, drop, length-append, get_or-eq_default}
use Rattle.words.proofs.ListLaws.{All, all_map, all_append, all_take, all_drop, all-cond, all-kept}
use Rattle.words.specs.Answers.{Answer, given, refused, ◌then◌}
use Rattle.words.specs.Limits.{max_lamps}
use Rattle.words.specs.Rows.{below}
use Rattle.words.proofs.AnswerLaws.{Gives, gives, gives_none, gives-any, gives_then}
use Rattle.words.proofs.AnswerLaws.{gives-value, then-given, given_injective, not-both}
use Rattle.words.proofs.RowLaws.{below_at}
use Rattle.light_bounds.specs.Bounds.{box_union}
use Rattle.light_bounds.specs.LightBounds.{union}
use Rattle.light_bounds.specs.declared.bounds.Bounds3.{Bounds3}
use Rattle.light_rows.specs.Block.{block_words, handle_place, handle_at, block_handles}
use Rattle.light_rows.specs.Tree.{Tree, bounds}
use Rattle.light_split.specs.Lights.{light_of, centroid_ends}
use Rattle.light_split.specs.Partition.{goes_left, goes_right, lefts, rights, partition_handles}
use Rattle.light_split.specs.Split.{choose_split}
use Rattle.light_split.specs.declared.split.Split.{Split}
use Rattle.light_bvh.specs.Subtree.{label_of, forked, tree_by, build_subtree}
use Rattle.light_bvh.specs.Build.{is_powered, bounded_handles, grown, all_bounds}
use Rattle.light_bvh.specs.Build.{LightBVH, tree_of, validated, built_bvh, build_check, build_light_bvh}
use Rattle.light_bvh.proofs.BuildLaws.{build-checked}
use Rattle.light_bvh.proofs.TableLaws.{Labels}

-- ---- what holds of every handle of a stretch holds of its halves

module _ (P : ℕ → Type 0) where
  pub all-halves : (ws hs : List ℕ) (s : Split) → All P hs →
      All P (partition_handles ws hs s).0 × All P (partition_handles ws hs s).1
  unfolding partition_handles lefts rights
  all-halves ws hs s a =
      let l = lefts ws hs s in
      let r = rights ws hs s in
      go (eqb (length l) 0 || eqb (length r) 0) l r (length (l ++ r) / 2)
      (all-kept P (goes_left ws (centroid_ends ws hs) s) hs a)
      (all-kept P (goes_right ws (centroid_ends ws hs) s) hs a)
    where
      go : (b : Bool) (l r : List ℕ) (n : ℕ) → All P l → All P r
          → let p : List ℕ × List ℕ = cond b (take n (l ++ r), drop n (l ++ r)) (l, r) in All P p.0 × All P p.1
      go true l r n x y = (all_take P n (l ++ r) (all_append P l r x y), all_drop P n (l ++ r) (all_append P l r x y))
      go false l r n x y = (x, y)

-- ---- the labels

module _ (ws : List ℕ) {P Q : ℕ → Type 0} (f : (h : ℕ) → P h → Q (label_of ws h)) where
  labels-by : (build : List ℕ → Answer Tree) → ((hs : List ℕ) → All P hs → Gives (Labels Q) (build hs))
      → (hs : List ℕ) → All P hs → Gives (Labels Q) (tree_by ws hs build)
  unfolding tree_by forked
  labels-by build each [] a = gives_none
  labels-by build each (h ∷ []) a = gives (f h a.0)
  labels-by build each (h ∷ i ∷ hs) a =
      let all = h ∷ i ∷ hs in
      gives_then (gives-any (choose_split ws all)) (λ s _.
      gives_then (each (partition_handles ws all s).0 (all-halves P ws all s a).0) (λ l p.
      gives_then (each (partition_handles ws all s).1 (all-halves P ws all s a).1) (λ r q.
      gives_then (gives-any (union (bounds l) (bounds r))) (λ b _. gives (p, q)))))

  pub labels-of : (n : ℕ) (hs : List ℕ) → All P hs → Gives (Labels Q) (build_subtree ws n hs)
  unfolding build_subtree
  labels-of zero hs a = labels-by (λ (_ : List ℕ). refused 12) (λ _ _. gives_none) hs a
  labels-of (suc n) hs a = labels-by (λ (hs : List ℕ). build_subtree ws n hs) (λ hs a. labels-of n hs a) hs a

-- a block whose handles are their places
module _ (ws : List ℕ) (m : ℕ) (checked : block_handles ws ≡ given m) where
  pub label_is : (h : ℕ) → h < m → label_of ws h ≡ h
  unfolding block_handles
  label_is h l = go (below (handle_at ws) (get_or ws 0 0)) refl checked
    where
      go : (b : Bool) → below (handle_at ws) (get_or ws 0 0) ≡ b
          → cond b (given (get_or ws 0 0))
          (refused 4) ≡ given m
          →
          label_of ws h ≡ h
      go true e is =
          eqb-true (label_of ws h) h (below_at (handle_at ws) (get_or ws 0 0) h e (omega (arith, given_injective is)))
      go false e is = absurd (not-both is refl)

  -- of a row past the block's end it reads 0
  pub labels-fit : m ≤ 4096 → length ws ≡ block_words m → (h : ℕ) → label_of ws h < 2 ^ 30
  labels-fit few long h = go (ltb h m) refl
    where
      go : (b : Bool) → ltb h m ≡ b → label_of ws h < 2 ^ 30
      go true e = let l = ltb-true h m e in rw (label_is h l) (omega arith)
      go false e =
          let past = ltb-false h m e in
          rw (get_or-eq_default ws 0 {n = handle_place h} (omega arith)) (omega arith)

  pub labels-below : (n : ℕ) (hs : List ℕ) (t : Tree) → All (λ (h : ℕ). h < m) hs → build_subtree ws n hs ≡ given t →
      Labels (λ (h : ℕ). h < m) t
  labels-below n hs t a e =
      gives-value (labels-of ws {P = λ (h : ℕ). h < m} {Q = λ (h : ℕ). h < m} (λ h l. rw (label_is h l) l) n hs a) e

-- ---- the powered rows

pub bounded-below : (ws : List ℕ) (m : ℕ) → All (λ (h : ℕ). h < m) (bounded_handles ws m)
unfolding bounded_handles
bounded-below ws zero = tt
bounded-below ws (suc n) =
    all_append (λ (h : ℕ). h < suc n) (bounded_handles ws n) (cond (is_powered ws n) (n ∷ []) [])
    (all_map {P = λ (h : ℕ). h < n} (λ h l. omega arith) (bounded_handles ws n) (bounded-below ws n))
    (all-cond (λ (h : ℕ). h < suc n) (is_powered ws n) (n ∷ []) [] (omega arith, tt) tt)

one_at_most : (b : Bool) (n : ℕ) → length (cond b (n ∷ []) []) ≤ 1
one_at_most true n = omega arith
one_at_most false n = omega arith

pub bounded-few : (ws : List ℕ) (m : ℕ) → length (bounded_handles ws m) ≤ m
unfolding bounded_handles
bounded-few ws zero = omega arith
bounded-few ws (suc n) =
    rw (length-append (bounded_handles ws n) (cond (is_powered ws n) (n ∷ []) []))
    (omega (arith, bounded-few ws n, one_at_most (is_powered ws n) n))

built-few : (ws : List ℕ) (m : ℕ) → Gives (λ (b : LightBVH). b.k ≤ m) (built_bvh ws m)
unfolding built_bvh
built-few ws m = gives_then (gives-any (tree_of ws (bounded_handles ws m))) (λ t _. gives (bounded-few ws m))

-- so an accepted build has at most the lamps that a block may have
pub accepted-few : (lights : ℕ) (ws : List ℕ) (nodes table work : ℕ) (b : LightBVH)
    → build_light_bvh lights ws nodes table work ≡ given b → b.k ≤ max_lamps
unfolding build_light_bvh
accepted-few lights ws nodes table work b e =
    let (m, checked, e₁) =
    then-given (build_check lights ws nodes table work) (λ (m : ℕ). validated ws m then λ _. built_bvh ws m) b e in
    let (_, _, e₂) = then-given (validated ws m) (λ _. built_bvh ws m) b e₁ in
    let (is, each, few, long, handles, short) = build-checked lights ws nodes table work m checked in
    omega (arith, gives-value (built-few ws m) e₂)

-- their box is there where one of them is
abbrev BoxOf : List ℕ → Option Bounds3 → Type 0
BoxOf [] o = o ≡ none
BoxOf (h ∷ hs) o = (b : Bounds3) × (o ≡ some b)

box-more : (hs : List ℕ) (n : ℕ) (o : Option Bounds3) (b : Bounds3) → BoxOf hs o → BoxOf (hs ++ n ∷ []) (grown o b)
box-more [] n o b e = (b, rw e)
box-more (h ∷ hs) n o b e = (box_union e.0 b, rw e.1)

box-next : (ws : List ℕ) (n : ℕ) (b : Bool) → BoxOf (bounded_handles ws n) (all_bounds ws n)
    → BoxOf (bounded_handles ws n ++ cond b (n ∷ []) [])
    (cond b (grown (all_bounds ws n) (light_of ws n).bounds) (all_bounds ws n))
box-next ws n true e = box-more (bounded_handles ws n) n (all_bounds ws n) (light_of ws n).bounds e
box-next ws n false e = rw append-nil e

box_of : (ws : List ℕ) (m : ℕ) → BoxOf (bounded_handles ws m) (all_bounds ws m)
unfolding bounded_handles all_bounds
box_of ws zero = refl
box_of ws (suc n) = box-next ws n (is_powered ws n) (box_of ws n)

box-none : (hs : List ℕ) (o : Option Bounds3) → length hs ≡ 0 → BoxOf hs o → o ≡ none
box-none [] o e b = b
box-none (h ∷ hs) o e b = absurd (omega arith)

box-some : (hs : List ℕ) (o : Option Bounds3) → 0 < length hs → BoxOf hs o → (b : Bounds3) × (o ≡ some b)
box-some [] o l b = absurd (omega arith)
box-some (h ∷ hs) o l b = b

pub bounds-none : (ws : List ℕ) (m : ℕ) → length (bounded_handles ws m) ≡ 0 → all_bounds ws m ≡ none
bounds-none ws m e = box-none (bounded_handles ws m) (all_bounds ws m) e (box_of ws m)

pub bounds_some : (ws : List ℕ) (m : ℕ) → 0 < length (bounded_handles ws m) →
    (b : Bounds3) × (all_bounds ws m ≡ some b)
bounds_some ws m l = box-some (bounded_handles ws m) (all_bounds ws m) l (box_of ws m)

pub bounds-there : (ws : List ℕ) (m : ℕ) → 0 < length (bounded_handles ws m) → all_bounds ws m ≡ none → ⊥
bounds-there ws m l e = let (b, is) = bounds_some ws m l in none-ne-some b (sym e ∙ is)
