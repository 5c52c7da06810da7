-- Laws of stretches of handles. The handles of the powered lamps ascend (`bounded_ascends`), and both halves of an
-- ascending stretch ascend (`partition_ascends`), so the Rust's sort before a cut at the middle changes nothing in any
-- stretch of a build (`sort_changes-nothing`, `build_sorts-nothing`). Each half of two handles or more has one at
-- least, and each handle stands in the halves as often as in the stretch (`halves-some`, `halves-length`,
-- `halves-count`). Assumes nothing.
use Rattle.std.specs.Prelude.{ℕ, zero, suc, ◌+◌, ◌/◌, ◌≤◌, ◌≡◌, refl, Bool, true, false, cond, ◌||◌, List, [], ◌∷◌}
use Rattle.std.specs.Prelude.{◌++◌, ◌⊎◌, eqb, length, take, drop}
use Rattle.std.proofs.Common.{ap, sym, ◌∙◌, append-nil, inl, inr, arith, eqb-true}
use Rattle.std.proofs.lemmas.Bool.{eqb-false}
use Rattle.light_split.specs.Lights.{centroid_ends}
use Rattle.light_split.specs.Partition.{goes_left, goes_right, lefts, rights, partition_handles}
use Rattle.words.proofs.OrderedLists.{Ascends, kept_ascends, take_ascends, drop_ascends, ascends-snoc, sorted_ascending}
use Rattle.words.proofs.OrderedLists.{often-append, often-kept}
use Rattle.words.specs.Lists.{sorted, often}
use Rattle.light_split.specs.declared.split.Split.{Split}
use Rattle.light_split.proofs.PartitionLaws.{goes-right, partition-joined}
use Rattle.light_bvh.specs.Build.{is_powered, bounded_handles}
use Rattle.light_bvh.proofs.RowsLaws.{bounded-below}
use Rattle.words.proofs.ListLaws.{no_length}
use Rattle.light_bvh.proofs.SubtreeLaws.{halves, halves-sum}

-- ---- the handles of the powered lamps

pub bounded_ascends : (ws : List ℕ) (m : ℕ) → Ascends (bounded_handles ws m)
unfolding bounded_handles
bounded_ascends ws zero = tt
bounded_ascends ws (suc n) = one (is_powered ws n) (bounded_ascends ws n)
  where
    one : (b : Bool) → Ascends (bounded_handles ws n) → Ascends (bounded_handles ws n ++ cond b (n ∷ []) [])
    one true h = ascends-snoc n (bounded_handles ws n) (bounded-below ws n) h
    one false h = rw (append-nil (bounded_handles ws n)) h

-- ---- the halves

-- what holds of the cut at the middle where a side is empty, and of the sides where none is, holds of the halves
pub halves_are : (ws hs : List ℕ) (s : Split) (P : List ℕ × List ℕ → Type 0)
    → ((lefts ws hs s ≡ []) ⊎ (rights ws hs s ≡ []) → P (
      take (length (lefts ws hs s ++ rights ws hs s) / 2) (lefts ws hs s ++ rights ws hs s),
      drop (length (lefts ws hs s ++ rights ws hs s) / 2) (lefts ws hs s ++ rights ws hs s),
    ))
    → (1 ≤ length (lefts ws hs s) → 1 ≤ length (rights ws hs s) → P (lefts ws hs s, rights ws hs s))
    → P (partition_handles ws hs s)
unfolding partition_handles
halves_are ws hs s P cut both = go (eqb (length l) 0) (eqb (length r) 0) refl refl
  where
    l : List ℕ
    l = lefts ws hs s

    r : List ℕ
    r = rights ws hs s

    some : (xs : List ℕ) → eqb (length xs) 0 ≡ false → 1 ≤ length xs
    some [] e = absurd (eqb-false 0 0 e refl)
    some (x ∷ xs) e = omega arith

    go : (a b : Bool) → eqb (length l) 0 ≡ a → eqb (length r) 0 ≡ b
        → P (cond (a || b) (take (length (l ++ r) / 2) (l ++ r), drop (length (l ++ r) / 2) (l ++ r)) (l, r))
    go true b e f = cut (inl (no_length l (eqb-true (length l) 0 e)))
    go false true e f = cut (inr (no_length r (eqb-true (length r) 0 f)))
    go false false e f = both (some l e) (some r f)

ascends-joined : (l r : List ℕ) → (l ≡ []) ⊎ (r ≡ []) → Ascends l → Ascends r → Ascends (l ++ r)
ascends-joined l r (inl e) h k = rw e k
ascends-joined l r (inr e) h k = rw (e, append-nil l) h

module _ (ws hs : List ℕ) (s : Split) where
  pub lefts-ascend : Ascends hs → Ascends (lefts ws hs s)
  unfolding lefts
  lefts-ascend h = kept_ascends (goes_left ws (centroid_ends ws hs) s) hs h

  pub rights-ascend : Ascends hs → Ascends (rights ws hs s)
  unfolding rights
  rights-ascend h = kept_ascends (goes_right ws (centroid_ends ws hs) s) hs h

  -- where a side is empty, both in a row ascend
  pub sides-ascend : Ascends hs → (lefts ws hs s ≡ []) ⊎ (rights ws hs s ≡ [])
      → Ascends (lefts ws hs s ++ rights ws hs s)
  sides-ascend h empty = ascends-joined (lefts ws hs s) (rights ws hs s) empty (lefts-ascend h) (rights-ascend h)

  pub partition_ascends : Ascends hs → Ascends (partition_handles ws hs s).0 × Ascends (partition_handles ws hs s).1
  partition_ascends h =
      let both = lefts ws hs s ++ rights ws hs s in
      halves_are ws hs s (λ (p : List ℕ × List ℕ). Ascends p.0 × Ascends p.1)
      (λ empty. (
        take_ascends (length both / 2) both (sides-ascend h empty),
        drop_ascends (length both / 2) both
            (sides-ascend h empty),
      ))
      (λ _ _. (lefts-ascend h, rights-ascend h))

-- ---- the sort

-- the Rust sorts where a side is empty
pub sort_changes-nothing : (ws hs : List ℕ) (s : Split) → Ascends hs → (lefts ws hs s ≡ []) ⊎ (rights ws hs s ≡ [])
    → sorted (lefts ws hs s ++ rights ws hs s) ≡ lefts ws hs s ++ rights ws hs s
sort_changes-nothing ws hs s h empty = sorted_ascending (lefts ws hs s ++ rights ws hs s) (sides-ascend ws hs s h empty)

-- the stretches of a build: the whole, and the halves of each, wherever it is split
pub data Stretch (ws hs : List ℕ) : List ℕ → Type 0 where
  whole : Stretch ws hs hs
  left-half : {xs : List ℕ} (s : Split) → Stretch ws hs xs → Stretch ws hs (partition_handles ws xs s).0
  right-half : {xs : List ℕ} (s : Split) → Stretch ws hs xs → Stretch ws hs (partition_handles ws xs s).1

pub stretch_ascends : {ws hs xs : List ℕ} → Ascends hs → Stretch ws hs xs → Ascends xs
stretch_ascends h whole = h
stretch_ascends {ws} h (left-half {xs} s p) = (partition_ascends ws xs s (stretch_ascends h p)).0
stretch_ascends {ws} h (right-half {xs} s p) = (partition_ascends ws xs s (stretch_ascends h p)).1

-- so no stretch of the powered lamps' build is changed by it
pub build_sorts-nothing : {ws xs : List ℕ} (m : ℕ) (s : Split) → Stretch ws (bounded_handles ws m) xs
    → (lefts ws xs s ≡ []) ⊎ (rights ws xs s ≡ [])
    → sorted (lefts ws xs s ++ rights ws xs s) ≡ lefts ws xs s ++ rights ws xs s
build_sorts-nothing {ws} {xs} m s p empty =
    sort_changes-nothing ws xs s (stretch_ascends (bounded_ascends ws m) p) empty

-- ---- how often in the halves

module _ (ws hs : List ℕ) (s : Split) where
  pub sides-count : (x : ℕ) → often x (lefts ws hs s) + often x (rights ws hs s) ≡ often x hs
  unfolding lefts rights
  sides-count x =
      let ends = centroid_ends ws hs in
      often-kept (goes_left ws ends s) (goes_right ws ends s) (goes-right ws ends s) x hs

  pub halves-count : (x : ℕ)
      → often x (partition_handles ws hs s).0 + often x (partition_handles ws hs s).1 ≡ often x hs
  halves-count x =
      sym (often-append x (partition_handles ws hs s).0 (partition_handles ws hs s).1)
      ∙ ap (often x) (partition-joined ws hs s)
      ∙ often-append x (lefts ws hs s) (rights ws hs s)
      ∙ sides-count x

  pub halves-length : length (partition_handles ws hs s).0 + length (partition_handles ws hs s).1 ≡ length hs
  halves-length = halves-sum ws hs s

  pub halves-some : 2 ≤ length hs
      → (1 ≤ length (partition_handles ws hs s).0) × (1 ≤ length (partition_handles ws hs s).1)
  halves-some two = let h = halves ws hs s two in (h.left, h.right)
