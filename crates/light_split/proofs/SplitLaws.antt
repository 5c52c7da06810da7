-- Laws of the cuts of an axis, as the loop that takes them uses them: the two sides of a cut, one cut more, a cut
-- behind an empty bucket, a side that is lost; of the box of a stretch, its three axes, and the axes that are left.
-- Assumes nothing.
use Prim.Native.Nat.{ℕ, zero, suc, ◌+◌, ◌-◌, ◌≤◌, ◌<◌}
use mathlib.Core.Path.{◌≡◌, refl, ap, subst, sym, ◌∙◌}
use mathlib.Core.Bool.{Bool, true, false, cond, ◌&&◌, and-false}
use mathlib.Core.List.{List, [], ◌∷◌, ◌++◌}
use Rattle.std.specs.Prelude.{None, Some, fold}
use Rattle.std.specs.Option.{is_some}
use native.Mathlib.Numerals.{add-one}
use native.Mathlib.Omega.{arith}
use lib.Dec.{T}
use lib.Ieee.{Float, lt, eq}
use lib.ListN.{length, get_or, take, drop, length-drop}
use borrow.Rule.Slice.PartMut.{mid_of}
use lib.Seq.{take-suc, take_all, drop-cons}
use Rattle.ieee.specs.Laws.OrderLaws.{lt→le, not_le_of_lt}
use Rattle.ieee.specs.Single.{◌⊕◌, zerof}
use Rattle.words.specs.Answers.{Answer, given, refused, ◌then◌}
use Rattle.words.proofs.AnswerLaws.{then_assoc, then_is, then-refused}
use Rattle.light_bounds.specs.Bounds.{box_union}
use Rattle.light_bounds.specs.declared.bounds.Bounds3.{Bounds3}
use Rattle.light_bounds.specs.declared.light_bounds.LightBounds.{LightBounds}
use Rattle.light_split.specs.Lights.{light_of, component, centroid_ends}
use Rattle.light_split.specs.Buckets.{Bucket, join_to, union_range, union_bucket_range, side_cost, cut_cost}
use Rattle.light_split.specs.Buckets.{fill_buckets, empty_buckets}
use Rattle.light_split.specs.Split.{split, combined_bounds, no_best, better, cuts, axis, choose_split}
use Rattle.light_split.specs.declared.split.Best.{Best}
use Rattle.light_split.specs.declared.split.Split.{Split}

-- ---- buckets joined

-- a step that changes nothing
then_same : {A : Type 0} (x : Answer A) → x then (λ (a : A). given a) ≡ x
unfolding ◌then◌
then_same (given a) = refl
then_same (refused k) = refl

pub union_range-append : (b : Bucket) (xs ys : List Bucket) →
    union_range b (xs ++ ys) ≡ union_range b xs then λ (r : Bucket). union_range r ys
unfolding union_range ◌then◌
union_range-append b [] ys = refl
union_range-append b (None ∷ xs) ys = union_range-append b xs ys
union_range-append b (Some a ∷ xs) ys =
    ap (λ (next : Bucket → Answer Bucket). join_to b a then next) (λ i r. union_range-append r xs ys i)
    ∙ sym (then_assoc (join_to b a) (λ (r : Bucket). union_range r xs) (λ (r : Bucket). union_range r ys))

module _ (bs : List Bucket) where
  -- one bucket more at the end
  pub union_range-take : (n : ℕ) → n < length bs
      → union_range None (take (suc n) bs) ≡
      union_range None (take n bs) then λ (l : Bucket). union_range l (get_or bs n None ∷ [])
  union_range-take n h =
      ap (union_range None) (take-suc bs n None h) ∙ union_range-append None (take n bs) (get_or bs n None ∷ [])

  -- the left side grows by one bucket
  -- by an empty one
  pub left-empty : (n : ℕ) → n < length bs → get_or bs n None ≡ None →
      union_range None (take (suc n) bs) ≡ union_range None (take n bs)
  unfolding union_range
  left-empty n h e = union_range-take n h ∙ rw e (then_same (union_range None (take n bs)))

  -- by a filled one
  pub left-filled : (n : ℕ) (l : Bucket) (b : LightBounds) → n < length bs → get_or bs n None ≡ Some b →
      union_range None (take n bs) ≡ given l
      → union_range None (take (suc n) bs) ≡ join_to l b
  unfolding union_range ◌then◌
  left-filled n l b h e f = union_range-take n h ∙ rw (f, e) (then_same (join_to l b))

  -- the same as the code counts
  pub joined-some : (n : ℕ) (l : Bucket) (b : LightBounds) → n < length bs → get_or bs n None ≡ Some b →
      union_range None (take n bs) ≡ given l → union_range None (take (n + 1) bs) ≡ join_to l b
  joined-some n l b h e f = rw (add-one n) (left-filled n l b h e f)

  pub joined-none : (n : ℕ) → n < length bs → get_or bs n None ≡ None →
      union_range None (take (n + 1) bs) ≡ union_range None (take n bs)
  joined-none n h e = rw (add-one n) (left-empty n h e)

  right-empty : (n : ℕ) → n < length bs → get_or bs n None ≡ None →
      union_range None (drop n bs) ≡ union_range None (drop (suc n) bs)
  unfolding union_range
  right-empty n h e = rw (drop-cons bs n None h, e)

is_none : (b : Bucket) → is_some b ≡ false → b ≡ None
is_none None e = refl
is_none (Some a) e = cc

-- ---- the better of two

lt_irrefl : (c : Float) → lt c c ≡ false
lt_irrefl c = go (lt c c) (λ h. not_le_of_lt c c h (lt→le c c h))
  where
    go : (t : Bool) → (T t → ⊥) → t ≡ false
    go true h = absurd (h tt)
    go false h = refl

-- a cost that was looked at does not win a second time
pub better_again : (b : Best) (s s' : Split) (c : Float) → better (better b s c) s' c ≡ better b s c
unfolding better
better_again b s s' c = go (lt zerof c && lt c b.min_cost) refl
  where
    go : (t : Bool) → lt zerof c && lt c b.min_cost ≡ t
        → better (cond t (record { min_cost = c; best = s }) b) s' c ≡ cond t (record { min_cost = c; best = s }) b
    go true e = rw (lt_irrefl c, and-false (lt zerof c))
    go false e = rw e

-- ---- cuts

module _ (bs : List Bucket) (parent : Bounds3) (d : ℕ) (twelve : length bs ≡ 12) where
  cut_cost-sides : (n : ℕ) → cut_cost bs parent d n
      ≡ union_range None (take (suc n) bs) then λ (l : Bucket). union_range None (drop (suc n) bs) then λ (r : Bucket).
      given (side_cost parent d l ⊕ side_cost parent d r)
  unfolding cut_cost union_bucket_range
  cut_cost-sides n =
      ap (λ (w : List Bucket). union_range None (take (suc n) bs) then λ (l : Bucket). union_range None (drop (suc n) w)
      then λ (r : Bucket).
      given (side_cost parent d l ⊕ side_cost parent d r)) (take_all 12 bs (omega arith))

  -- a cut behind an empty bucket has the sides of the cut before it
  pub cut_cost-empty : (n : ℕ) → n < 11 → get_or bs (suc n) None ≡ None →
      cut_cost bs parent d (suc n) ≡ cut_cost bs parent d n
  cut_cost-empty n h e =
      rw (
        cut_cost-sides (suc n),
        cut_cost-sides n,
        left-empty bs (suc n) (omega arith) e,
        right-empty bs (suc n)
            (omega arith) e,
      )

  -- the buckets behind a cut, as the code lends them
  abbrev behind : ℕ → List Bucket
  behind n = mid_of (n + 1) (12 - (n + 1)) bs

  behind_all : (n : ℕ) → n < 11 → behind n ≡ drop (suc n) bs
  behind_all n h = rw (add-one n) (take_all (12 - suc n) (drop (suc n) bs) (omega (arith, length-drop (suc n) bs)))

  module _ (b : Best) where
    -- and does not win
    pub cuts-empty : (n : ℕ) → n < 11 → get_or bs (suc n) None ≡ None →
        cuts bs parent d b (suc (suc n)) ≡ cuts bs parent d b (suc n)
    unfolding cuts ◌then◌
    cuts-empty n h e = rw (cut_cost-empty n h e) (go (cuts bs parent d b n) (cut_cost bs parent d n))
      where
        go : (x : Answer Best) (y : Answer Float) →
            (x then λ (b : Best). y then λ (c : Float). given (better b (split d n) c)) then
            (λ (b : Best). y then λ (c : Float). given (better b (split d (suc n)) c))
            ≡ x then λ (b : Best). y then λ (c : Float). given (better b (split d n) c)
        go (given b) (given c) = ap given (better_again b (split d n) (split d (suc n)) c)
        go (given b) (refused k) = refl
        go (refused k) y = refl

    -- a refusal stays
    pub cuts_lost : (n m k : ℕ) → cuts bs parent d b n ≡ refused k → n ≤ m → cuts bs parent d b m ≡ refused k
    unfolding cuts ◌then◌
    cuts_lost n m k e h =
        let p : m - n + n ≡ m = omega arith in subst (λ (m : ℕ). cuts bs parent d b m ≡ refused k) p (go (m - n))
      where
        go : (i : ℕ) → cuts bs parent d b (i + n) ≡ refused k
        go zero = let p : 0 + n ≡ n = omega arith in rw p e
        go (suc i) = let p : suc i + n ≡ suc (i + n) = omega arith in rw (p, go i)

    -- one cut more, of two sides
    pub cut-next : (n : ℕ) (best : Best) (l r : Bucket) → cuts bs parent d b n ≡ given best →
        union_range None (take (n + 1) bs) ≡ given l → given r ≡ union_range None (behind n)
        → n < 11 → cuts bs parent d b (n + 1) ≡
        given (better best (split d n) (side_cost parent d l ⊕ side_cost parent d r))
    unfolding cuts ◌then◌
    cut-next n best l r e f g h =
        rw (add-one n, e, cut_cost-sides n, rw (add-one n) at f, sym (g ∙ ap (union_range None) (behind_all n h)))

    -- behind an empty bucket
    pub cut-empty : (n : ℕ) (best : Best) → cuts bs parent d b n ≡ given best → n < 11 → (n ≡ 0 → ⊥)
        → is_some (get_or bs n None) ≡ false → cuts bs parent d b (n + 1) ≡ given best
    cut-empty zero best e h p f = absurd (p refl)
    cut-empty (suc k) best e h p f = rw (add-one (suc k), cuts-empty k (omega arith) (is_none _ f)) e

    -- a side that is lost
    pub left_lost : (n k : ℕ) (best : Best) → cuts bs parent d b n ≡ given best
        → refused k ≡ union_range None (take (n + 1) bs) → n < 11 → refused k ≡ cuts bs parent d b 11
    unfolding cuts ◌then◌
    left_lost n k best e f h =
        sym (cuts_lost (suc n) 11 k (rw (e, cut_cost-sides n, rw (add-one n) at (sym f))) h)

    pub right_lost : (n k : ℕ) (best : Best) (l : Bucket) → cuts bs parent d b n ≡ given best
        → union_range None (take (n + 1) bs) ≡ given l → refused k ≡ union_range None (behind n) → n < 11
        → refused k ≡ cuts bs parent d b 11
    unfolding cuts ◌then◌
    right_lost n k best l e f g h =
        sym (cuts_lost (suc n) 11 k
        (rw (e, cut_cost-sides n, rw (add-one n) at f, sym (g ∙ ap (union_range None) (behind_all n h)))) h)

-- ---- the box of a stretch

abbrev pub join_box : List ℕ → Bounds3 → ℕ → Bounds3
join_box ws b h = box_union b (light_of ws h).bounds

pub combined-none : (ws hs : List ℕ) → length hs ≡ 0 → combined_bounds ws hs ≡ (light_of ws 0).bounds
unfolding combined_bounds
combined-none ws [] e = refl
combined-none ws (h ∷ hs) e = absurd (omega arith)

pub combined-first : (ws hs : List ℕ) → 0 < length hs →
    combined_bounds ws hs ≡ fold (join_box ws) (light_of ws (get_or hs 0 0)).bounds (drop 1 hs)
unfolding combined_bounds
combined-first ws [] l = absurd (omega arith)
combined-first ws (h ∷ hs) l = refl

-- ---- the axes

then-last : {A B : Type 0} (x : Answer A) (f g : A → Answer A) (h : A → Answer B)
    → x then (λ (a : A). f a then λ (b : A). g b then h) ≡ (x then λ (a : A). f a then λ (b : A). g b) then h
unfolding ◌then◌
then-last (given a) f g h = sym (then_assoc (f a) g h)
then-last (refused k) f g h = refl

-- all three, then the best cut
pub choose_axes : (ws hs : List ℕ) → choose_split ws hs
    ≡ (axis ws hs (centroid_ends ws hs) (combined_bounds ws hs) 0 no_best then
    λ (b : Best). axis ws hs (centroid_ends ws hs) (combined_bounds ws hs) 1 b then
    λ (b : Best). axis ws hs (centroid_ends ws hs) (combined_bounds ws hs) 2 b) then λ (b : Best). given b.best
unfolding choose_split
choose_axes ws hs =
    then-last (axis ws hs (centroid_ends ws hs) (combined_bounds ws hs) 0 no_best)
    (axis ws hs (centroid_ends ws hs) (combined_bounds ws hs) 1)
    (axis ws hs (centroid_ends ws hs) (combined_bounds ws hs) 2) (λ (b : Best). given b.best)

-- what is chosen where n axes are left
unfoldable pub axes : List ℕ → List ℕ → Bounds3 → Bounds3 → ℕ → Best → Answer Split
axes ws hs ends parent zero b = given b.best
axes ws hs ends parent (suc n) b = axis ws hs ends parent (2 - n) b then λ (b : Best). axes ws hs ends parent n b

pub axes_all : (ws hs : List ℕ) →
    axes ws hs (centroid_ends ws hs) (combined_bounds ws hs) 3 no_best ≡ choose_split ws hs
unfolding axes choose_split
axes_all ws hs = refl

axes-next : (ws hs : List ℕ) (ends parent : Bounds3) (d : ℕ) (b : Best) → d < 3
    → axes ws hs ends parent (3 - d) b
    ≡ axis ws hs ends parent d b then λ (b : Best). axes ws hs ends parent (3 - (d + 1)) b
unfolding axes
axes-next ws hs ends parent d b h =
    let k = 3 - (d + 1) in
    let e : 3 - d ≡ suc k = omega arith in
    let f : 2 - k ≡ d = omega arith in
    rw (e, f)

-- an axis is left out, or its cuts are taken
pub axis-out : (ws hs : List ℕ) (ends parent : Bounds3) (d : ℕ) (b : Best) → d < 3 →
    eq (component d ends.min) (component d ends.max) ≡ true
    → axes ws hs ends parent (3 - d) b ≡ axes ws hs ends parent (3 - (d + 1)) b
unfolding axis ◌then◌
axis-out ws hs ends parent d b h e = axes-next ws hs ends parent d b h ∙ rw e

pub axis-in : (ws hs : List ℕ) (ends parent : Bounds3) (d : ℕ) (b : Best) → d < 3 →
    eq (component d ends.min) (component d ends.max) ≡ false
    → axes ws hs ends parent (3 - d) b
    ≡ (fill_buckets ws ends d empty_buckets hs then λ (bs : List Bucket). cuts bs parent d b 11) then λ (b : Best).
    axes ws hs ends parent (3 - (d + 1)) b
unfolding axis
axis-in ws hs ends parent d b h e = axes-next ws hs ends parent d b h ∙ rw e

pub ruleset turns = (axis-out, axis-in, then_is, then-refused)
