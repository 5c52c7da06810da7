-- The runs of u over a tree with weights of any kind: which branch a fork takes, and the place where a walk ends, grow
-- with u (`fork-left`, `fork-right`, `walk-last`), so what two u enter alike every u between them enters too, to the
-- same outcome with the same chance (`walk-between`). Assumes nothing.
use Rattle.std.specs.Prelude.{ℕ, ◌+◌, ◌*◌, ◌≤◌, ◌<◌, ◌≡◌, refl, Bool, not, List, [], ◌∷◌, ◌⊎◌, pos, Float}
use Rattle.std.proofs.Math.Path.{sym, ap}
use Rattle.std.proofs.Common.{◌∙◌, subst, lt_irrefl, arith, T_not}
use Rattle.std.proofs.Math.Bool.{true, false, cond}
use Rattle.std.proofs.Math.Logic.{inl, inr}
use Rattle.std.proofs.Math.Nat.{le_refl as le_same, le_of_lt}
use Rattle.std.proofs.Math.Dec.{T, not_T}
use Rattle.std.specs.Float.Ieee.{nan, binary32, lt, le, is_nan, of_bits, add, sub, neg, div, fits}
use Rattle.std.specs.Float.{inf, fin}
use Rattle.std.specs.Float.Ieee.Scale.{finite}
use Rattle.words.specs.AsCoded.ListParts.{last_of}
use Rattle.ieee.specs.Single.{◌⊕◌, ◌⊖◌, ◌⊗◌, ◌⊘◌, zerof, onef}
use Rattle.ieee.specs.Choose.{fmin}
use Rattle.ieee.specs.Laws.OrderLaws.{nonneg, nonneg-known, nonneg-up, nonneg→le, finite-below, le_refl, le_trans}
use Rattle.ieee.specs.Laws.OrderLaws.{le_of_not_lt, lt-or-le, lt_of_le_of_lt}
use Rattle.ieee.specs.Laws.OperationOrder.{add-nonneg, sub-nonneg, div-nonneg, div_mono, sub_mono, sub-le, below_one}
use Rattle.ieee.specs.Laws.ChooseOrder.{fmin-is, fmin-nan, fmin-cap, fmin_mono}
use Rattle.words.specs.Answers.{given, refused, ◌then◌}
use Rattle.light_sampler.specs.Fork.{most, Turn, neither, left, right, parted, fork as fork_of}
use Rattle.light_sampler.specs.Walks.{Walked, Draw, taken, entering}
use Rattle.light_runs.specs.AsCoded.WeightedTree.{Weighted, leaf, fork, leaves_of, right_of, walk, NotBelow}
use Rattle.light_runs.specs.AsCoded.WeightedTree.{WeightsNotBelow}

-- ---- the u within a branch

-- what the cap of u is, and 1
pub record Cap : Type 0 where
  pub known : T (not (is_nan most))
  pub finite-is : T (finite most)
  pub nonneg-is : T (nonneg most)
  pub fits-is : T (fits binary32 most)
  pub to_one : T (le most onef)
  pub one-fits : T (fits binary32 onef)
  pub one-finite : T (finite onef)

pub cap : Cap
unfolding of_bits is_nan fits le
cap = record { known = tt; finite-is = tt; nonneg-is = tt; fits-is = tt; to_one = tt; one-fits = tt; one-finite = tt }

-- a share, or a quotient that a fork goes on with
abbrev NanOr : Float → Type 0
NanOr s = (s ≡ nan) ⊎ T (nonneg s)

capped-nonneg : (x : Float) → NanOr x → T (nonneg (fmin x most))
capped-nonneg x (inl e) =
    subst (λ (z : Float). T (nonneg (fmin z most))) (sym e)
    (subst (λ (z : Float). T (nonneg z)) (sym (fmin-nan most)) cap.nonneg-is)
capped-nonneg x (inr h) =
    elim (fmin-is x most) [
      | inl e ↦ subst (λ (z : Float). T (nonneg z)) (sym e) h
      | inr e ↦
          subst (λ (z : Float). T (nonneg z)) (sym e) cap.nonneg-is
    ]

-- in order within the branch, and up to `most`
abbrev Next : Float → Float → Type 0
Next u v = T (nonneg u) × T (le u v) × T (le v most)

next : (x y : Float) → NanOr x → T (le x y) → Next (fmin x most) (fmin y most)
next x y p h = (capped-nonneg x p, fmin_mono x y most cap.known h, fmin-cap y most cap.known)

sub-nan : (u : Float) → u ⊖ nan ≡ nan
unfolding sub add neg
sub-nan nan = refl
sub-nan (inf s) = refl
sub-nan (fin s m e) = refl

nan-div : (u : Float) → nan ⊘ u ≡ nan
unfolding div
nan-div u = refl

-- over an infinity a finite value is a zero
div_infinity : (u v : Float) → T (finite u) → T (finite v) → T (le (u ⊘ inf false) (v ⊘ inf false))
unfolding div le
div_infinity nan v a b = absurd a
div_infinity (inf s) v a b = absurd a
div_infinity (fin s m e) nan a b = absurd b
div_infinity (fin s m e) (inf t) a b = absurd b
div_infinity (fin true m e) (fin true n d) a b = tt
div_infinity (fin true m e) (fin false n d) a b = tt
div_infinity (fin false m e) (fin true n d) a b = tt
div_infinity (fin false m e) (fin false n d) a b = tt

module _ (u v : Float) (P : T (nonneg u)) (h : T (le u v)) (M : T (le v most)) where
  nonneg-v : T (nonneg v)
  nonneg-v = nonneg-up u v P h

  finite-v : T (finite v)
  finite-v = finite-below v most nonneg-v M cap.finite-is

  finite-u : T (finite u)
  finite-u = finite-below u v P h finite-v

  over-share : (s : Float) → T (lt (fin false 0 (pos 0)) s) → T (le (u ⊘ s) (v ⊘ s))
  unfolding lt
  over-share nan l = absurd l
  over-share (inf true) l = absurd l
  over-share (inf false) l = div_infinity u v finite-u finite-v
  over-share (fin t n d) l = div_mono binary32 u v (fin t n d) P finite-v tt l h

  left-next : (s : Float) → T (lt v s) → Next (fmin (u ⊘ s) most) (fmin (v ⊘ s) most)
  left-next s l =
      let z : T (lt (fin false 0 (pos 0)) s) = lt_of_le_of_lt (fin false 0 (pos 0)) v s (nonneg→le v nonneg-v) l in
      next (u ⊘ s) (v ⊘ s) (div-nonneg binary32 u s P z) (over-share s z)

  right-next : (s : Float) → NanOr s → T (not (lt u s))
      → Next (fmin ((u ⊖ s) ⊘ (onef ⊖ s)) most) (fmin ((v ⊖ s) ⊘ (onef ⊖ s)) most)
  right-next s (inl e) n =
      let k : (w : Float) → fmin ((w ⊖ s) ⊘ (onef ⊖ s)) most ≡ most =
      λ (w : Float). ap (λ (z : Float). fmin ((w ⊖ z) ⊘ (onef ⊖ z)) most) e ∙ ap
      (λ (z : Float). fmin (z ⊘ (onef ⊖ nan)) most) (sub-nan w)
      ∙ ap (λ (z : Float). fmin z most) (nan-div (onef ⊖ nan)) ∙ fmin-nan most in
      rw (k u, k v) (cap.nonneg-is, le_refl most cap.known, le_refl most cap.known)
  right-next s (inr p) n =
      let a : T (le s u) = le_of_not_lt s u (nonneg-known s p) (nonneg-known u P) n in
      let b : T (le s v) = le_trans s u v a h in
      let c : T (le s most) = le_trans s v most b M in
      let o : T (lt (fin false 0 (pos 0)) (onef ⊖ s)) = below_one s p c in
      let d : T (le s onef) = le_trans s most onef c cap.to_one in
      let f : T (finite (onef ⊖ s)) =
      finite-below (onef ⊖ s) onef (sub-nonneg binary32 onef s p cap.one-finite d)
      (sub-le binary32 onef s cap.one-fits cap.one-finite p d) cap.one-finite in
      let g : T (finite (v ⊖ s)) =
      finite-below (v ⊖ s) most (sub-nonneg binary32 v s p finite-v b)
      (le_trans (v ⊖ s) (most ⊖ s) most (sub_mono binary32 v most s p cap.finite-is b M)
      (sub-le binary32 most s cap.fits-is cap.finite-is p c)) cap.finite-is in
      let i : T (nonneg (u ⊖ s)) = sub-nonneg binary32 u s p finite-u a in
      next ((u ⊖ s) ⊘ (onef ⊖ s)) ((v ⊖ s) ⊘ (onef ⊖ s)) (div-nonneg binary32 (u ⊖ s) (onef ⊖ s) i o)
      (div_mono binary32 (u ⊖ s) (v ⊖ s) (onef ⊖ s) i g f o (sub_mono binary32 u v s p finite-v a h))

-- ---- the step: which branch a fork takes

abbrev IsNeither : Turn → Type 0
IsNeither neither = Unit
IsNeither (left s u) = ⊥
IsNeither (right s u) = ⊥

abbrev IsLeft : Turn → Type 0
IsLeft neither = ⊥
IsLeft (left s u) = Unit
IsLeft (right s u) = ⊥

abbrev share_of : Turn → Float
share_of neither = nan
share_of (left s u) = s
share_of (right s u) = s

abbrev next_of : Turn → Float
next_of neither = nan
next_of (left s u) = u
next_of (right s u) = u

not-left-neither : {s u : Float} → left s u ≡ neither → ⊥
not-left-neither e = subst IsNeither (sym e) tt

not-right-neither : {s u : Float} → right s u ≡ neither → ⊥
not-right-neither e = subst IsNeither (sym e) tt

not-right-left : {s u t v : Float} → right s u ≡ left t v → ⊥
not-right-left e = subst IsLeft (sym e) tt

-- `parted`, by its test
abbrev branch : Float → Float → Bool → Turn
branch s u b = cond b (left s (fmin (u ⊘ s) most)) (right (onef ⊖ s) (fmin ((u ⊖ s) ⊘ (onef ⊖ s)) most))

parted-some : (s u : Float) → parted s u ≡ neither → ⊥
unfolding parted
parted-some s u = go (lt u s)
  where
    go : (b : Bool) → branch s u b ≡ neither → ⊥
    go true e = not-left-neither e
    go false e = not-right-neither e

pub fork-neither : (l r u v : Float) → fork_of l r u ≡ neither → fork_of l r v ≡ neither
unfolding fork_of
fork-neither l r u v = go (le (l ⊕ r) zerof)
  where
    go : (b : Bool) → cond b neither (parted (l ⊘ (l ⊕ r)) u) ≡ neither
        → cond b neither (parted (l ⊘ (l ⊕ r)) v) ≡ neither
    go true e = refl
    go false e = absurd (parted-some (l ⊘ (l ⊕ r)) u e)

-- below the share, and from the share on
parted-below : (s u : Float) → T (lt u s) → parted s u ≡ left s (fmin (u ⊘ s) most)
unfolding parted
parted-below s u = go (lt u s)
  where
    go : (b : Bool) → T b → branch s u b ≡ left s (fmin (u ⊘ s) most)
    go true t = refl
    go false t = absurd t

parted-from : (s u : Float) → T (not (lt u s)) → parted s u ≡ right (onef ⊖ s) (fmin ((u ⊖ s) ⊘ (onef ⊖ s)) most)
unfolding parted
parted-from s u = go (lt u s)
  where
    go : (b : Bool) → T (not b) → branch s u b ≡ right (onef ⊖ s) (fmin ((u ⊖ s) ⊘ (onef ⊖ s)) most)
    go true t = absurd t
    go false t = refl

parted-left : (s u t w : Float) → parted s u ≡ left t w → T (lt u s) × (s ≡ t) × (fmin (u ⊘ s) most ≡ w)
unfolding parted
parted-left s u t w = go (lt u s)
  where
    go : (b : Bool) → branch s u b ≡ left t w → T b × (s ≡ t) × (fmin (u ⊘ s) most ≡ w)
    go true e = (tt, ap share_of e, ap next_of e)
    go false e = absurd (not-right-left e)

parted-right : (s u t w : Float) → parted s u ≡ right t w
    → T (not (lt u s)) × (onef ⊖ s ≡ t) × (fmin ((u ⊖ s) ⊘ (onef ⊖ s)) most ≡ w)
unfolding parted
parted-right s u t w = go (lt u s)
  where
    go : (b : Bool) → branch s u b ≡ right t w → T (not b) × (onef ⊖ s ≡ t) × (fmin ((u ⊖ s) ⊘ (onef ⊖ s)) most ≡ w)
    go true e = absurd (not-right-left (sym e))
    go false e = (tt, ap share_of e, ap next_of e)

zero_is : zerof ≡ fin false 0 (pos 0)
unfolding of_bits
zero_is = refl

module _ (l r : Float) (L : T (nonneg l)) (R : T (nonneg r)) where
  -- what takes a branch parts by the left share, a NaN or not below zero
  share-known : T (not (le (l ⊕ r) zerof)) → NanOr (l ⊘ (l ⊕ r))
  share-known n =
      let p = add-nonneg binary32 l r L R in
      div-nonneg binary32 l (l ⊕ r) L
      (elim (lt-or-le (fin false 0 (pos 0)) (l ⊕ r) (unfold is_nan in tt) (nonneg-known (l ⊕ r) p)) [
        | inl h ↦ h
        | inr h ↦ absurd (T_not (le (l ⊕ r) zerof) n (subst (λ (z : Float). T (le (l ⊕ r) z)) (sym zero_is) h))
      ])

  fork-parts : (v : Float) (a : Turn) → fork_of l r v ≡ a → (a ≡ neither → ⊥)
      → NanOr (l ⊘ (l ⊕ r)) × (parted (l ⊘ (l ⊕ r)) v ≡ a) × ((u : Float) → fork_of l r u ≡ parted (l ⊘ (l ⊕ r)) u)
  unfolding fork_of
  fork-parts v a e n = go (le (l ⊕ r) zerof) share-known e
    where
      go : (b : Bool) → (T (not b) → NanOr (l ⊘ (l ⊕ r))) → cond b neither (parted (l ⊘ (l ⊕ r)) v) ≡ a
          → NanOr (l ⊘ (l ⊕ r)) × (parted (l ⊘ (l ⊕ r)) v ≡ a)
          × ((u : Float) → cond b neither (parted (l ⊘ (l ⊕ r)) u) ≡ parted (l ⊘ (l ⊕ r)) u)
      go true k f = absurd (n (sym f))
      go false k f = (k tt, f, λ (u : Float). refl)

module _ (l r u v : Float) (L : T (nonneg l)) (R : T (nonneg r)) (P : T (nonneg u)) (h : T (le u v))
    (M : T (le v most)) where
  pub fork-left : (s v' : Float) → fork_of l r v ≡ left s v'
      → (u' : Float) × (fork_of l r u ≡ left s u') × T (nonneg u') × T (le u' v') × T (le v' most)
  fork-left s v' e =
      let a = l ⊘ (l ⊕ r) in
      let f = fork-parts l r L R v (left s v') e not-left-neither in
      let g = parted-left a v s v' f.1 in
      let n = left-next u v P h M a g.0 in (
        fmin (u ⊘ a) most,
        f.2 u ∙ parted-below a u (lt_of_le_of_lt u v a h g.0) ∙ ap (λ (z : Float). left z (fmin (u ⊘ a) most))
            g.1,
        n.0,
        subst (λ (z : Float). T (le (fmin (u ⊘ a) most) z)) g.2 n.1,
        subst (λ (z : Float). T (le z most)) g.2 n.2,
      )

  pub fork-right : (s u' : Float) → fork_of l r u ≡ right s u'
      → (v' : Float) × (fork_of l r v ≡ right s v') × T (nonneg u') × T (le u' v') × T (le v' most)
  fork-right s u' e =
      let a = l ⊘ (l ⊕ r) in
      let f = fork-parts l r L R u (right s u') e not-right-neither in
      let g = parted-right a u s u' f.1 in
      let n = right-next u v P h M a f.0 g.0 in
      let w = fmin ((v ⊖ a) ⊘ (onef ⊖ a)) most in
      let k : T (not (lt v a)) =
      not_T (lt v a) (λ (t : T (lt v a)). T_not (lt u a) g.0 (lt_of_le_of_lt u v a h t)) in (
        w,
        f.2 v ∙ parted-from a v k ∙ ap (λ (z : Float). right z w) g.1,
        subst (λ (z : Float). T (nonneg z)) g.2 n.0,
        subst (λ (z : Float). T (le z w)) g.2 n.1,
        n.2,
      )

-- ---- the places of a walk

leaves-pos : (t : Weighted) → 1 ≤ leaves_of t
unfolding leaves_of
leaves-pos (leaf h) = le_same 1
leaves-pos (fork w l r) = omega (arith, leaves-pos l, leaves-pos r)

-- a walk enters its root, so a place before it is not the last
last-behind : (i at : ℕ) (t : Weighted) (c u : Float)
    → last_of (i ∷ (walk at t c u).places) ≡ last_of (walk at t c u).places
unfolding last_of walk
last-behind i at (leaf h) c u = refl
last-behind i at (fork w l r) c u = refl

-- behind a fork, by the branch that it takes
abbrev behind : ℕ → Weighted → Weighted → Float → Turn → Walked Draw
behind at l r c a =
    taken (λ (d v : Float). walk (at + 1) l d v) (λ (d v : Float). walk (right_of at l) r d v) c (given a)

-- a walk ends at one of the 2 n - 1 places of its tree
abbrev Within : ℕ → Weighted → List ℕ → Type 0
Within at t is = (at ≤ last_of is) × (last_of is + 1 < at + 2 * leaves_of t)

within : (at : ℕ) (t : Weighted) (c u : Float) → Within at t (walk at t c u).places
unfolding last_of walk leaves_of taken ◌then◌
within at (leaf h) c u = (le_same at, omega arith)
within at (fork (refused n) l r) c u = (le_same at, omega (arith, leaves-pos l, leaves-pos r))
within at (fork (given x) l r) c u =
    go (fork_of x.0 x.1 u) (λ (d v : Float). within (at + 1) l d v) (λ (d v : Float). within (right_of at l) r d v)
  where
    go : (a : Turn) → ((d v : Float) → Within (at + 1) l (walk (at + 1) l d v).places)
        → ((d v : Float) → Within (right_of at l) r (walk (right_of at l) r d v).places)
        → Within at (fork (given x) l r) (at ∷ (behind at l r c a).places)
    go neither L R = (le_same at, omega (arith, leaves-pos l, leaves-pos r))
    go (left s v) L R =
        rw (last-behind at (at + 1) l (c ⊗ s) v) (omega (arith, L (c ⊗ s) v), omega (arith, L (c ⊗ s) v, leaves-pos r))
    go (right s v) L R =
        rw (last-behind at (right_of at l) r (c ⊗ s) v) (omega (arith, R (c ⊗ s) v), omega (arith, R (c ⊗ s) v))

-- what is entered by way of the left branch ends before what is entered by way of the right one
left-before-right : (at : ℕ) (l r : Weighted) (c d u v : Float)
    → last_of (at ∷ (walk (at + 1) l c u).places) < last_of (at ∷ (walk (right_of at l) r d v).places)
left-before-right at l r c d u v =
    rw (last-behind at (at + 1) l c u, last-behind at (right_of at l) r d v)
    (omega (arith, within (at + 1) l c u, within (right_of at l) r d v))

-- ---- the place where a walk ends grows with u

abbrev LastGrows : ℕ → Weighted → Type 0
LastGrows at t =
    (c d u v : Float) → T (nonneg u) → T (le u v) → T (le v most) → last_of (walk at t c u).places ≤ last_of
    (walk at t d v).places

module _ (at : ℕ) (l r : Weighted) (x : Float × Float) (N : NotBelow x) (c d u v : Float) (P : T (nonneg u))
    (h : T (le u v)) (M : T (le v most)) where
  last_step : LastGrows (at + 1) l → LastGrows (right_of at l) r → (a b : Turn) → fork_of x.0 x.1 u ≡ a
      → fork_of x.0 x.1 v ≡ b
      → last_of (at ∷ (behind at l r c a).places) ≤ last_of (at ∷ (behind at l r d b).places)
  unfolding last_of taken
  last_step L R neither neither e f = le_same at
  last_step L R neither (left s w) e f = absurd (not-left-neither (sym f ∙ fork-neither x.0 x.1 u v e))
  last_step L R neither (right s w) e f = absurd (not-right-neither (sym f ∙ fork-neither x.0 x.1 u v e))
  last_step L R (left s w) neither e f = absurd (not-left-neither (sym e ∙ fork-neither x.0 x.1 v u f))
  last_step L R (left s w) (left t y) e f =
      let g = fork-left x.0 x.1 u v N.0 N.1 P h M t y f in
      let k : g.0 ≡ w = ap next_of (sym g.1 ∙ e) in
      rw (last-behind at (at + 1) l (c ⊗ s) w, last-behind at (at + 1) l (d ⊗ t) y)
      (L (c ⊗ s) (d ⊗ t) w y (subst (λ (z : Float). T (nonneg z)) k g.2) (subst (λ (z : Float). T (le z y)) k g.3)
      g.4)
  last_step L R (left s w) (right t y) e f = le_of_lt (left-before-right at l r (c ⊗ s) (d ⊗ t) w y)
  last_step L R (right s w) neither e f = absurd (not-right-neither (sym e ∙ fork-neither x.0 x.1 v u f))
  last_step L R (right s w) (left t y) e f =
      let g = fork-left x.0 x.1 u v N.0 N.1 P h M t y f in
      absurd (not-right-left (sym e ∙ g.1))
  last_step L R (right s w) (right t y) e f =
      let g = fork-right x.0 x.1 u v N.0 N.1 P h M s w e in
      let k : g.0 ≡ y = ap next_of (sym g.1 ∙ f) in
      rw (last-behind at (right_of at l) r (c ⊗ s) w, last-behind at (right_of at l) r (d ⊗ t) y)
      (R (c ⊗ s) (d ⊗ t) w y g.2 (subst (λ (z : Float). T (le w z)) k g.3)
      (subst (λ (z : Float). T (le z most)) k g.4))

-- whatever the outcome
pub walk-last : (at : ℕ) (t : Weighted) (c d u v : Float) → WeightsNotBelow t → T (nonneg u) → T (le u v)
    → T (le v most)
    → last_of (walk at t c u).places ≤ last_of (walk at t d v).places
unfolding walk last_of taken ◌then◌
walk-last at (leaf h) c d u v W P k M = le_same at
walk-last at (fork (refused n) l r) c d u v W P k M = le_same at
walk-last at (fork (given x) l r) c d u v W P k M =
    last_step at l r x W.0.value c d u v P k M
    (λ (c d u v : Float) (P : T (nonneg u)) (k : T (le u v)) (M : T (le v most)). walk-last (at + 1) l c d u v
    W.1 P k M)
    (λ (c d u v : Float) (P : T (nonneg u)) (k : T (le u v)) (M : T (le v most)). walk-last (right_of at l) r c d u v
    W.2 P k M)
    (fork_of x.0 x.1 u) (fork_of x.0 x.1 v) refl refl

-- ---- what two u enter alike

abbrev Alike : ℕ → Weighted → Type 0
Alike at t =
    (c u v w : Float) → T (nonneg u) → T (le u v) → T (le v w) → T
    (le w most) → (walk at t c u).places ≡ (walk at t c w).places
    → walk at t c v ≡ walk at t c u

tail_of : List ℕ → List ℕ
tail_of [] = []
tail_of (i ∷ is) = is

module _ (at : ℕ) (l r : Weighted) (x : Float × Float) (N : NotBelow x) (c u v w : Float) (P : T (nonneg u))
    (h : T (le u v)) (k : T (le v w))
    (M : T (le w most)) where
  alike-step : Alike (at + 1) l → Alike (right_of at l) r → (a b : Turn) → fork_of x.0 x.1 u ≡ a
      → fork_of x.0 x.1 w ≡ b
      → at ∷ (behind at l r c a).places ≡ at ∷ (behind at l r c b).places
      → behind at l r c (fork_of x.0 x.1 v) ≡ behind at l r c a
  unfolding taken tail_of
  alike-step L R neither b e f q = ap (behind at l r c) (fork-neither x.0 x.1 u v e)
  alike-step L R (left s y) neither e f q = absurd (not-left-neither (sym e ∙ fork-neither x.0 x.1 w u f))
  alike-step L R (left s y) (left t z) e f q =
      let m = fork-left x.0 x.1 v w N.0 N.1 (nonneg-up u v P h) k M t z f in
      let o = fork-left x.0 x.1 u v N.0 N.1 P h (le_trans v w most k M) t m.0 m.1 in
      let i : s ≡ t = ap share_of (sym e ∙ o.1) in
      let j : o.0 ≡ y = ap next_of (sym o.1 ∙ e) in
      ap (behind at l r c) (m.1 ∙ ap (λ (p : Float). left p m.0) (sym i))
      ∙ L (c ⊗ s) y m.0 z (subst (λ (p : Float). T (nonneg p)) j o.2)
      (subst (λ (p : Float). T (le p m.0)) j o.3) m.3 m.4
      (ap tail_of q ∙ ap (λ (p : Float). (walk (at + 1) l (c ⊗ p) z).places) (sym i))
  alike-step L R (left s y) (right t z) e f q =
      let last = last_of (at ∷ (walk (right_of at l) r (c ⊗ t) z).places) in
      absurd (lt_irrefl last (subst (λ (n : ℕ). n < last) (ap last_of q) (left-before-right at l r (c ⊗ s)
      (c ⊗ t) y z)))
  alike-step L R (right s y) b e f q =
      let m = fork-right x.0 x.1 u v N.0 N.1 P h (le_trans v w most k M) s y e in
      let o = fork-right x.0 x.1 v w N.0 N.1 (nonneg-up u v P h) k M s m.0 m.1 in
      let i : b ≡ right s o.0 = sym f ∙ o.1 in
      ap (behind at l r c) m.1 ∙ R (c ⊗ s) y m.0 o.0 m.2 m.3 o.3 o.4
      (ap tail_of q ∙ ap (λ (p : Turn). (behind at l r c p).places) i)

-- every u between them enters the same, to the same outcome with the same chance
pub walk-between : (at : ℕ) (t : Weighted) (c u v w : Float) → WeightsNotBelow t → T (nonneg u) → T (le u v)
    → T (le v w) → T (le w most)
    → (walk at t c u).places ≡ (walk at t c w).places → walk at t c v ≡ walk at t c u
unfolding walk taken ◌then◌
walk-between at (leaf h) c u v w W P i k M q = refl
walk-between at (fork (refused n) l r) c u v w W P i k M q = refl
walk-between at (fork (given x) l r) c u v w W P i k M q =
    ap (entering at)
    (alike-step at l r x W.0.value c u v w P i k M
    (λ (c u v w : Float) (P : T (nonneg u)) (i : T (le u v)) (k : T (le v w)) (M : T (le w most)). walk-between
    (at + 1) l c u v w W.1 P i k M)
    (λ (c u v w : Float) (P : T (nonneg u)) (i : T (le u v)) (k : T (le v w)) (M : T (le w most)). walk-between
    (right_of at l) r c u v w W.2 P i k M)
    (fork_of x.0 x.1 u) (fork_of x.0 x.1 w) refl refl q)
