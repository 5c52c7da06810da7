-- The quantised numbers are no larger than their last step. A value that is a NaN or at most a whole number n has a
-- whole number of at most n next to it, and a cast of a NaN is 0. Assumes nothing.
use Rattle.std.specs.Prelude.{ℕ, ◌≤◌, ◌≡◌, Bool, true, cond, not, ◌&&◌, ◌||◌, ◌⊎◌, ltb, pos, Float}
use Rattle.std.proofs.Common.{zero-le, sym, ◌∙◌, ap, ltb-false, lit≤}
use Rattle.std.proofs.Math.Path.{refl, subst}
use Rattle.std.proofs.Math.Bool.{false}
use Rattle.std.proofs.Math.Logic.{inl, inr}
use Rattle.std.proofs.Math.Dec.{T}
use Rattle.std.specs.Float.{nan, inf, fin}
use Rattle.std.specs.Float.Ieee.{binary32, up, add, mul, div, lt, le, eq, is_nan, fits, of_bits}
use Rattle.std.specs.Float.Ieee.Scale.{finite}
use Rattle.std.specs.Float.Ieee.Fits.{mul-fits, and_l, and_r}
use Rattle.ieee.specs.Choose.{clamp}
use Rattle.ieee.specs.Laws.CutLaws.{NanOrAtMost, next_small}
use Rattle.ieee.specs.Laws.OperationOrder.{mul-nonneg, div-nonneg, mul_mono, div_mono}
use Rattle.ieee.specs.Laws.OrderLaws.{le_left, le_of_not_lt, le→nonneg, nonneg, nonneg-known, nonneg-up}
use Rattle.ieee.specs.Laws.SumOrder.{sum_mono, add-known, between}
use Rattle.ieee.specs.Single.{◌⊕◌, ◌⊖◌, ◌⊗◌, ◌⊘◌, zerof, half, onef, twof, minus_one}
use Rattle.ieee.specs.Whole.{negative, floor, ceil, round_away, to_u16, to_u32}
use Rattle.words.specs.Answers.{Answer, given, refused}
use Rattle.words.proofs.AnswerLaws.{then-given, not-both}
use Rattle.light_bounds.specs.Bounds.{box_check}
use Rattle.light_bounds.specs.LightBounds.{is_cosine, finite_cone, range_check, cone_check, validate}
use Rattle.light_bounds.specs.Vecmath.{dot}
use Rattle.light_bounds.specs.declared.light_bounds.LightBounds.{LightBounds}
use Rattle.packed_bvh.specs.Quantize.{last_step, last_cos_step, steps_of, quantize_bounds, quantize_cos, quantize_axis}

-- ---- coordinates

-- a clamped value is a NaN, or from 0 to 1
abbrev pub Portion : Float → Type 0
Portion x = T (nonneg x) × T (le x onef)

pub clamped : (x : Float) → (clamp x zerof onef ≡ nan) ⊎ Portion (clamp x zerof onef)
unfolding clamp of_bits lt
clamped nan = inl refl
clamped (inf s) = go s
  where
    go : (s : Bool) → (clamp (inf s) zerof onef ≡ nan) ⊎ Portion (clamp (inf s) zerof onef)
    go true = inr (tt, unfold le in tt)
    go false = inr (tt, unfold le in tt)
clamped (fin s m e) = go (lt (fin s m e) zerof) refl
  where
    up_to : (b : Bool) → lt onef (fin s m e) ≡ b → T (le zerof (fin s m e)) → Portion (cond b onef (fin s m e))
    up_to true k h = (tt, unfold le eq in tt)
    up_to false k h =
        (le→nonneg (fin s m e) h, le_of_not_lt (fin s m e) onef (unfold is_nan in tt) (unfold is_nan in tt) (rw k tt))

    go : (b : Bool) → lt (fin s m e) zerof ≡ b
        → (clamp (fin s m e) zerof onef ≡ nan) ⊎ Portion (clamp (fin s m e) zerof onef)
    go true k = rw k (inr (tt, unfold le eq in tt))
    go false k =
        rw k (inr (up_to (lt onef (fin s m e)) refl
        (le_of_not_lt zerof (fin s m e) (unfold is_nan in tt) (unfold is_nan in tt) (rw k tt))))

-- times the last step it is at most that
all-steps : onef ⊗ last_step ≡ fin false 65535 (pos 0)
unfolding mul of_bits
all-steps = refl

pub portion-steps : (x : Float) → Portion x → NanOrAtMost 65535 (x ⊗ last_step)
unfolding of_bits
portion-steps x (p, h) =
    elim (mul-nonneg binary32 x last_step p tt) [
      | inl e ↦ inl e
      | inr q ↦ inr
          (subst (λ (z : Float). T (le (x ⊗ last_step) z)) all-steps
          (mul_mono binary32 x onef last_step last_step p tt h (unfold le eq in tt) (nonneg-known (x ⊗ last_step) q)
          (unfold is_nan mul in tt)))
    ]

nan-steps : nan ⊗ last_step ≡ nan
unfolding mul
nan-steps = refl

steps-under : (value lo hi : Float) → NanOrAtMost 65535 (steps_of value lo hi)
unfolding steps_of
steps-under value lo hi =
    let x = clamp ((value ⊖ lo) ⊘ (hi ⊖ lo)) zerof onef in
    elim (clamped ((value ⊖ lo) ⊘ (hi ⊖ lo))) [
      | inl e ↦ inl (ap (λ (z : Float). z ⊗ last_step) e ∙ nan-steps)
      | inr h ↦ portion-steps x h
    ]

pub steps-fit : (value lo hi : Float) → T (fits binary32 (steps_of value lo hi))
unfolding steps_of
steps-fit value lo hi = mul-fits binary32 (clamp ((value ⊖ lo) ⊘ (hi ⊖ lo)) zerof onef) last_step

pub quantize-small : (up : Bool) (value lo hi : Float) → quantize_bounds up value lo hi ≤ 65535
unfolding quantize_bounds to_u32 floor ceil
quantize-small up value lo hi = go (eq lo hi) up
  where
    go : (b up : Bool)
        → cond b 0
        (to_u32 (cond up (ceil binary32 (steps_of value lo hi)) (floor binary32 (steps_of value lo hi)))) ≤ 65535
    go true up = zero-le
    go false true =
        next_small 32 65535 (not (negative (steps_of value lo hi))) (steps_of value lo hi) (steps-fit value lo hi)
        (steps-under value lo hi)
    go false false =
        next_small 32 65535 (negative (steps_of value lo hi)) (steps_of value lo hi) (steps-fit value lo hi)
        (steps-under value lo hi)

-- ---- directions

pub quantize-axis-small : (c : Float) → quantize_axis c ≤ 65535
unfolding quantize_axis
quantize-axis-small c = go (to_u32 (round_away binary32 ((c ⊕ onef) ⊗ half ⊗ last_step)))
  where
    cut : (step : ℕ) (b : Bool) → ltb 65535 step ≡ b → cond b 65535 step ≤ 65535
    cut step true e = lit≤ tt
    cut step false e = ltb-false 65535 step e

    go : (step : ℕ) → cond (ltb 65535 step) 65535 step ≤ 65535
    go step = cut step (ltb 65535 step) refl

-- ---- cosines

abbrev Double : Float → Type 0
Double x = T (nonneg x) × T (le x twof)

one-and-one : onef ⊕ onef ≡ twof
unfolding add of_bits
one-and-one = refl

one-less-one : minus_one ⊕ onef ≡ zerof
unfolding add of_bits
one-less-one = refl

-- c + 1 grows with c, from -1 + 1 to 1 + 1
raised : (c : Float) → T (le minus_one c) → T (le c onef) → Double (c ⊕ onef)
unfolding of_bits
raised c h k =
    let finite-c : T (finite c) = between minus_one c onef tt tt h k in
    let own : T (le onef onef) = unfold le eq in tt in
    let known = add-known binary32 c onef finite-c tt in (
      nonneg-up (minus_one ⊕ onef) (c ⊕ onef) (rw one-less-one tt)
          (sum_mono binary32 minus_one c onef onef (add-known binary32 minus_one onef tt tt) known h own),
      subst (λ (z : Float). T (le (c ⊕ onef) z)) one-and-one
          (sum_mono binary32 c onef onef onef known (add-known binary32 onef onef tt tt) k own),
    )

two-halved : twof ⊘ twof ≡ onef
unfolding div of_bits
two-halved = refl

halved : (x : Float) → Double x → Portion (x ⊘ twof)
unfolding of_bits is_nan
halved x (p, h) =
    let l : T (le (x ⊘ twof) (twof ⊘ twof)) = div_mono binary32 x twof twof p tt tt (unfold lt in tt) h in
    elim (div-nonneg binary32 x twof p (unfold lt in tt)) [
      | inl e ↦ absurd (subst (λ (z : Float). T (not (is_nan z))) e (le_left (x ⊘ twof) (twof ⊘ twof) l))
      | inr q ↦ (q, subst (λ (z : Float). T (le (x ⊘ twof) z)) two-halved l)
    ]

all-cos-steps : last_cos_step ⊗ onef ≡ fin false 32767 (pos 0)
unfolding mul of_bits
all-cos-steps = refl

cos-steps : (x : Float) → Portion x → NanOrAtMost 32767 (last_cos_step ⊗ x)
unfolding of_bits
cos-steps x (p, h) =
    elim (mul-nonneg binary32 last_cos_step x tt p) [
      | inl e ↦ inl e
      | inr q ↦ inr
          (subst (λ (z : Float). T (le (last_cos_step ⊗ x) z)) all-cos-steps
          (mul_mono binary32 last_cos_step last_cos_step x onef tt p (unfold le eq in tt) h
          (nonneg-known (last_cos_step ⊗ x) q) (unfold is_nan mul in tt)))
    ]

pub cos-small : (c : Float) → is_cosine c ≡ true → quantize_cos c ≤ 32767
unfolding quantize_cos to_u16 floor is_cosine
cos-small c h =
    let t : T (is_cosine c) = subst T (sym h) tt in
    let x = (c ⊕ onef) ⊘ twof in
    let s = last_cos_step ⊗ x in
    next_small 16 32767 (negative s) s (mul-fits binary32 last_cos_step x)
    (cos-steps x (halved (c ⊕ onef)
    (raised c (and_l (le minus_one c) (le c onef) t) (and_r (le minus_one c) (le c onef) t))))

-- a record that passes its check has cosines, so that its cone word keeps fifteen bits for each
pub valid-cosines : (b : LightBounds) → validate b ≡ given tt
    → (is_cosine b.cos_theta_o ≡ true) × (is_cosine b.cos_theta_e ≡ true)
unfolding validate cone_check range_check
valid-cosines b h =
    let (u, box, cone) = then-given (box_check b.bounds) (λ _. cone_check b) tt h in
    go (finite_cone b) (eq (dot b.direction b.direction) zerof) (lt b.phi zerof) (is_cosine b.cos_theta_o)
    (is_cosine b.cos_theta_e) cone
  where
    go : (finite still below o e : Bool)
        → ◌≡◌ {A = Answer (Unit {0})}
        (cond finite (cond still (refused 7) (cond (below || not (o && e)) (refused 8) (given tt))) (refused 5))
        (given tt)
        → (o ≡ true) × (e ≡ true)
    go false still below o e g = absurd (not-both g refl)
    go true true below o e g = absurd (not-both g refl)
    go true false true o e g = absurd (not-both g refl)
    go true false false false e g = absurd (not-both g refl)
    go true false false true false g = absurd (not-both g refl)
    go true false false true true g = (refl, refl)

pub valid-cos-small : (b : LightBounds) → validate b ≡ given tt
    → (quantize_cos b.cos_theta_o ≤ 32767) × (quantize_cos b.cos_theta_e ≤ 32767)
valid-cos-small b h =
    let (o, e) = valid-cosines b h in
    (cos-small b.cos_theta_o o, cos-small b.cos_theta_e e)
