-- Packed coordinates keep the order: of two values within the overall box's axis, the greater one has a step that is no
-- smaller, whichever way both are rounded (`quantize_mono`). Every part of the computation keeps it: the difference,
-- the quotient, the clamp, the product, the next whole number. The computed steps are known where the difference of the
-- axis's ends is finite (`steps-known`); where it is not, all are 0 (`wide-steps`). Assumes nothing.
use Rattle.std.specs.Prelude.{ℕ, suc, ◌+◌, ◌*◌, ◌≤◌, ◌<◌, ◌≡◌, refl, Bool, true, false, cond, not, ◌⊎◌, T, ℤ, pos}
use Rattle.std.specs.Prelude.{Float}
use Rattle.std.proofs.Common.{zero-le, ◌∙◌, inl, inr, lt_of_mul-lt-mul_right, le_of_mul-le-mul_right, mul-pos}
use Rattle.std.proofs.Common.{mul-le-mul_right, eq-zero-or-pos, arith, eq-eqb, eqb→eq, lt→ltb}
use Rattle.std.specs.Float.{nan, inf, fin, binary32}
use Rattle.std.specs.Float.Ieee.{unlike, low, up, down, size, span, climb, odd, units, round, mul, div, lt, le, eq}
use Rattle.std.specs.Float.Ieee.{is_nan, fits, of_bits, to_unsigned}
use Rattle.std.specs.Float.Ieee.Fits.{down_pos, up_pos}
use Rattle.std.specs.Float.Ieee.Scale.{finite}
use Rattle.ieee.specs.Choose.{clamp, fmin, fmax}
use Rattle.ieee.specs.Laws.ChooseOrder.{fmin_mono, fmax_mono}
use Rattle.ieee.specs.Laws.OperationOrder.{div_mono, mul_mono, positive→lt}
use Rattle.ieee.specs.Laws.OrderLaws.{gain, loss, nonneg, le-fin, le_left, le_right, le_refl, le_trans, nonneg-known}
use Rattle.ieee.specs.Laws.OrderLaws.{nonneg-up, finite-below}
use Rattle.ieee.specs.Single.{◌⊖◌, ◌⊗◌, ◌⊘◌, zerof, onef}
use Rattle.ieee.specs.Whole.{outward, next_whole, negative, floor, ceil, to_u32}
use Rattle.ieee.specs.Laws.WholeNumbers.{outward-small, outward-under, outward-over}
use Rattle.packed_bvh.specs.Quantize.{last_step, steps_of, quantize_bounds}
use Rattle.packed_bvh.specs.Laws.QuantizeLaws.{Portion, clamped}
use Rattle.packed_laws.specs.Laws.PackedBoxes.{Steps, steps-of, nan-known, cast-next, cast-zero}
use Rattle.ieee.specs.Laws.SumOrder.{difference-nonneg, difference-grows, difference-above, between}

-- ---- the clamp

known-not : (x : Float) → T (not (is_nan x)) → is_nan x ≡ false
known-not x h = go (is_nan x) h
  where
    go : (b : Bool) → T (not b) → b ≡ false
    go true h = absurd h
    go false h = refl

chosen : (P : Float → Type 0) (b : Bool) (x y : Float) → P x → P y → P (cond b x y)
chosen P true x y h k = h
chosen P false x y h k = k

-- of a value that is no NaN it is a max and a min
clamp-is : (x : Float) → T (not (is_nan x)) → clamp x zerof onef ≡ fmin (fmax x zerof) onef
unfolding clamp fmin fmax
clamp-is x h =
    let lifted : T (not (is_nan (cond (lt x zerof) zerof x))) =
    chosen (λ (z : Float). T (not (is_nan z))) (lt x zerof) zerof x (unfold is_nan of_bits in tt) h in
    rw (known-not x h, known-not (cond (lt x zerof) zerof x) lifted)

clamp_mono : (x y : Float) → T (le x y) → T (le (clamp x zerof onef) (clamp y zerof onef))
clamp_mono x y h =
    rw (clamp-is x (le_left x y h), clamp-is y (le_right x y h))
    (fmin_mono (fmax x zerof) (fmax y zerof) onef (unfold is_nan of_bits in tt)
    (fmax_mono x y zerof (unfold is_nan of_bits in tt) h))

-- ---- the next whole number

outward_mono : (away : Bool) (m : ℕ) (e : ℤ) (n : ℕ) (d : ℤ) → m * up e * down d ≤ n * up d * down e
    → outward away m e ≤ outward away n d
outward_mono false m e n d h =
    steps (outward false m e) (outward false n d) (m * up e) (n * up d) (down e) (down d) (down_pos e) (down_pos d)
    (outward-under m e).at_most
    (outward-under n d).greatest h
  where
    steps : (q r a b x y : ℕ) → 0 < x → 0 < y → q * x ≤ a → b < suc r * y → a * y ≤ b * x → q ≤ r
    steps q r a b x y X Y h k l =
        let h' : q * x * y ≤ a * y = mul-le-mul_right y h in
        let k' : suc b * x ≤ suc r * y * x = mul-le-mul_right x k in
        let t : q * (x * y) < suc r * (x * y) = omega arith in
        let s : q < suc r = lt_of_mul-lt-mul_right (x * y) t in
        omega arith
outward_mono true m e n d h =
    steps (outward true m e) (outward true n d) (m * up e) (n * up d) (down e) (down d) (down_pos e) (down_pos d)
    (outward-over m e).least
    (outward-over n d).at_least h
  where
    steps : (q r a b x y : ℕ) → 0 < x → 0 < y → q * x < a + x → b ≤ r * y → a * y ≤ b * x → q ≤ r
    steps q r a b x y X Y h k l =
        let h' : suc (q * x) * y ≤ (a + x) * y = mul-le-mul_right y h in
        let k' : b * x ≤ r * y * x = mul-le-mul_right x k in
        let t : q * (x * y) < suc r * (x * y) = omega arith in
        let s : q < suc r = lt_of_mul-lt-mul_right (x * y) t in
        omega arith

-- ---- the step of a quotient

abbrev steps_at : Float → Float
steps_at x = clamp x zerof onef ⊗ last_step

unfoldable step_at : Bool → Float → ℕ
step_at to x = to_u32 (cond to (ceil binary32 (steps_at x)) (floor binary32 (steps_at x)))

quantize-is : (to : Bool) (v lo hi : Float)
    → quantize_bounds to v lo hi ≡ cond (eq lo hi) 0 (step_at to ((v ⊖ lo) ⊘ (hi ⊖ lo)))
unfolding quantize_bounds steps_of step_at
quantize-is to v lo hi = refl

step-nan : (to : Bool) → step_at to nan ≡ 0
unfolding step_at clamp of_bits mul lt ceil floor next_whole to_u32 to_unsigned
step-nan true = refl
step-nan false = refl

step-zero : (to s : Bool) → step_at to (fin s 0 (pos 0)) ≡ 0
unfolding step_at clamp of_bits mul lt ceil floor next_whole to_u32 to_unsigned round size span climb units odd
step-zero true true = refl
step-zero true false = refl
step-zero false true = refl
step-zero false false = refl

-- it is the whole number next to the steps, by their sign
next_mono : (away : Bool → Bool) (x y : Float) → Steps x → Steps y → T (le x y)
    → to_unsigned 32 (next_whole binary32 (away (negative x)) x) ≤ to_unsigned 32
    (next_whole binary32 (away (negative y)) y)
next_mono away nan y s t h = absurd s.low
next_mono away (inf true) y s t h = absurd s.low
next_mono away (inf false) y s t h = absurd (unfold le lt eq in s.high)
next_mono away (fin true m e) y s t h = rw (cast-zero (away true) m e s) zero-le
next_mono away (fin false m e) nan s t h = absurd t.low
next_mono away (fin false m e) (inf true) s t h = absurd t.low
next_mono away (fin false m e) (inf false) s t h = absurd (unfold le lt eq in t.high)
next_mono away (fin false m e) (fin true n d) s t h =
    let l = (le-fin false m e true n d).0 h in
    let times : m * up e * down d ≤ 0 * down d = omega arith in
    let none : m * up e ≤ 0 = le_of_mul-le-mul_right times (down_pos d) in
    rw ((cast-next (away false) m e s).0, cast-zero (away true) n d t) (outward-small (away false) m e 0 (omega arith))
next_mono away (fin false m e) (fin false n d) s t h =
    let l = (le-fin false m e false n d).0 h in
    rw ((cast-next (away false) m e s).0, (cast-next (away false) n d t).0)
    (outward_mono (away false) m e n d (omega arith))

portion : (x y : Float) → T (le x y) → Portion (clamp x zerof onef) × Portion (clamp y zerof onef)
portion x y h =
    let l = clamp_mono x y h in (
      of x (le_left (clamp x zerof onef) (clamp y zerof onef) l),
      of y
          (le_right (clamp x zerof onef) (clamp y zerof onef) l),
    )
  where
    of : (x : Float) → T (not (is_nan (clamp x zerof onef))) → Portion (clamp x zerof onef)
    of x known = elim (clamped x) [ inl e ↦ absurd (nan-known (clamp x zerof onef) e known) | inr p ↦ p ]

steps_mono : (x y : Float) → T (le x y) → T (le (steps_at x) (steps_at y))
unfolding of_bits
steps_mono x y h =
    let (p, q) = portion x y h in
    mul_mono binary32 (clamp x zerof onef) (clamp y zerof onef) last_step last_step p.0 tt (clamp_mono x y h)
    (le_refl last_step (unfold is_nan in tt))
    (nonneg-known (steps_at x) (steps-of (clamp x zerof onef) p).low)
    (nonneg-known (steps_at y) (steps-of (clamp y zerof onef) q).low)

step_mono : (to : Bool) (x y : Float) → T (le x y) → step_at to x ≤ step_at to y
unfolding step_at to_u32 ceil floor
step_mono to x y h =
    let (p, q) = portion x y h in
    go to (steps-of (clamp x zerof onef) p) (steps-of (clamp y zerof onef) q)
  where
    go : (to : Bool) → Steps (steps_at x) → Steps (steps_at y) → step_at to x ≤ step_at to y
    go true s t = next_mono not (steps_at x) (steps_at y) s t (steps_mono x y h)
    go false s t = next_mono (λ (b : Bool). b) (steps_at x) (steps_at y) s t (steps_mono x y h)

-- ---- the quotient

-- what is not below zero and at most a zero is one
zero-below : (s : Bool) (m : ℕ) (e : ℤ) (t : Bool) (d : ℤ) → T (nonneg (fin s m e)) → T (le (fin s m e) (fin t 0 d))
    → m ≡ 0
zero-below true m e t d p h = eqb→eq m 0 p
zero-below false m e t d p h = go t ((le-fin false m e t 0 d).0 h)
  where
    none : m * up e * down d ≤ 0 → m ≡ 0
    none l =
        elim (eq-zero-or-pos m) [
          | inl z ↦ z
          | inr q ↦ absurd
              (omega (arith, mul-pos (mul-pos q (up_pos e)) (down_pos d)))
        ]

    go : (t : Bool)
        → gain false (m * up e) * down d + loss t (0 * up d) * down e ≤ gain t (0 * up d) * down e + loss false
        (m * up e) * down d → m ≡ 0
    go true l = none (omega arith)
    go false l = none (omega arith)

-- of values a and b from 0 to d; a's quotient is a NaN or 0 where d is an infinity, and a NaN where d is 0
over_infinity : (to : Bool) (a : Float) → T (nonneg a) → step_at to (a ⊘ inf false) ≡ 0
unfolding div
over_infinity to nan p = absurd p
over_infinity to (inf s) p = step-nan to
over_infinity to (fin s m e) p = step-zero to (unlike s false)

over_zero : (to : Bool) (a : Float) (t : Bool) (n : ℕ) (d : ℤ) → T (nonneg a) → T (le a (fin t n d)) → n ≡ 0
    → step_at to (a ⊘ fin t n d) ≡ 0
unfolding div le lt eq
over_zero to nan t n d p h e = absurd p
over_zero to (inf true) t n d p h e = absurd p
over_zero to (inf false) t n d p h e = absurd h
over_zero to (fin s m c) t n d p h e =
    let none : m ≡ 0 = zero-below s m c t d p (rw e at h) in
    rw (eq-eqb n 0 e, eq-eqb m 0 none) (step-nan to)

quotient_mono : (to : Bool) (a b d : Float) → T (nonneg a) → T (le a b) → T (le b d)
    → step_at to (a ⊘ d) ≤ step_at to (b ⊘ d)
unfolding is_nan
quotient_mono to a b nan p h k = absurd (le_right b nan k)
quotient_mono to a b (inf true) p h k = absurd (nonneg-up a (inf true) p (le_trans a b (inf true) h k))
quotient_mono to a b (inf false) p h k = rw (over_infinity to a p) zero-le
quotient_mono to a b (fin t n d) p h k = go t k (eq-zero-or-pos n)
  where
    go : (t : Bool) → T (le b (fin t n d)) → (n ≡ 0) ⊎ (0 < n) → step_at to (a ⊘ fin t n d) ≤ step_at to (b ⊘ fin t n d)
    go t k (inl e) = rw (over_zero to a t n d p (le_trans a b (fin t n d) h k) e) zero-le
    go true k (inr l) =
        absurd (omega (arith, eqb→eq n 0 (nonneg-up a (fin true n d) p (le_trans a b (fin true n d) h k))))
    go false k (inr l) =
        step_mono to (a ⊘ fin false n d) (b ⊘ fin false n d)
        (div_mono binary32 a b (fin false n d) p (finite-below b (fin false n d) (nonneg-up a b p h) k tt) tt
        (positive→lt (fin false n d) (lt→ltb 0 n l)) h)

-- ---- the coordinates

-- of values v and w from lo to hi
pub quantize_mono : (to : Bool) (v w lo hi : Float) → T (finite lo) → T (finite hi) → T (le lo v) → T (le v w)
    → T (le w hi)
    → quantize_bounds to v lo hi ≤ quantize_bounds to w lo hi
quantize_mono to v w lo hi a b low h high = rw (quantize-is to v lo hi, quantize-is to w lo hi) (go (eq lo hi))
  where
    above-v : T (le v hi)
    above-v = le_trans v w hi h high

    below-w : T (le lo w)
    below-w = le_trans lo v w low h

    finite-v : T (finite v)
    finite-v = between lo v hi a b low above-v

    finite-w : T (finite w)
    finite-w = between lo w hi a b below-w high

    go : (e : Bool) → cond e 0 (step_at to ((v ⊖ lo) ⊘ (hi ⊖ lo))) ≤ cond e 0 (step_at to ((w ⊖ lo) ⊘ (hi ⊖ lo)))
    go true = zero-le
    go false =
        quotient_mono to (v ⊖ lo) (w ⊖ lo) (hi ⊖ lo) (difference-nonneg binary32 lo v a finite-v low)
        (difference-grows binary32 lo v w a finite-v finite-w h) (difference-grows binary32 lo w hi a finite-w b high)

-- ---- where the steps are known

-- of a value from lo to hi, where the difference of the ends is finite and not 0
pub steps-known : (v lo hi : Float) → T (fits binary32 lo) → T (fits binary32 hi) → T (finite lo) → T (finite hi)
    → T (lt lo hi) → T (finite (hi ⊖ lo))
    → T (le lo v) → T (le v hi) → T (not (is_nan (steps_of v lo hi)))
unfolding steps_of
steps-known v lo hi F G a b h narrow low high =
    let finite-v = between lo v hi a b low high in
    let d = hi ⊖ lo in
    let x = v ⊖ lo in
    let p = difference-nonneg binary32 lo v a finite-v low in
    let finite-x = finite-below x d p (difference-grows binary32 lo v hi a finite-v b high) narrow in
    let above = difference-above binary32 lo hi F G a b h in
    let l = div_mono binary32 x x d p finite-x narrow above (le_refl x (nonneg-known x p)) in
    nonneg-known (steps_at (x ⊘ d)) (steps-of (clamp (x ⊘ d) zerof onef) (portion (x ⊘ d) (x ⊘ d) l).0).low

-- where it is not, all steps are 0
pub wide-steps : (to : Bool) (v lo hi : Float) → T (finite lo) → T (finite v) → T (le lo v) → hi ⊖ lo ≡ inf false
    → quantize_bounds to v lo hi ≡ 0
wide-steps to v lo hi a b low wide = quantize-is to v lo hi ∙ rw wide (go (eq lo hi))
  where
    go : (e : Bool) → cond e 0 (step_at to ((v ⊖ lo) ⊘ inf false)) ≡ 0
    go true = refl
    go false = over_infinity to (v ⊖ lo) (difference-nonneg binary32 lo v a b low)
