-- The packed box of a node: on each axis its steps lie around the computed ones (`down-below`, `up_above`), as far as
-- these are computed. The plain sentences fail: a step below a coordinate can stand for more than it (`step-above`), a
-- step above one can be read back as a float below it (`corner-below`), and an axis wider than any float has no steps
-- (`wide_corner`). Assumes nothing.
use Rattle.std.specs.Prelude.{ℕ, zero, suc, ◌+◌, ◌*◌, ◌^◌, ◌≤◌, ◌<◌, ◌≡◌, refl, Bool, cond, not, T, ltb, ℤ, pos, Float}
use Rattle.std.proofs.Common.{◌∙◌, le_trans, arith, lit<, lit≤, eqb→eq}
use Rattle.std.proofs.Math.Bool.{true, false}
use Rattle.std.proofs.Math.Logic.{inl, inr}
use Rattle.std.specs.Float.{nan, inf, fin, Format, binary32}
use Rattle.std.specs.Float.Ieee.{prec, emax, low as lowest, unlike, up, down, size, span, climb, odd, units, round}
use Rattle.std.specs.Float.Ieee.{neg, sum, add, sub, mul, div, lt, le, eq, is_nan, fits, of_fields, of_bits, of_int}
use Rattle.std.specs.Float.Ieee.{to_unsigned}
use Rattle.std.specs.Float.Ieee.Back.{round_whole}
use Rattle.std.specs.Float.Ieee.Exact.{HasValue}
use Rattle.std.specs.Float.Ieee.Fits.{down_pos, mul-fits, round_is}
use Rattle.std.specs.Float.Ieee.Order.{le_of_values}
use Rattle.std.specs.Float.Ieee.Scale.{finite}
use Rattle.ieee.specs.Choose.{clamp}
use Rattle.ieee.specs.Laws.CutLaws.{cast-negative}
use Rattle.ieee.specs.Laws.OperationOrder.{mul-nonneg}
use Rattle.ieee.specs.Laws.OrderLaws.{nonneg, le-fin, finite-below}
use Rattle.ieee.specs.Single.{◌⊖◌, ◌⊗◌, ◌⊘◌, single, zerof, onef}
use Rattle.ieee.specs.Whole.{negative, outward, next_whole, floor, ceil, to_u32}
use Rattle.ieee.specs.Laws.WholeLaws.{to_unsigned-units}
use Rattle.ieee.specs.Laws.WholeNumbers.{outward-small, outward-under, outward-over, next_whole-value}
use Rattle.packed_bvh.specs.AsCoded.PackedRead.{step_back}
use Rattle.packed_bvh.specs.Quantize.{last_step, steps_of, quantize_bounds}
use Rattle.packed_bvh.specs.Laws.QuantizeLaws.{Portion, clamped, portion-steps}

-- ---- a number of steps

pub record Steps (x : Float) : Type 0 where
  pub fit : T (fits binary32 x)
  pub low : T (nonneg x)
  pub high : T (le x (fin false 65535 (pos 0)))

units-known : (f : Format) (s : Bool) (q k : ℕ) → T (not (is_nan (units f s q k)))
unfolding units odd is_nan
units-known f s q k = go (ltb (q * 2 ^ k) (2 ^ (lowest f + suc (emax f)))) q
  where
    go : (b : Bool) (q : ℕ) → T (not (is_nan (cond b (odd (suc (prec f)) s q k (lowest f)) (inf s))))
    go true zero = tt
    go true (suc q) = tt
    go false q = tt

product-known : (f : Format) (x y : Float) → T (finite x) → T (finite y) → T (not (is_nan (mul f x y)))
unfolding mul
product-known f nan y a b = absurd a
product-known f (inf s) y a b = absurd a
product-known f (fin s m e) nan a b = absurd b
product-known f (fin s m e) (inf t) a b = absurd b
product-known f (fin s m e) (fin t n d) a b =
    rw (round_is f (unlike s t) (m * up e * (n * up d)) (down e * down d)) (units-known f (unlike s t) _ _)

pub nan-known : (x : Float) → x ≡ nan → T (not (is_nan x)) → ⊥
unfolding is_nan
nan-known x e k = rw e at k

-- so many of the 65535 steps
pub steps-of : (x : Float) → Portion x → Steps (x ⊗ last_step)
unfolding of_bits
steps-of x p =
    let known = product-known binary32 x last_step (finite-below x onef p.0 p.1 tt) tt in
    record {
      fit = mul-fits binary32 x last_step;
      low =
          elim (mul-nonneg binary32 x last_step
          p.0 tt) [ inl e ↦ absurd (nan-known (x ⊗ last_step) e known) | inr l ↦ l ];
      high = elim (portion-steps x p) [ inl e ↦ absurd (nan-known (x ⊗ last_step) e known) | inr h ↦ h ];
    }

-- ---- the whole steps next to it

-- the next whole number is cast to itself
pub cast-next : (away : Bool) (m : ℕ) (e : ℤ) → Steps (fin false m e)
    → (to_unsigned 32 (next_whole binary32 away (fin false m e)) ≡ outward away m e) × (outward away m e ≤ 65535)
cast-next away m e s =
    let q = outward away m e in
    let l = (le-fin false m e false 65535 (pos 0)).0 s.high in
    let small : q ≤ 65535 = outward-small away m e 65535 (omega arith) in
    let cast =
    to_unsigned-units 32 (next_whole binary32 away (fin false m e)) q 1 (lit< tt)
    (next_whole-value binary32 false m e s.fit away) in
    (cast ∙ omega arith, small)

-- that of a zero below is cast to 0
pub cast-zero : (away : Bool) (m : ℕ) (e : ℤ) → Steps (fin true m e)
    → to_unsigned 32 (next_whole binary32 away (fin true m e)) ≡ 0
cast-zero away m e s =
    cast-negative 32 (next_whole binary32 away (fin true m e)) (outward away m e)
    (next_whole-value binary32 true m e s.fit away)

-- a whole number of so few digits is its own float
whole-value : (q : ℕ) → q ≤ 65535 → HasValue (of_int binary32 (pos q)) false q 1
unfolding of_int
whole-value q l = round_whole binary32 false q (le_trans l (lit≤ tt))

-- n is at least x, or at most
abbrev Beside : Bool → Float → Float → Type 0
Beside true n x = T (le x n)
Beside false n x = T (le n x)

zero_beside : (up : Bool) (e : ℤ) → Beside up (of_int binary32 (pos 0)) (fin true 0 e)
unfolding of_int round size span climb units odd
zero_beside true e = (le-fin true 0 e false 0 (pos 0)).1 (omega arith)
zero_beside false e = (le-fin false 0 (pos 0) true 0 e).1 (omega arith)

whole_beside : (up : Bool) (m : ℕ) (e : ℤ) → outward up m e ≤ 65535
    → Beside up (of_int binary32 (pos (outward up m e))) (fin false m e)
whole_beside true m e small =
    let q = outward true m e in
    le_of_values (fin false m e) (of_int binary32 (pos q)) (m * up e) (down e) q 1 (down_pos e) (lit< tt) (refl, refl)
    (whole-value q small) (omega (arith, (outward-over m e).at_least))
whole_beside false m e small =
    let q = outward false m e in
    le_of_values (of_int binary32 (pos q)) (fin false m e) q 1 (m * up e) (down e) (lit< tt) (down_pos e)
    (whole-value q small)
    (refl, refl) (omega (arith, (outward-under m e).at_most))

-- the whole step next to x, upward or downward: ceil's or floor's
next_beside : (up : Bool) (x : Float) → Steps x
    → Beside up
    (of_int binary32 (pos (to_unsigned 32 (next_whole binary32 (cond up (not (negative x)) (negative x)) x)))) x
next_beside up nan s = absurd s.low
next_beside up (inf true) s = absurd s.low
next_beside up (inf false) s = absurd (unfold le lt eq in s.high)
next_beside up (fin true m e) s =
    let none : m ≡ 0 = eqb→eq m 0 s.low in
    rw (cast-zero (cond up false true) m e s, none) (zero_beside up e)
next_beside true (fin false m e) s = let (is, small) = cast-next true m e s in rw is (whole_beside true m e small)
next_beside false (fin false m e) s = let (is, small) = cast-next false m e s in rw is (whole_beside false m e small)

-- ---- of a coordinate

module _ (v lo hi : Float) (extent : eq lo hi ≡ false) (known : T (not (is_nan (steps_of v lo hi)))) where
  computed : Steps (steps_of v lo hi)
  unfolding steps_of mul
  computed =
      let x = (v ⊖ lo) ⊘ (hi ⊖ lo) in
      elim (clamped x) [
        | inl e ↦ absurd (nan-known (clamp x zerof onef ⊗ last_step) (rw e) known)
        | inr p ↦ steps-of (clamp x zerof onef) p
      ]

  -- a minimum is packed as a step at or below the computed one
  pub down-below : T (le (of_int binary32 (pos (quantize_bounds false v lo hi))) (steps_of v lo hi))
  unfolding quantize_bounds to_u32 floor
  down-below = rw extent (next_beside false (steps_of v lo hi) computed)

  -- a maximum as one at or above it
  pub up_above : T (le (steps_of v lo hi) (of_int binary32 (pos (quantize_bounds true v lo hi))))
  unfolding quantize_bounds to_u32 ceil
  up_above = rw extent (next_beside true (steps_of v lo hi) computed)

-- ---- not of the coordinates

-- in the box from 0 to 1 the float 37800080, which is 8388736 / 2 ^ 39, has step 1 below it, and 1 / 65535 is above it
pub step-above : (quantize_bounds false (single 0x3780_0080) zerof onef ≡ 1)
    × HasValue (single 0x3780_0080) false 8388736 (2 ^ 39)
    × (8388736 * 65535 < 1 * 2 ^ 39)
unfolding quantize_bounds steps_of to_u32 floor next_whole clamp of_fields of_bits span climb size odd units round neg
    sum
    add sub mul div lt eq to_unsigned
step-above = (refl, (refl, refl), lit< tt)

-- on an axis wider than any float, from -2 ^ 127 to 2 ^ 127, the maximum itself is packed as step 0: its steps are a
-- NaN (StepsOrder's `wide-steps`)
pub wide_corner : quantize_bounds true (single 0x7f00_0000) (single 0xff00_0000) (single 0x7f00_0000) ≡ 0
unfolding quantize_bounds steps_of to_u32 ceil next_whole clamp of_fields of_bits span climb size odd units round neg
    sum
    add sub mul div lt eq to_unsigned
wide_corner = refl

-- in the box from 0 to 1 the corner 3f7f8000 has step 65407 above it, which is read back as a float below it
pub corner-below : (quantize_bounds true (single 0x3f7f_8000) zerof onef ≡ 65407)
    × T (lt (step_back 65407 zerof onef) (single 0x3f7f_8000))
unfolding quantize_bounds steps_of to_u32 ceil next_whole clamp of_fields of_bits of_int span climb size odd units round
    neg sum add sub mul div lt eq to_unsigned
corner-below = (refl, tt)
