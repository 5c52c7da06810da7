-- The functions of Whole.antt by the bit pattern of an f32: a magnitude's pattern a = w % 2 ^ 31 with a field from 150
-- on is whole, one with a field below 127 is below 1, and between them the last 150 - field digits are the fraction.
-- Assumes nothing.
use Prim.Native.Nat.{ℕ, zero, suc, ◌+◌, ◌-◌, ◌*◌, ◌/◌, ◌%◌, ◌^◌, ◌≤◌, ◌<◌}
use Rattle.std.specs.Prelude.{◌≡◌, Bool, cond, not, ◌≢◌, ◌⊎◌, T, leb}
use Rattle.std.proofs.Math.Path.{refl, sym, ap, subst}
use Rattle.std.proofs.Common.{◌∙◌, true≢false, inl, lit<, lit≤}
use Rattle.std.proofs.Math.Bool.{true, false}
use Rattle.std.proofs.Math.Logic.{inr}
use native.Mathlib.Nat.{mul_assoc, mul_comm, mul-one, mul-pos, mul_left_comm}
use native.Mathlib.Nat.{div-add-mod', eq-or-lt_of_le, div-eq_of_lt-le, div-eq_of_lt, lt_of_lt_of_le}
use native.Mathlib.Nat.{lt_of_le_of_lt, le_trans, add-zero, mul-add-div_right}
use native.Mathlib.Nat.{div-div-eq-div-mul, le-div_iff_mul-le, div-lt_iff_lt-mul, mul-le-mul_right}
use native.Mathlib.Nat.{mul-div-mul_right, add-mul}
use native.Mathlib.Omega.{arith}
use Rattle.std.proofs.Math.Pow.{pow_pos, pow-add}
use Rattle.std.specs.Float.Ieee.{binary32, of_bits, to_bits, round}
use Rattle.std.specs.Float.{inf}
use Rattle.std.specs.Float.Ieee.Bits.{to_bits-of_bits, nan_bits_is, nan_bits_above}
use Rattle.std.specs.Float.Ieee.Exact.{HasValue}
use Rattle.std.specs.Float.Ieee.Scale.{round_same}
use Rattle.ieee.specs.Whole.{next_whole, round_away}
use Rattle.ieee.specs.Laws.WholeLaws.{next_whole-units, round_away-units, whole-pattern}
use Rattle.ieee.specs.Laws.Patterns.{magnitude, magnitude-large, magnitude-lt, magnitude_ge, magnitude-pos}
use Rattle.ieee.specs.Laws.Patterns.{decode, field_of, inf_bits, sign_bit, round_decoded}

-- the value of a finite pattern, in units of 2 ^ -149
value : (w : ℕ) → w % 2 ^ 31 < 255 * 2 ^ 23 →
    HasValue (of_bits binary32 w) (leb (2 ^ 31) w) (magnitude binary32 (w % 2 ^ 31)) (2 ^ 149)
value w h = decode binary32 w (field_of binary32 (w % 2 ^ 31) h)

-- ---- whole already

-- n ones of 2 ^ 149 units each, whichever way a part is taken
no_part : (n d x : ℕ) → x < d → (n * d + x) / d ≡ n
no_part n d x l =
    mul-add-div_right (lt_of_le_of_lt (Prim.Native.Nat.zero-le) l) n x ∙ ap (λ (z : ℕ). n + z) (div-eq_of_lt l) ∙
    add-zero n

module _ (w : ℕ) (W : w < 2 ^ 32) (lo : 150 * 2 ^ 23 ≤ w % 2 ^ 31) where
  -- the whole number that a pattern with a field from 150 on stands for
  whole_of : ℕ
  whole_of = (2 ^ 23 + w % 2 ^ 31 % 2 ^ 23) * 2 ^ (w % 2 ^ 31 / 2 ^ 23 - 150)

  units_of : magnitude binary32 (w % 2 ^ 31) ≡ whole_of * 2 ^ 149
  unfolding whole_of
  units_of =
      let a = w % 2 ^ 31 in
      let e : a / 2 ^ 23 - 1 ≡ a / 2 ^ 23 - 150 + 149 = omega arith in
      magnitude-large binary32 a (le_trans (lit≤ tt) lo)
      ∙ ap (λ (z : ℕ). (2 ^ 23 + a % 2 ^ 23) * z) (ap (λ (z : ℕ). 2 ^ z) e ∙ pow-add 2 (a / 2 ^ 23 - 150) 149)
      ∙ sym (mul_assoc (2 ^ 23 + a % 2 ^ 23) (2 ^ (a / 2 ^ 23 - 150)) (2 ^ 149))

  stays : w % 2 ^ 31 < 255 * 2 ^ 23 → round binary32 (leb (2 ^ 31) w) whole_of 1 ≡ of_bits binary32 w
  stays h =
      round_same binary32 (leb (2 ^ 31) w) whole_of 1 (magnitude binary32 (w % 2 ^ 31)) (2 ^ 149) (lit< tt)
      (pow_pos 149)
      (sym units_of ∙ sym (mul-one (magnitude binary32 (w % 2 ^ 31))))
      ∙ round_decoded binary32 w h

  written : w % 2 ^ 31 ≤ 255 * 2 ^ 23 → to_bits binary32 (of_bits binary32 w) ≡ w
  written hi =
      to_bits-of_bits binary32 w W
      (subst (λ (b : Bool). T (not b)) (sym (nan_bits_above binary32 w) ∙ nan_bits_is binary32 w)
      (lib.Arith.le→nltb (255 * 2 ^ 23) (w % 2 ^ 31) hi))

  pub next_whole-whole : (away : Bool) → w % 2 ^ 31 ≤ 255 * 2 ^ 23 →
      w ≡ to_bits binary32 (next_whole binary32 away (of_bits binary32 w))
  next_whole-whole away hi = sym (ap (to_bits binary32) (go (eq-or-lt_of_le hi)) ∙ written hi)
    where
      part : (b : Bool) → cond b (2 ^ 149 - 1) 0 < 2 ^ 149
      part true = lit< tt
      part false = lit< tt

      infinite : (s : Bool) → next_whole binary32 away (inf s) ≡ inf s
      infinite s = unfold next_whole in refl

      go : (w % 2 ^ 31 ≡ 255 * 2 ^ 23) ⊎ (w % 2 ^ 31 < 255 * 2 ^ 23) →
          next_whole binary32 away (of_bits binary32 w) ≡ of_bits binary32 w
      go (inl e) =
          ap (next_whole binary32 away) (inf_bits binary32 w e) ∙ infinite (leb (2 ^ 31) w)
          ∙ sym (inf_bits binary32 w
          e)
      go (inr l) =
          next_whole-units binary32 away (of_bits binary32 w) (leb (2 ^ 31) w) (magnitude binary32 (w % 2 ^ 31))
          (2 ^ 149)
          (pow_pos 149) (value w l)
          ∙ ap (λ (z : ℕ). round binary32 (leb (2 ^ 31) w) z 1)
          (ap (λ (z : ℕ). (z + cond away (2 ^ 149 - 1) 0) / 2 ^ 149) units_of ∙
          no_part whole_of (2 ^ 149) (cond away (2 ^ 149 - 1) 0) (part away))
          ∙ stays l

  pub round_away-whole : w % 2 ^ 31 ≤ 255 * 2 ^ 23 → w ≡ to_bits binary32 (round_away binary32 (of_bits binary32 w))
  round_away-whole hi = sym (ap (to_bits binary32) (go (eq-or-lt_of_le hi)) ∙ written hi)
    where
      infinite : (s : Bool) → round_away binary32 (inf s) ≡ inf s
      infinite s = unfold round_away in refl

      double : (n d : ℕ) → 2 * (n * d) + d ≡ n * (2 * d) + d
      double n d = omega arith

      go : (w % 2 ^ 31 ≡ 255 * 2 ^ 23) ⊎ (w % 2 ^ 31 < 255 * 2 ^ 23) →
          round_away binary32 (of_bits binary32 w) ≡ of_bits binary32 w
      go (inl e) =
          ap (round_away binary32) (inf_bits binary32 w e) ∙ infinite (leb (2 ^ 31) w) ∙ sym (inf_bits binary32 w e)
      go (inr l) =
          round_away-units binary32 (of_bits binary32 w) (leb (2 ^ 31) w) (magnitude binary32 (w % 2 ^ 31)) (2 ^ 149)
          (pow_pos 149) (value w l)
          ∙ ap (λ (z : ℕ). round binary32 (leb (2 ^ 31) w) z 1)
          (ap (λ (z : ℕ). (2 * z + 2 ^ 149) / (2 * 2 ^ 149)) units_of ∙
          ap (λ (z : ℕ). z / (2 * 2 ^ 149)) (double whole_of (2 ^ 149))
          ∙ no_part whole_of (2 * 2 ^ 149) (2 ^ 149) (lit< tt))
          ∙ stays l

-- ---- below 1: zero or one

zero_word : (s : Bool) → to_bits binary32 (round binary32 s 0 1) ≡ cond s (2 ^ 31) 0
unfolding to_bits round
zero_word true = refl
zero_word false = refl

one_word : (s : Bool) → to_bits binary32 (round binary32 s 1 1) ≡ cond s (2 ^ 31) 0 + 127 * 2 ^ 23
unfolding to_bits round
one_word true = refl
one_word false = refl

once-up : (u d : ℕ) → 0 < u → u < d → (u + (d - 1)) / d ≡ 1
once-up u d p l = div-eq_of_lt-le d (omega arith) (omega arith)

half-none : (u h : ℕ) → u < h → (2 * u + 2 * h) / (2 * (2 * h)) ≡ 0
half-none u h l = div-eq_of_lt (omega arith)

half-once : (u h : ℕ) → h ≤ u → u < 2 * h → (2 * u + 2 * h) / (2 * (2 * h)) ≡ 1
half-once u h g l = div-eq_of_lt-le (2 * (2 * h)) (omega arith) (omega arith)

module _ (w : ℕ) (W : w < 2 ^ 32) (hi : w % 2 ^ 31 < 127 * 2 ^ 23) where
  below_one : magnitude binary32 (w % 2 ^ 31) < 2 ^ 149
  below_one = magnitude-lt binary32 (w % 2 ^ 31) 126 hi

  sign : cond (leb (2 ^ 31) w) (2 ^ 31) 0 ≡ w - w % 2 ^ 31
  sign = sign_bit binary32 w (2 ^ 31) W ∙ omega arith

  next : (away : Bool) (n : ℕ) → (magnitude binary32 (w % 2 ^ 31) + cond away (2 ^ 149 - 1) 0) / 2 ^ 149 ≡ n
      → to_bits binary32 (next_whole binary32 away (of_bits binary32 w)) ≡
      to_bits binary32 (round binary32 (leb (2 ^ 31) w) n 1)
  next away n e =
      ap (to_bits binary32)
      (next_whole-units binary32 away (of_bits binary32 w) (leb (2 ^ 31) w) (magnitude binary32 (w % 2 ^ 31)) (2 ^ 149)
      (pow_pos 149)
      (value w (lt_of_lt_of_le hi (lit≤ tt)))
      ∙ ap (λ (z : ℕ). round binary32 (leb (2 ^ 31) w) z 1) e)

  -- a zero stays
  pub next_whole-zero : (away : Bool) → w % 2 ^ 31 ≡ 0 →
      w - w % 2 ^ 31 ≡ to_bits binary32 (next_whole binary32 away (of_bits binary32 w))
  next_whole-zero away z = sym (next away 0 (none away) ∙ zero_word (leb (2 ^ 31) w) ∙ sign)
    where
      u-zero : magnitude binary32 (w % 2 ^ 31) ≡ 0
      u-zero = ap (magnitude binary32) z ∙ (unfold magnitude in refl)

      none : (b : Bool) → (magnitude binary32 (w % 2 ^ 31) + cond b (2 ^ 149 - 1) 0) / 2 ^ 149 ≡ 0
      none true = ap (λ (u : ℕ). (u + (2 ^ 149 - 1)) / 2 ^ 149) u-zero
      none false = ap (λ (u : ℕ). (u + 0) / 2 ^ 149) u-zero

  -- away from zero any other becomes 1, toward it 0
  pub next_whole-one : (away : Bool) → not away ≡ false → w % 2 ^ 31 ≢ 0
      → w - w % 2 ^ 31 + 127 * 2 ^ 23 ≡ to_bits binary32 (next_whole binary32 away (of_bits binary32 w))
  next_whole-one false e z = absurd (true≢false e)
  next_whole-one true e z =
      let up = once-up (magnitude binary32 (w % 2 ^ 31)) (2 ^ 149) (magnitude-pos binary32 (w % 2 ^ 31) (omega arith))
      below_one in
      sym (next true 1 up ∙ one_word (leb (2 ^ 31) w) ∙ ap (λ (k : ℕ). k + 127 * 2 ^ 23) sign)

  pub next_whole-none : (away : Bool) → not away ≡ true →
      w - w % 2 ^ 31 ≡ to_bits binary32 (next_whole binary32 away (of_bits binary32 w))
  next_whole-none true e = absurd (true≢false (sym e))
  next_whole-none false e =
      let cut = ap (λ (z : ℕ). z / 2 ^ 149) (add-zero (magnitude binary32 (w % 2 ^ 31))) ∙ div-eq_of_lt below_one in
      sym (next false 0 cut ∙ zero_word (leb (2 ^ 31) w) ∙ sign)

  nearest : (n : ℕ) → (2 * magnitude binary32 (w % 2 ^ 31) + 2 ^ 149) / (2 * 2 ^ 149) ≡ n
      → to_bits binary32 (round_away binary32 (of_bits binary32 w)) ≡ to_bits binary32 (round binary32 (leb
      (2 ^ 31) w) n 1)
  nearest n e =
      ap (to_bits binary32)
      (round_away-units binary32 (of_bits binary32 w) (leb (2 ^ 31) w) (magnitude binary32 (w % 2 ^ 31)) (2 ^ 149)
      (pow_pos 149)
      (value w (lt_of_lt_of_le hi (lit≤ tt)))
      ∙ ap (λ (z : ℕ). round binary32 (leb (2 ^ 31) w) z 1) e)

  -- below a half, and from a half on
  pub round_away-none : w % 2 ^ 31 < 126 * 2 ^ 23 →
      w - w % 2 ^ 31 ≡ to_bits binary32 (round_away binary32 (of_bits binary32 w))
  round_away-none h =
      sym (nearest 0 (half-none (magnitude binary32 (w % 2 ^ 31)) (2 ^ 148)
      (magnitude-lt binary32 (w % 2 ^ 31) 125 h)) ∙ zero_word (leb (2 ^ 31) w) ∙ sign)

  pub round_away-one : 126 * 2 ^ 23 ≤ w % 2 ^ 31 →
      w - w % 2 ^ 31 + 127 * 2 ^ 23 ≡ to_bits binary32 (round_away binary32 (of_bits binary32 w))
  round_away-one h =
      sym (nearest 1 (half-once (magnitude binary32 (w % 2 ^ 31)) (2 ^ 148) (magnitude_ge binary32 (w % 2 ^ 31) 125 h)
      below_one) ∙ one_word (leb (2 ^ 31) w)
      ∙ ap (λ (k : ℕ). k + 127 * 2 ^ 23) sign)

-- ---- with a fraction: m digits, of which the last g are the fraction

-- m * p units of 1 / (part * p), taken to wholes
module _ (m p part : ℕ) (P : 0 < p) (Q : 0 < part) where
  part_away : (m * p + (part * p - 1)) / (part * p) ≡ (m + (part - 1)) / part
  part_away =
      let e : m * p + (part * p - 1) ≡
      (m + (part - 1)) * p + (p - 1) = regroup (less part Q) (less p P) (mul-pos Q P) in
      ap (λ (z : ℕ). z / (part * p)) e ∙ ap (λ (z : ℕ). ((m + (part - 1)) * p + (p - 1)) / z) (mul_comm part p)
      ∙ sym (div-div-eq-div-mul ((m + (part - 1)) * p + (p - 1)) p part)
      ∙ ap (λ (z : ℕ). z / part) (no_part (m + (part - 1)) p (p - 1) (omega (arith, P)))
    where
      less : (k : ℕ) → 0 < k → suc (k - 1) ≡ k
      less k h = omega arith

      regroup : suc (part - 1) ≡ part → suc (p - 1) ≡ p → 0 < part * p →
          m * p + (part * p - 1) ≡ (m + (part - 1)) * p + (p - 1)
      regroup a b c =
          let d : part * p ≡ (part - 1) * p + p = ap (λ (z : ℕ). z * p) (sym a) ∙
          native.Mathlib.Nat.suc-mul (part - 1) p in
          omega arith

  part-toward : (m * p + 0) / (part * p) ≡ (m + 0) / part
  part-toward =
      ap (λ (z : ℕ). z / (part * p)) (add-zero (m * p)) ∙ mul-div-mul_right m part P ∙
      ap (λ (z : ℕ). z / part) (sym (add-zero m))

  part-half : (h : ℕ) → part ≡ 2 * h → (2 * (m * p) + part * p) / (2 * (part * p)) ≡ (m + h) / part
  part-half h e =
      let x : 2 * (m * p) + part * p ≡ (m + h) * (2 * p) = ap (λ (z : ℕ). 2 * (m * p) + z * p) e ∙ twice in
      let y : 2 * (part * p) ≡ part * (2 * p) = mul_left_comm 2 part p in
      ap (λ (z : ℕ). z / (2 * (part * p))) x ∙ ap (λ (z : ℕ). (m + h) * (2 * p) / z) y ∙
      mul-div-mul_right (m + h) part (mul-pos (lit< tt) P)
    where
      twice : 2 * (m * p) + 2 * h * p ≡ (m + h) * (2 * p)
      twice = omega arith

-- what a one weighs among the digits of a magnitude a, and b without the digits below a weight
abbrev pub one_in : ℕ → ℕ
one_in a = 2 ^ (150 - a / 2 ^ 23)

abbrev pub cut : ℕ → ℕ → ℕ
cut b u = b - b % u

cut_off : (x p : ℕ) → cut x p ≡ x / p * p
cut_off x p = omega (arith, div-add-mod' x p)

module _ (w : ℕ) (W : w < 2 ^ 32) (lo : 127 * 2 ^ 23 ≤ w % 2 ^ 31) (hi : w % 2 ^ 31 < 150 * 2 ^ 23) where
  -- the digits, the places that the fraction has, and what a whole number's last place weighs among them
  digits : ℕ
  digits = 2 ^ 23 + w % 2 ^ 31 % 2 ^ 23

  part : ℕ
  part = one_in (w % 2 ^ 31)

  weight : ℕ
  weight = 2 ^ (w % 2 ^ 31 / 2 ^ 23 - 1)

  units-are : magnitude binary32 (w % 2 ^ 31) ≡ digits * weight
  unfolding digits weight
  units-are = magnitude-large binary32 (w % 2 ^ 31) (le_trans (lit≤ tt) lo)

  one-is : 2 ^ 149 ≡ part * weight
  unfolding part weight
  one-is =
      let x = w % 2 ^ 31 / 2 ^ 23 in
      let e : 149 ≡ 150 - x + (x - 1) = omega arith in
      ap (λ (z : ℕ). 2 ^ z) e ∙ pow-add 2 (150 - x) (x - 1)

  -- n, the whole number after `more` was added, and its pattern
  kept-pattern : (more n : ℕ) → more < part → (digits + more) / part ≡ n
      → to_bits binary32 (round binary32 (leb (2 ^ 31) w) n 1) ≡ w - w % 2 ^ 31 + cut (w % 2 ^ 31 + more) part
  unfolding digits part
  kept-pattern more n l e =
      let a = w % 2 ^ 31 in
      let x = a / 2 ^ 23 in
      let g = 150 - x in
      let k = x - 1 in
      let c = 2 ^ (x - 127) in
      let m = 2 ^ 23 + a % 2 ^ 23 in
      let t : x - 127 + g ≡ 23 = omega arith in
      let c-is : c * 2 ^ g ≡ 2 ^ 23 = sym (pow-add 2 (x - 127) g) ∙ ap (λ (z : ℕ). 2 ^ z) t in
      let G : 0 < 2 ^ g = pow_pos g in
      let from : c ≤ n = subst (λ (z : ℕ). c ≤ z) e
      ((le-div_iff_mul-le G).1 (subst (λ (z : ℕ). z ≤ m + more) (sym c-is) (omega arith))) in
      let low : 2 ^ 23 ≤ n * 2 ^ g = subst (λ (z : ℕ). z ≤ n * 2 ^ g) c-is (mul-le-mul_right (2 ^ g) from) in
      let over : m + more < (2 * c + 1) * 2 ^ g = omega arith in
      let to : n < 2 * c + 1 = subst (λ (z : ℕ). z < 2 * c + 1) e ((div-lt_iff_lt-mul G).1 over) in
      let to' : n ≤ 2 * c = omega arith in
      let high : n * 2 ^ g ≤ 2 ^ 24 = le_trans (mul-le-mul_right (2 ^ g) to') (omega arith) in
      let few : n ≤ 2 ^ 24 = le_trans (native.Mathlib.Nat.le-mul_of_pos_right n G) high in
      let place : a + more ≡ k * c * 2 ^ g + (m + more) = sum k c (2 ^ g) (omega arith) c-is in
      let last : a + more - (a + more) % 2 ^ g ≡ k * 2 ^ 23 + n * 2 ^ g =
      cut_off (a + more) (2 ^ g) ∙ ap (λ (z : ℕ). z / 2 ^ g * 2 ^ g) place
      ∙ ap (λ (z : ℕ). z * 2 ^ g) (mul-add-div_right G (k * c) (m + more) ∙ ap (λ (z : ℕ). k * c + z) e)
      ∙ add-mul (k * c) n (2 ^ g) ∙ ap (λ (z : ℕ). z + n * 2 ^ g) (mul_assoc k c (2 ^ g) ∙ ap (λ (z : ℕ). k * z) c-is)
      in
      whole-pattern binary32 (leb (2 ^ 31) w) n g k few (omega arith) (high, inr low)
      ∙ ap (λ (z : ℕ). z + (k * 2 ^ 23 + n * 2 ^ g)) (sign_bit binary32 w (2 ^ 31) W ∙ sign_part)
      ∙ ap (λ (z : ℕ). w - w % 2 ^ 31 + z) (sym last)
    where
      sign_part : w / 2 ^ 31 * 2 ^ 31 ≡ w - w % 2 ^ 31
      sign_part = omega arith

      sum : (k c p : ℕ) → w % 2 ^ 31 + more ≡ k * 2 ^ 23 + (2 ^ 23 + w % 2 ^ 31 % 2 ^ 23 + more) → c * p ≡ 2 ^ 23
          → w % 2 ^ 31 + more ≡ k * c * p + (2 ^ 23 + w % 2 ^ 31 % 2 ^ 23 + more)
      sum k c p s q =
          s ∙ ap (λ (z : ℕ). z + (2 ^ 23 + w % 2 ^ 31 % 2 ^ 23 + more))
          (ap (λ (z : ℕ). k * z) (sym q) ∙ sym (mul_assoc k c p))

  part-pos : 0 < part
  unfolding part
  part-pos = pow_pos (150 - w % 2 ^ 31 / 2 ^ 23)

  weight-pos : 0 < weight
  unfolding weight
  weight-pos = pow_pos (w % 2 ^ 31 / 2 ^ 23 - 1)

  here : HasValue (of_bits binary32 w) (leb (2 ^ 31) w) (digits * weight) (part * weight)
  here =
      subst (λ (d : ℕ). HasValue (of_bits binary32 w) (leb (2 ^ 31) w) (digits * weight) d) one-is
      (subst (λ (u : ℕ). HasValue (of_bits binary32 w) (leb (2 ^ 31) w) u (2 ^ 149)) units-are
      (value w (lt_of_lt_of_le hi (lit≤ tt))))

  next-part : (away : Bool) (n : ℕ) → (digits * weight + cond away (part * weight - 1) 0) / (part * weight) ≡ n
      → to_bits binary32 (next_whole binary32 away (of_bits binary32 w)) ≡
      to_bits binary32 (round binary32 (leb (2 ^ 31) w) n 1)
  next-part away n e =
      ap (to_bits binary32)
      (next_whole-units binary32 away (of_bits binary32 w) (leb (2 ^ 31) w) (digits * weight) (part * weight)
      (mul-pos part-pos weight-pos) here
      ∙ ap (λ (z : ℕ). round binary32 (leb (2 ^ 31) w) z 1) e)

  pub next_whole_away : w - w % 2 ^ 31 + cut (w % 2 ^ 31 + (one_in (w % 2 ^ 31) - 1)) (one_in (w % 2 ^ 31))
      ≡ to_bits binary32 (next_whole binary32 true (of_bits binary32 w))
  unfolding part
  next_whole_away =
      sym (next-part true ((digits + (part - 1)) / part) (part_away digits weight part weight-pos part-pos)
      ∙ kept-pattern (part - 1) ((digits + (part - 1)) / part) (omega (arith, part-pos)) refl)

  pub next_whole-toward : w - w % 2 ^ 31 + cut (w % 2 ^ 31) (one_in (w % 2 ^ 31)) ≡
      to_bits binary32 (next_whole binary32 false (of_bits binary32 w))
  unfolding part
  next_whole-toward =
      sym (next-part false ((digits + 0) / part) (part-toward digits weight part weight-pos part-pos) ∙
      kept-pattern 0 ((digits + 0) / part) part-pos refl
      ∙ ap (λ (z : ℕ). w - w % 2 ^ 31 + cut z part) (add-zero (w % 2 ^ 31)))

  pub round_away-part : w - w % 2 ^ 31 + cut (w % 2 ^ 31 + one_in (w % 2 ^ 31) / 2) (one_in (w % 2 ^ 31))
      ≡ to_bits binary32 (round_away binary32 (of_bits binary32 w))
  unfolding part
  round_away-part =
      sym (ap (to_bits binary32)
      (round_away-units binary32 (of_bits binary32 w) (leb (2 ^ 31) w) (digits * weight) (part * weight)
      (mul-pos part-pos weight-pos) here
      ∙ ap (λ (z : ℕ). round binary32 (leb (2 ^ 31) w) z 1)
      (part-half digits weight part weight-pos part-pos (part / 2) halved))
      ∙ kept-pattern (part / 2) ((digits + part / 2) / part) (omega (arith, part-pos)) refl)
    where
      even : (g : ℕ) → 1 ≤ g → 2 ^ g ≡ 2 * (2 ^ g / 2)
      even zero h = absurd (omega arith)
      even (suc g) h = omega (arith, native.Mathlib.Nat.pow-succ' 2 g)

      halved : part ≡ 2 * (part / 2)
      halved = even (150 - w % 2 ^ 31 / 2 ^ 23) (omega arith)
