-- The saturating casts of an f32: by its bit pattern, over the integer's width, which is 25 at least where the word's
-- digits are shifted; and a cast to fewer bits from one to more. Assumes nothing.
use Rattle.std.specs.Prelude.{ℕ, suc, ◌+◌, ◌-◌, ◌*◌, ◌/◌, ◌%◌, ◌^◌, ◌≤◌, ◌<◌, min, ◌≡◌, true, false, ◌⊎◌, Float}
use Rattle.std.proofs.Common.{zero-le, sym, ◌∙◌, ap, inl, inr, mul_assoc, mul_comm, mod-eq_of_lt, eq-or-lt_of_le}
use Rattle.std.proofs.Common.{lt_of_lt_of_le, lt_of_le_of_lt, le_trans, le_of_eq, le_of_lt, mul-div_cancel}
use Rattle.std.proofs.Common.{div-le_self, le-div_iff_mul-le, mul-lt-mul_of_pos_right, mul-le-mul_left, sub-le, arith}
use Rattle.std.proofs.Common.{lit<, lit≤, pow_pos, pow-add, pow_mono}
use Rattle.std.proofs.Math.Path.{refl}
use Rattle.std.proofs.Math.Nat.{div-eq_of_lt, mul-div-mul_right, zero-min, min-eq_left, min-eq_right}
use Rattle.std.proofs.Math.Pow.{le_ones}
use Rattle.std.specs.Float.{binary32, nan, inf, fin}
use Rattle.std.specs.Float.Ieee.{of_bits, to_unsigned}
use Rattle.std.specs.Float.Ieee.Exact.{HasValue}
use Rattle.std.proofs.lemmas.Bool.{lt-leb}
use Rattle.ieee.specs.Whole.{negative}
use Rattle.ieee.specs.Laws.WholeLaws.{to_unsigned-units, past_infinity}
use Rattle.ieee.specs.Laws.Patterns.{magnitude, magnitude-large, magnitude-lt}
use Rattle.ieee.specs.Laws.Patterns.{magnitude_ge, decode-plain, inf_bits}

-- a NaN and what is below zero
nothing : (k : ℕ) (v : Float) → (v ≡ nan) ⊎ (negative v ≡ true) → to_unsigned k v ≡ 0
unfolding to_unsigned
nothing k v (inl e) = rw e
nothing k nan (inr e) = refl
nothing k (inf s) (inr e) = rw e
nothing k (fin s m d) (inr e) = rw e

module _ (w : ℕ) where
  value : w < 255 * 2 ^ 23 → HasValue (of_bits binary32 w) false (magnitude binary32 w) (2 ^ 149)
  value h = decode-plain binary32 w h

  pub cast-below : (k : ℕ) → w < 127 * 2 ^ 23 → 0 ≡ to_unsigned k (of_bits binary32 w)
  cast-below k h =
      sym (to_unsigned-units k (of_bits binary32 w) (magnitude binary32 w) (2 ^ 149) (pow_pos 149)
      (value (lt_of_lt_of_le h (lit≤ tt)))
      ∙ ap (λ (z : ℕ). min z (2 ^ k - 1)) (div-eq_of_lt (magnitude-lt binary32 w 126 h)) ∙ min-eq_left zero-le)

  pub cast-out : (k : ℕ) → 255 * 2 ^ 23 < w → 0 ≡ to_unsigned k (of_bits binary32 w)
  cast-out k h = sym (nothing k (of_bits binary32 w) (past_infinity binary32 w h))

  pub cast-above : (k : ℕ) → suc (126 + k) * 2 ^ 23 ≤ w → w ≤ 255 * 2 ^ 23 →
      2 ^ k - 1 ≡ to_unsigned k (of_bits binary32 w)
  cast-above k lo hi = sym (go (eq-or-lt_of_le hi))
    where
      infinite : to_unsigned k (inf false) ≡ 2 ^ k - 1
      infinite = unfold to_unsigned in refl

      l : w < 2 ^ 31
      l = lt_of_le_of_lt hi (lit< tt)

      far : 2 ^ k - 1 ≤ magnitude binary32 w / 2 ^ 149
      far =
          let e : 2 ^ k * 2 ^ 149 ≡ 2 ^ 23 * 2 ^ (126 + k) =
          mul_comm (2 ^ k) (2 ^ 149) ∙ mul_assoc (2 ^ 23) (2 ^ 126) (2 ^ k) ∙
          ap (λ (z : ℕ). 2 ^ 23 * z) (sym (pow-add 2 126 k)) in
          let a : 2 ^ k ≤ magnitude binary32 w / 2 ^ 149 = (le-div_iff_mul-le (pow_pos 149)).1
          (le_trans (le_of_eq e) (magnitude_ge binary32 w (126 + k) lo)) in
          le_trans (sub-le (2 ^ k) 1) a

      go : (w ≡ 255 * 2 ^ 23) ⊎ (w < 255 * 2 ^ 23) → to_unsigned k (of_bits binary32 w) ≡ 2 ^ k - 1
      go (inl e) =
          ap (to_unsigned k) (inf_bits binary32 w (mod-eq_of_lt l ∙ e) ∙ ap inf (lt-leb (2 ^ 31) w l)) ∙ infinite
      go (inr h) =
          to_unsigned-units k (of_bits binary32 w) (magnitude binary32 w) (2 ^ 149) (pow_pos 149) (value h) ∙
          min-eq_right far

  pub cast-part : (k : ℕ) → 25 ≤ k → 127 * 2 ^ 23 ≤ w → w < 150 * 2 ^ 23 →
      (2 ^ 23 + w % 2 ^ 23) / 2 ^ (150 - w / 2 ^ 23) ≡ to_unsigned k (of_bits binary32 w)
  cast-part k K lo hi =
      let x = w / 2 ^ 23 in
      let m = 2 ^ 23 + w % 2 ^ 23 in
      let t : 149 ≡ 150 - x + (x - 1) = omega arith in
      let d : 2 ^ 149 ≡ 2 ^ (150 - x) * 2 ^ (x - 1) = ap (λ (z : ℕ). 2 ^ z) t ∙ pow-add 2 (150 - x) (x - 1) in
      let u : magnitude binary32 w ≡ m * 2 ^ (x - 1) = magnitude-large binary32 w (le_trans (lit≤ tt) lo) in
      let q : magnitude binary32 w / 2 ^ 149 ≡ m / 2 ^ (150 - x) =
      ap (λ (z : ℕ). z / 2 ^ 149) u ∙ ap (λ (z : ℕ). m * 2 ^ (x - 1) / z) d ∙
      mul-div-mul_right m (2 ^ (150 - x)) (pow_pos (x - 1)) in
      let few : m / 2 ^ (150 - x) < 2 ^ k = lt_of_le_of_lt (div-le_self m (2 ^ (150 - x)))
      (lt_of_lt_of_le (omega arith) (pow_mono {i = 25} {j = k} K)) in
      sym (to_unsigned-units k (of_bits binary32 w) (magnitude binary32 w) (2 ^ 149) (pow_pos 149)
      (value (lt_of_lt_of_le hi (lit≤ tt)))
      ∙ ap (λ (z : ℕ). min z (2 ^ k - 1)) q ∙ min-eq_left (le_ones k few))

  pub cast-shift : (k : ℕ) → 25 ≤ k → 150 * 2 ^ 23 ≤ w → w < suc (126 + k) * 2 ^ 23 → w < 255 * 2 ^ 23
      → (2 ^ 23 + w % 2 ^ 23) * 2 ^ (w / 2 ^ 23 - 150) % 2 ^ k ≡ to_unsigned k (of_bits binary32 w)
  cast-shift k K lo hi below =
      let x = w / 2 ^ 23 in
      let m = 2 ^ 23 + w % 2 ^ 23 in
      let t : x - 1 ≡ x - 150 + 149 = omega arith in
      let u : magnitude binary32 w ≡ m * 2 ^ (x - 150) * 2 ^ 149 =
      magnitude-large binary32 w (le_trans (lit≤ tt) lo) ∙
      ap (λ (z : ℕ). m * z) (ap (λ (z : ℕ). 2 ^ z) t ∙ pow-add 2 (x - 150) 149)
      ∙ sym (mul_assoc m (2 ^ (x - 150)) (2 ^ 149)) in
      let q : magnitude binary32 w / 2 ^ 149 ≡ m * 2 ^ (x - 150) = ap (λ (z : ℕ). z / 2 ^ 149) u ∙
      mul-div_cancel (m * 2 ^ (x - 150)) (pow_pos 149) in
      let j : x - 150 ≤ k - 24 = omega arith in
      let e : 24 + (k - 24) ≡ k = omega arith in
      let m-lt : m < 2 ^ 24 = omega arith in
      let few : m * 2 ^ (x - 150) < 2 ^ k =
      lt_of_lt_of_le (mul-lt-mul_of_pos_right m-lt (pow_pos (x - 150)))
      (le_trans (mul-le-mul_left (2 ^ 24) (pow_mono j))
      (le_of_eq (sym (pow-add 2 24 (k - 24)) ∙ ap (λ (z : ℕ). 2 ^ z) e))) in
      mod-eq_of_lt few
      ∙ sym (to_unsigned-units k (of_bits binary32 w) (magnitude binary32 w) (2 ^ 149) (pow_pos 149) (value below) ∙
      ap (λ (z : ℕ). min z (2 ^ k - 1)) q
      ∙ min-eq_left (le_ones k few))

-- ---- a cast to k bits from the number n that a cast to more bits, j, gives

fewer-bits : (k j : ℕ) → k ≤ j → (x : Float) → to_unsigned k x ≡ min (to_unsigned j x) (2 ^ k - 1)
unfolding to_unsigned
fewer-bits k j h nan = sym (zero-min (2 ^ k - 1))
fewer-bits k j h (inf true) = sym (zero-min (2 ^ k - 1))
fewer-bits k j h (inf false) = omega (arith, pow_mono h)
fewer-bits k j h (fin true m e) = sym (zero-min (2 ^ k - 1))
fewer-bits k j h (fin false m e) = omega (arith, pow_mono h)

module _ (k j : ℕ) (h : k ≤ j) (x : Float) (n : ℕ) (e : n ≡ to_unsigned j x) where
  at_most : min n (2 ^ k - 1) ≡ to_unsigned k x
  at_most = ap (λ (z : ℕ). min z (2 ^ k - 1)) e ∙ sym (fewer-bits k j h x)

  pub cast-most : 2 ^ k - 1 < n → 2 ^ k - 1 ≡ to_unsigned k x
  cast-most l = sym (min-eq_right (le_of_lt l)) ∙ at_most

  pub cast-kept : n ≤ 2 ^ k - 1 → n ≡ to_unsigned k x
  cast-kept l = sym (min-eq_left l) ∙ at_most
