-- Narrowing by cases of the magnitude's bit pattern: which digits go, and the pattern of what is kept. Assumes nothing.
use Rattle.std.specs.Prelude.{ℕ, suc, ◌+◌, ◌-◌, ◌*◌, ◌/◌, ◌%◌, ◌^◌, ◌≤◌, ◌<◌, min, ◌≡◌, refl, Bool, cond, ◌≢◌, ◌⊎◌, T}
use Rattle.std.specs.Prelude.{leb, Float}
use Rattle.std.proofs.Common.{sym, ◌∙◌, ap, subst, inl, inr, zero-add, eq-or-lt_of_le, add-zero, mul-le-mul_left}
use Rattle.std.proofs.Common.{mul_assoc, mul_comm, mul-one, mul_right_comm, le-div_iff_mul-le, div-lt_iff_lt-mul}
use Rattle.std.proofs.Common.{mul-le-mul_right, mul-lt-mul_of_pos_right, lt_of_lt_of_le, lt_of_le_of_lt, le_trans}
use Rattle.std.proofs.Common.{le_of_eq, sub-eq-zero_of_le, mul-pos, arith, lit<, lit≤, pow_pos, pow_mono, pow-add}
use Rattle.std.proofs.Math.Nat.{mul-div-mul_right, min-eq_left, min-eq_right}
use Rattle.std.specs.Float.{binary32, binary64, nan, inf, fin}
use Rattle.std.specs.Float.Ieee.{hid, ones, top, up, down, size, of_bits, to_bits, round, fits}
use Rattle.std.specs.Float.Ieee.Digits.{size-le, size-lt}
use Rattle.std.specs.Float.Ieee.Exact.{HasValue}
use Rattle.std.specs.Float.Ieee.Fits.{down_pos, nan-fits, inf-fits, round-fits}
use Rattle.std.specs.Float.Ieee.Nearest.{closest}
use Rattle.std.specs.Float.Ieee.Order.{drop, kept}
use Rattle.std.specs.Float.Ieee.Scale.{round_same}
use Rattle.ieee.specs.Narrow.{narrow}
use Rattle.ieee.specs.Laws.Patterns.{magnitude, magnitude-large, magnitude-lt, magnitude_ge, decode}
use Rattle.ieee.specs.Laws.Patterns.{inf_bits, sign_bit, size_is, pow-lt_inv}
use Rattle.ieee.specs.Laws.Rounding.{round-bits, kept-digits, closest-add}
use Rattle.ieee.specs.Laws.Rounding.{closest-le, closest-scale, closest-small}

-- ---- a value of u units of 2 ^ -1074

narrow-value : (v : Float) (s : Bool) (u : ℕ) → HasValue v s u (2 ^ 1074) → narrow v ≡ round binary32 s u (2 ^ 1074)
unfolding narrow
narrow-value nan s u h = absurd h
narrow-value (inf t) s u h = absurd h
narrow-value (fin t m e) s u h =
    round_same binary32 t (m * up e) (down e) u (2 ^ 1074) (down_pos e) (pow_pos 1074) h.1 ∙
    ap (λ (b : Bool). round binary32 b u (2 ^ 1074)) h.0

-- the number in units of 2 ^ -149 is u * 2 ^ 149 / 2 ^ 1074
abbrev gone : ℕ → ℕ
gone u = drop 24 (u * 2 ^ 149) (2 ^ 1074)

abbrev left : ℕ → ℕ
left u = kept 24 (u * 2 ^ 149) (2 ^ 1074)

narrow_bits : (w : ℕ) → w % top binary64 / hid binary64 ≢ ones binary64
    → to_bits binary32 (narrow (of_bits binary64 w))
    ≡ cond (leb (top binary64) w) (2 ^ 31) 0 + min
    (gone (magnitude binary64 (w % top binary64)) * 2 ^ 23 + left (magnitude binary64 (w % top binary64)))
    (255 * 2 ^ 23)
narrow_bits w n =
    let u = magnitude binary64 (w % top binary64) in
    ap (to_bits binary32) (narrow-value (of_bits binary64 w) (leb (top binary64) w) u (decode binary64 w n))
    ∙ round-bits binary32 (leb (top binary64) w) u (2 ^ 1074)

-- ---- normal: 53 digits, of which 29 go

module _ (m i : ℕ) (lo : 2 ^ 52 ≤ m) (hi : m < 2 ^ 53) where
  scaled : m * 2 ^ (896 + i) * 2 ^ 149 ≡ m * 2 ^ i * 2 ^ 1045
  scaled =
      ap (λ (z : ℕ). m * z * 2 ^ 149) (pow-add 2 896 i) ∙
      ap (λ (z : ℕ). z * 2 ^ 149) (sym (mul_assoc m (2 ^ 896) (2 ^ i)) ∙ mul_right_comm m (2 ^ 896) (2 ^ i))
      ∙ mul_assoc (m * 2 ^ i) (2 ^ 896) (2 ^ 149)

  digits : m * 2 ^ (896 + i) * 2 ^ 149 / 2 ^ 1074 ≡ m * 2 ^ i / 2 ^ 29
  digits = ap (λ (z : ℕ). z / 2 ^ 1074) scaled ∙ mul-div-mul_right (m * 2 ^ i) (2 ^ 29) (pow_pos 1045)

  over : (k : ℕ) → 2 ^ (k + i) * 2 ^ 29 ≡ 2 ^ k * 2 ^ 29 * 2 ^ i
  over k = ap (λ (z : ℕ). z * 2 ^ 29) (pow-add 2 k i) ∙ mul_right_comm (2 ^ k) (2 ^ i) (2 ^ 29)

  pub normal-gone : gone (m * 2 ^ (896 + i)) ≡ i
  normal-gone =
      let b : 2 ^ (23 + i) ≤ m * 2 ^ i / 2 ^ 29 = (le-div_iff_mul-le (pow_pos 29)).1
      (le_trans (le_of_eq (over 23)) (mul-le-mul_right (2 ^ i) lo)) in
      let a : m * 2 ^ i / 2 ^ 29 < 2 ^ suc (23 + i) =
      (div-lt_iff_lt-mul (pow_pos 29)).1
      (lt_of_lt_of_le (mul-lt-mul_of_pos_right hi (pow_pos i))
      (le_of_eq (sym (ap (λ (z : ℕ). 2 ^ z * 2 ^ 29) (suc-sum i) ∙ over 24)))) in
      ap (λ (z : ℕ). size z - 24) digits ∙ ap (λ (z : ℕ). z - 24) (size_is (m * 2 ^ i / 2 ^ 29) (23 + i) b a) ∙ back i
    where
      suc-sum : (i : ℕ) → suc (23 + i) ≡ 24 + i
      suc-sum i = omega arith

      back : (i : ℕ) → suc (23 + i) - 24 ≡ i
      back i = omega arith

  pub normal-left : left (m * 2 ^ (896 + i)) ≡ closest m (2 ^ 29)
  normal-left =
      ap (λ (z : ℕ). closest (m * 2 ^ (896 + i) * 2 ^ 149) (2 ^ 1074 * 2 ^ z)) normal-gone
      ∙ ap (λ (z : ℕ). closest z (2 ^ 1074 * 2 ^ i)) (scaled ∙ mul_assoc m (2 ^ i) (2 ^ 1045))
      ∙ ap (λ (z : ℕ). closest (m * (2 ^ i * 2 ^ 1045)) z)
      (mul_assoc (2 ^ 29) (2 ^ 1045) (2 ^ i) ∙ ap (λ (z : ℕ). 2 ^ 29 * z) (mul_comm (2 ^ 1045) (2 ^ i)))
      ∙ closest-scale m (2 ^ 29) (2 ^ i * 2 ^ 1045) (pow_pos 29) (mul-pos (pow_pos i) (pow_pos 1045))

-- ---- subnormal: nothing above the last place goes, and the value is m / 2 ^ g of it

places : (m j g : ℕ) → j + g ≡ 925 → 2 ^ 1074 * 2 ^ 0 ≡ 2 ^ g * (2 ^ j * 2 ^ 149)
places m j g e =
    mul-one (2 ^ 1074)
    ∙ ap (λ (z : ℕ). z * 2 ^ 149) (ap (λ (z : ℕ). 2 ^ z) (sym e) ∙ pow-add 2 j g ∙ mul_comm (2 ^ j) (2 ^ g))
    ∙ mul_assoc (2 ^ g) (2 ^ j) (2 ^ 149)

short : (u : ℕ) → u < 2 ^ 948 → gone u ≡ 0
short u h =
    sub-eq-zero_of_le (size-le (u * 2 ^ 149 / 2 ^ 1074) 24
    ((div-lt_iff_lt-mul (pow_pos 1074)).1 (lt_of_lt_of_le (mul-lt-mul_of_pos_right h (pow_pos 149)) (lit≤ tt))))

no_field : (u : ℕ) → u < 2 ^ 948 → gone u * 2 ^ 23 + left u ≡ left u
no_field u h = ap (λ (z : ℕ). z * 2 ^ 23 + left u) (short u h) ∙ zero-add (left u)

subnormal-left : (m j g : ℕ) → m * 2 ^ j < 2 ^ 948 → j + g ≡ 925 → left (m * 2 ^ j) ≡ closest m (2 ^ g)
subnormal-left m j g h e =
    ap (λ (z : ℕ). closest (m * 2 ^ j * 2 ^ 149) (2 ^ 1074 * 2 ^ z)) (short (m * 2 ^ j) h)
    ∙ ap (λ (z : ℕ). closest (m * 2 ^ j * 2 ^ 149) z) (places m j g e)
    ∙ ap (λ (z : ℕ). closest z (2 ^ g * (2 ^ j * 2 ^ 149))) (mul_assoc m (2 ^ j) (2 ^ 149))
    ∙ closest-scale m (2 ^ g) (2 ^ j * 2 ^ 149) (pow_pos g) (mul-pos (pow_pos j) (pow_pos 149))

small-left : (u : ℕ) → u < 2 ^ 924 → left u ≡ 0
small-left u h =
    let l : u < 2 ^ 948 = lt_of_lt_of_le h (lit≤ tt) in
    ap (λ (z : ℕ). closest (u * 2 ^ 149) (2 ^ 1074 * 2 ^ z)) (short u l)
    ∙ closest-small (u * 2 ^ 149) (2 ^ 1074 * 2 ^ 0)
    (subst (λ (z : ℕ). z < 2 ^ 1074 * 2 ^ 0) (sym (mul_assoc u (2 ^ 149) 2))
    (lt_of_lt_of_le (mul-lt-mul_of_pos_right h (lit< tt)) (lit≤ tt)))

-- ---- too large: from 2 ^ 128 on more digits go than the field can say

large-left : (u : ℕ) → 2 ^ 1202 ≤ u → 255 * 2 ^ 23 ≤ gone u * 2 ^ 23 + left u
large-left u h = go (kept-digits binary32 (u * 2 ^ 149) (2 ^ 1074)).1
  where
    far : 254 ≤ gone u
    far =
        let a : 2 ^ 277 ≤ u * 2 ^ 149 / 2 ^ 1074 = (le-div_iff_mul-le (pow_pos 1074)).1
        (le_trans (lit≤ tt) (mul-le-mul_right (2 ^ 149) h)) in
        let b : 277 < size (u * 2 ^ 149 / 2 ^ 1074) = pow-lt_inv 277 (size (u * 2 ^ 149 / 2 ^ 1074))
        (lt_of_le_of_lt a (size-lt (u * 2 ^ 149 / 2 ^ 1074))) in
        omega arith

    go : (gone u ≡ 0) ⊎ (2 ^ 23 ≤ left u) → 255 * 2 ^ 23 ≤ gone u * 2 ^ 23 + left u
    go (inl z) = absurd (omega (arith, far, z))
    go (inr l) = omega (arith, far, l)

-- ---- what is kept never passes the infinity's pattern

pub normal-room : (a : ℕ) → a < 1151 * 2 ^ 52 → closest (a - 896 * 2 ^ 52) (2 ^ 29) ≤ 255 * 2 ^ 23
normal-room a h = closest-le (a - 896 * 2 ^ 52) (2 ^ 29) (255 * 2 ^ 23) (pow_pos 29) (omega arith)

pub subnormal-room : (a : ℕ) → a < 897 * 2 ^ 52 → closest (2 ^ 52 + a % 2 ^ 52) (2 ^ (926 - a / 2 ^ 52)) ≤ 2 ^ 23
subnormal-room a h =
    let g = 926 - a / 2 ^ 52 in
    let s : 2 ^ 30 ≤ 2 ^ g = pow_mono {i = 30} {j = g} (omega arith) in
    closest-le (2 ^ 52 + a % 2 ^ 52) (2 ^ g) (2 ^ 23) (pow_pos g)
    (lt_of_lt_of_le (omega arith) (mul-le-mul_left (2 ^ 23) s))

infinite : (s : Bool) → to_bits binary32 (narrow (inf s)) ≡ cond s (2 ^ 31) 0 + 255 * 2 ^ 23
unfolding narrow to_bits
infinite s = refl

-- ---- the cases, by the pattern w % 2 ^ 63 of the magnitude

module _ (w : ℕ) (W : w < 2 ^ 64) where
  -- the pattern of a finite value, with its sign's bit as a word
  finite-bits : w % 2 ^ 63 < 2047 * 2 ^ 52
      → to_bits binary32 (narrow (of_bits binary64 w))
      ≡ w / 2 ^ 63 * 2 ^ 31 + min (gone (magnitude binary64 (w % 2 ^ 63)) * 2 ^ 23 + left
      (magnitude binary64 (w % 2 ^ 63))) (255 * 2 ^ 23)
  finite-bits h =
      narrow_bits w (λ (e : w % 2 ^ 63 / 2 ^ 52 ≡ 2047). omega arith)
      ∙ ap (λ (z : ℕ). z + min (gone (magnitude binary64 (w % 2 ^ 63)) * 2 ^ 23 + left
      (magnitude binary64 (w % 2 ^ 63))) (255 * 2 ^ 23))
      (sign_bit binary64 w (2 ^ 31) W)

  -- infinite, or too large
  pub narrow-large : 1151 * 2 ^ 52 ≤ w % 2 ^ 63 → w % 2 ^ 63 ≤ 2047 * 2 ^ 52 →
      w / 2 ^ 63 * 2 ^ 31 + 255 * 2 ^ 23 ≡ to_bits binary32 (narrow (of_bits binary64 w))
  narrow-large lo hi = go (eq-or-lt_of_le hi)
    where
      go : (w % 2 ^ 63 ≡ 2047 * 2 ^ 52) ⊎ (w % 2 ^ 63 < 2047 * 2 ^ 52) →
          w / 2 ^ 63 * 2 ^ 31 + 255 * 2 ^ 23 ≡ to_bits binary32 (narrow (of_bits binary64 w))
      go (inl e) =
          sym (ap (λ (v : Float). to_bits binary32 (narrow v)) (inf_bits binary64 w e) ∙ infinite (leb (2 ^ 63) w)
          ∙ ap (λ (z : ℕ). z + 255 * 2 ^ 23) (sign_bit binary64 w (2 ^ 31) W))
      go (inr l) =
          sym (finite-bits l ∙ ap (λ (z : ℕ). w / 2 ^ 63 * 2 ^ 31 + z)
          (min-eq_right (large-left (magnitude binary64 (w % 2 ^ 63)) (magnitude_ge binary64 (w % 2 ^ 63) 1150 lo))))

  -- normal, or carried to the infinity
  pub narrow-normal : 897 * 2 ^ 52 ≤ w % 2 ^ 63 → w % 2 ^ 63 < 1151 * 2 ^ 52
      → w / 2 ^ 63 * 2 ^ 31 + closest (w % 2 ^ 63 - 896 * 2 ^ 52) (2 ^ 29) ≡
      to_bits binary32 (narrow (of_bits binary64 w))
  narrow-normal lo hi =
      let a = w % 2 ^ 63 in
      let i = a / 2 ^ 52 - 897 in
      let m = 2 ^ 52 + a % 2 ^ 52 in
      let e : a / 2 ^ 52 - 1 ≡ 896 + i = omega arith in
      let u : magnitude binary64 a ≡ m * 2 ^ (896 + i) = magnitude-large binary64 a (le_trans (lit≤ tt) lo) ∙
      ap (λ (z : ℕ). m * 2 ^ z) e in
      let ml : 2 ^ 52 ≤ m = omega arith in
      let mh : m < 2 ^ 53 = omega arith in
      let g : gone (magnitude binary64 a) ≡ i = ap gone u ∙ normal-gone m i ml mh in
      let k : left (magnitude binary64 a) ≡ closest m (2 ^ 29) = ap left u ∙ normal-left m i ml mh in
      let b : a - 896 * 2 ^ 52 ≡ 2 * (i * 2 ^ 22) * 2 ^ 29 + m = omega arith in
      let c : closest (a - 896 * 2 ^ 52) (2 ^ 29) ≡ 2 * (i * 2 ^ 22) + closest m (2 ^ 29) =
      ap (λ (z : ℕ). closest z (2 ^ 29)) b ∙ closest-add (i * 2 ^ 22) m (2 ^ 29) (pow_pos 29) in
      let p : gone (magnitude binary64 a) * 2 ^ 23 + left (magnitude binary64 a) ≡
      2 * (i * 2 ^ 22) + closest m (2 ^ 29) =
      ap (λ (z : ℕ). z * 2 ^ 23 + left (magnitude binary64 a)) g ∙ ap (λ (z : ℕ). i * 2 ^ 23 + z) k ∙
      ap (λ (z : ℕ). z + closest m (2 ^ 29)) (steps i) in
      let room : 2 * (i * 2 ^ 22) + closest m (2 ^ 29) ≤ 255 * 2 ^ 23 = subst (λ (z : ℕ). z ≤ 255 * 2 ^ 23) c
      (normal-room a hi) in
      sym (finite-bits (lt_of_lt_of_le hi (lit≤ tt))
      ∙ ap (λ (z : ℕ). w / 2 ^ 63 * 2 ^ 31 + z) (ap (λ (z : ℕ). min z (255 * 2 ^ 23)) p ∙ min-eq_left room ∙ sym c))
    where
      steps : (i : ℕ) → i * 2 ^ 23 ≡ 2 * (i * 2 ^ 22)
      steps i = omega arith

  -- too small
  pub narrow-small : w % 2 ^ 63 < 873 * 2 ^ 52 → w / 2 ^ 63 * 2 ^ 31 ≡ to_bits binary32 (narrow (of_bits binary64 w))
  narrow-small h =
      let u = magnitude binary64 (w % 2 ^ 63) in
      let l : u < 2 ^ 924 = magnitude-lt binary64 (w % 2 ^ 63) 872 h in
      let p : gone u * 2 ^ 23 + left u ≡ 0 = no_field u (lt_of_lt_of_le l (lit≤ tt)) ∙ small-left u l in
      sym (finite-bits (lt_of_lt_of_le h (lit≤ tt)) ∙ ap (λ (z : ℕ). w / 2 ^ 63 * 2 ^ 31 + min z (255 * 2 ^ 23)) p ∙
      add-zero (w / 2 ^ 63 * 2 ^ 31))

  -- subnormal
  pub narrow_subnormal : 873 * 2 ^ 52 ≤ w % 2 ^ 63 → w % 2 ^ 63 < 897 * 2 ^ 52
      → w / 2 ^ 63 * 2 ^ 31 + closest (2 ^ 52 + w % 2 ^ 63 % 2 ^ 52) (2 ^ (926 - w % 2 ^ 63 / 2 ^ 52)) ≡
      to_bits binary32 (narrow (of_bits binary64 w))
  narrow_subnormal lo hi =
      let a = w % 2 ^ 63 in
      let j = a / 2 ^ 52 - 1 in
      let g = 926 - a / 2 ^ 52 in
      let m = 2 ^ 52 + a % 2 ^ 52 in
      let u : magnitude binary64 a ≡ m * 2 ^ j = magnitude-large binary64 a (le_trans (lit≤ tt) lo) in
      let l : m * 2 ^ j < 2 ^ 948 = subst (λ (z : ℕ). z < 2 ^ 948) u (magnitude-lt binary64 a 896 hi) in
      let e : j + g ≡ 925 = omega arith in
      let p : gone (magnitude binary64 a) * 2 ^ 23 + left (magnitude binary64 a) ≡ closest m (2 ^ g) =
      no_field (magnitude binary64 a) (magnitude-lt binary64 a 896 hi) ∙ ap left u ∙ subnormal-left m j g l e in
      let room : closest m (2 ^ g) ≤ 255 * 2 ^ 23 = le_trans (subnormal-room a hi) (lit≤ tt) in
      sym (finite-bits (lt_of_lt_of_le hi (lit≤ tt)) ∙
      ap (λ (z : ℕ). w / 2 ^ 63 * 2 ^ 31 + z) (ap (λ (z : ℕ). min z (255 * 2 ^ 23)) p ∙ min-eq_left room))

-- ---- the result is an f32

pub narrow-fits : (x : Float) → T (fits binary32 (narrow x))
unfolding narrow
narrow-fits nan = nan-fits binary32
narrow-fits (inf s) = inf-fits binary32 s
narrow-fits (fin s m e) = round-fits binary32 s (m * up e) (down e)
