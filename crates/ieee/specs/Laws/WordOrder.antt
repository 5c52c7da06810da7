-- Words in order have values in order, from 0 up to the infinity's word: within one exponent the digits grow, and from
-- one to the next the values double. Over the format. Assumes nothing.
use Rattle.std.specs.Prelude.{ℕ, suc, ◌+◌, ◌-◌, ◌*◌, ◌/◌, ◌%◌, ◌^◌, ◌≤◌, ◌<◌, ◌≡◌, false, ◌⊎◌, T, ℤ, Float}
use Rattle.std.proofs.Common.{sym, ◌∙◌, ap, subst, true≢false, inl, inr, le_trans as le_then, le_of_lt}
use Rattle.std.proofs.Common.{lt_of_lt_of_le, lt_of_le_of_lt, lt_of_not-le, eq-or-lt_of_le, mod-lt, le_of_eq}
use Rattle.std.proofs.Common.{mul-le-mul_right, mod-eq_of_lt, div-add-mod', arith, pow_pos}
use Rattle.std.proofs.Math.Nat.{div-eq_of_lt, div-eq_of_lt-le}
use Rattle.std.proofs.Math.Decide.{dec_le}
use Rattle.std.specs.Float.{Format, fin}
use Rattle.std.specs.Float.Ieee.{low, hid, ones, top, to_bits, of_bits, le, fits}
use Rattle.std.specs.Float.Ieee.Bits.{of_bits-to_bits}
use Rattle.std.specs.Float.Ieee.Order.{le_of_values}
use Rattle.std.specs.Float.Ieee.Scale.{finite}
use Rattle.ieee.specs.Laws.Patterns.{magnitude, magnitude-small, magnitude-large}
use Rattle.ieee.specs.Laws.Patterns.{magnitude-lt, magnitude_ge, hid-pos, decode-plain, inf_bits, no_sign}
use Rattle.ieee.specs.Whole.{negative}
use Rattle.ieee.specs.Laws.WholeLaws.{past_infinity}

pub magnitude_mono : (f : Format) (a b : ℕ) → a ≤ b → magnitude f a ≤ magnitude f b
magnitude_mono f a b h = go (dec_le (suc (a / hid f) * hid f) b)
  where
    H : 0 < hid f
    H = hid-pos f

    parts : (n : ℕ) → n / hid f * hid f + n % hid f ≡ n
    parts n = div-add-mod' n (hid f)

    -- of one field both are the digits times one power of two
    same_field : b < suc (a / hid f) * hid f → Dec (hid f ≤ a) → magnitude f a ≤ magnitude f b
    same_field l (no n) =
        let s : a < hid f = lt_of_not-le n in
        let t : b < hid f = omega (arith, ap (λ (z : ℕ). suc z * hid f) (div-eq_of_lt s)) in
        rw (magnitude-small f a s, magnitude-small f b t) h
    same_field l (yes k) =
        let e : b / hid f ≡ a / hid f = div-eq_of_lt-le (hid f) (omega (arith, parts a)) (omega (arith, l)) in
        let d : a % hid f ≤ b % hid f = omega (arith, parts a, parts b, ap (λ (z : ℕ). z * hid f) e) in
        let g : hid f + a % hid f ≤ hid f + b % hid f = omega arith in
        rw (magnitude-large f a k, magnitude-large f b (le_then k h), e) (mul-le-mul_right (2 ^ (a / hid f - 1)) g)

    go : Dec (suc (a / hid f) * hid f ≤ b) → magnitude f a ≤ magnitude f b
    go (yes l) =
        let s : a < suc (a / hid f) * hid f = omega (arith, parts a, mod-lt a H) in
        le_of_lt (lt_of_lt_of_le (magnitude-lt f a (a / hid f) s) (magnitude_ge f b (a / hid f) l))
    go (no n) = same_field (lt_of_not-le n) (dec_le (hid f) a)

-- up to the infinity's word
pub bits_mono : (f : Format) (w v : ℕ) → w ≤ v → v < ones f * hid f → T (le (of_bits f w) (of_bits f v))
bits_mono f w v h l =
    le_of_values (of_bits f w) (of_bits f v) (magnitude f w) (2 ^ low f) (magnitude f v) (2 ^ low f) (pow_pos (low f))
    (pow_pos (low f))
    (decode-plain f w (lt_of_le_of_lt h l)) (decode-plain f v l) (mul-le-mul_right (2 ^ low f) (magnitude_mono f w v h))

-- a finite value without a sign has a word below the infinity's
pub finite-word : (f : Format) (m : ℕ) (e : ℤ) → T (fits f (fin false m e)) → to_bits f (fin false m e) < ones f * hid f
finite-word f m e F = lt_of_not-le (λ (h : ones f * hid f ≤ to_bits f (fin false m e)). go (eq-or-lt_of_le h))
  where
    back : of_bits f (to_bits f (fin false m e)) ≡ fin false m e
    back = of_bits-to_bits f (fin false m e) F

    go : (ones f * hid f ≡ to_bits f (fin false m e)) ⊎ (ones f * hid f < to_bits f (fin false m e)) → ⊥
    go (inl q) =
        let l : to_bits f (fin false m e) < top f = no_sign f (to_bits f (fin false m e)) (le_of_eq (sym q)) in
        subst (λ (x : Float). T (finite x))
        (sym back ∙ inf_bits f (to_bits f (fin false m e)) (mod-eq_of_lt l ∙ sym q)) tt
    go (inr l) =
        elim (past_infinity f (to_bits f (fin false m e)) l) [
          | inl q ↦ subst (λ (x : Float). T (finite x)) (sym back ∙ q) tt
          | inr q ↦ true≢false (sym q ∙ ap negative back)
        ]
