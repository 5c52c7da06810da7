-- The functions of Whole.antt by units: of a value of u units of 1 / d the next whole number is (u + d - 1) / d away
-- from zero and u / d toward it, and the nearest is (2 u + d) / (2 d). Assumes nothing.
use Rattle.std.specs.Prelude.{ℕ, zero, suc, ◌+◌, ◌-◌, ◌*◌, ◌/◌, ◌%◌, ◌^◌, ◌≤◌, ◌<◌, min, ◌≡◌, refl, ◌⊎◌, T, leb, eqb}
use Rattle.std.specs.Prelude.{ℤ, Float}
use Rattle.std.proofs.Common.{sym, ◌∙◌, ap, subst, inl, inr, mul_assoc, mul-one, zero-mul, mul-pos, mul_right_comm}
use Rattle.std.proofs.Common.{div-add-mod', mod-lt, add-mul, eq-zero-or-pos, lt_irrefl, add-zero, mod-eq_of_lt}
use Rattle.std.proofs.Common.{lt_of_not-le, arith, pow-add, eq-eqb, ne_eqb, le-leb}
use mathlib.Core.Bool.{Bool, true, false, cond, not}
use Rattle.std.proofs.Math.Nat.{div-eq_of_lt-le}
use Rattle.std.proofs.Math.Decide.{dec_le}
use Rattle.std.specs.Float.{Format, nan, inf, fin}
use Rattle.std.specs.Float.Ieee.{prec, low, hid, ones, top, up, down, odd, round, of_fields, of_bits, to_bits}
use Rattle.std.specs.Float.Ieee.{to_unsigned, fits}
use Rattle.std.specs.Float.Ieee.Exact.{HasValue}
use Rattle.std.specs.Float.Ieee.Back.{round_whole}
use Rattle.std.specs.Float.Ieee.Fits.{down_pos, nan-fits, inf-fits, round-fits}
use Rattle.std.specs.Float.Ieee.Nearest.{div_same}
use Rattle.ieee.specs.Laws.Nans.{nan-bits}
use Rattle.ieee.specs.Whole.{outward, next_whole, negative, floor, ceil, half_up, round_away}
use Rattle.ieee.specs.Laws.Patterns.{Digits, pattern-at, to_bits-value}

-- ---- two fractions x / e and u / d of one value: the same whole part, and both have a rest or neither has

module _ (x e u d : ℕ) (E : 0 < e) (D : 0 < d) (h : x * d ≡ u * e) where
  wholes : x / e ≡ u / d
  wholes = div_same x e u d E D h

  rests : x % e * d ≡ u % d * e
  rests =
      let a : x / e * e + x % e ≡ x = div-add-mod' x e in
      let b : u / d * d + u % d ≡ u = div-add-mod' u d in
      let p : (x / e * e + x % e) * d ≡ (u / d * d + u % d) * e = ap (λ (z : ℕ). z * d) a ∙ h ∙
      ap (λ (z : ℕ). z * e) (sym b) in
      let q : x / e * e * d + x % e * d ≡ u / d * d * e + u % d * e = sym (add-mul (x / e * e) (x % e) d) ∙ p ∙
      add-mul (u / d * d) (u % d) e in
      let r : x / e * e * d ≡ u / d * d * e = mul_right_comm (x / e) e d ∙ ap (λ (z : ℕ). z * d * e) wholes in
      omega arith

  rest-test : eqb (x % e) 0 ≡ eqb (u % d) 0
  rest-test = go (eq-zero-or-pos (x % e)) (eq-zero-or-pos (u % d))
    where
      none : (a b c f : ℕ) → a ≡ 0 → a * b ≡ c * f → 0 < c → 0 < f → ⊥
      none a b c f z p C F =
          lt_irrefl 0 (subst (λ (k : ℕ). 0 < k) (sym p ∙ ap (λ (k : ℕ). k * b) z ∙ zero-mul b) (mul-pos C F))

      go : (x % e ≡ 0) ⊎ (0 < x % e) → (u % d ≡ 0) ⊎ (0 < u % d) → eqb (x % e) 0 ≡ eqb (u % d) 0
      go (inl p) (inl q) = eq-eqb (x % e) 0 p ∙ sym (eq-eqb (u % d) 0 q)
      go (inr p) (inr q) =
          ne_eqb (x % e) 0 (λ (z : x % e ≡ 0). omega arith) ∙ sym (ne_eqb (u % d) 0 (λ (z : u % d ≡ 0). omega arith))
      go (inl p) (inr q) = absurd (none (x % e) d (u % d) e p rests q E)
      go (inr p) (inl q) = absurd (none (u % d) e (x % e) d q (sym rests) p D)

-- one more where there is a rest
rounded-up : (u d : ℕ) → 0 < d → u / d + cond (not (eqb (u % d) 0)) 1 0 ≡ (u + (d - 1)) / d
rounded-up u d D = go (eq-zero-or-pos (u % d))
  where
    w : u / d * d + u % d ≡ u
    w = div-add-mod' u d

    l : u % d < d
    l = mod-lt u D

    at : (k : ℕ) → k * d ≤ u + (d - 1) → u + (d - 1) < (k + 1) * d → k ≡ (u + (d - 1)) / d
    at k lo hi = sym (div-eq_of_lt-le d lo hi)

    go : (u % d ≡ 0) ⊎ (0 < u % d) → u / d + cond (not (eqb (u % d) 0)) 1 0 ≡ (u + (d - 1)) / d
    go (inl z) = rw (eq-eqb (u % d) 0 z) (add-zero (u / d) ∙ at (u / d) (omega (arith, w)) (omega (arith, w, z, D)))
    go (inr p) =
        rw (ne_eqb (u % d) 0 (λ (z : u % d ≡ 0). omega arith))
        (at (u / d + 1) (omega (arith, w, p, D)) (omega (arith, w, l)))

-- ---- the functions

outward-units : (away : Bool) (m : ℕ) (e : ℤ) (u d : ℕ) → 0 < d → m * up e * d ≡ u * down e →
    outward away m e ≡ (u + cond away (d - 1) 0) / d
outward-units false m e u d D h =
    add-zero (m * up e / down e) ∙ wholes (m * up e) (down e) u d (down_pos e) D h ∙
    ap (λ (z : ℕ). z / d) (sym (add-zero u))
outward-units true m e u d D h =
    ap (λ (z : ℕ). z + cond (not (eqb (m * up e % down e) 0)) 1 0) (wholes (m * up e) (down e) u d (down_pos e) D h)
    ∙ ap (λ (b : Bool). u / d + cond (not b) 1 0) (rest-test (m * up e) (down e) u d (down_pos e) D h)
    ∙ rounded-up u d D

pub next_whole-units : (f : Format) (away : Bool) (v : Float) (s : Bool) (u d : ℕ) → 0 < d → HasValue v s u d
    → next_whole f away v ≡ round f s ((u + cond away (d - 1) 0) / d) 1
unfolding next_whole
next_whole-units f away nan s u d D h = absurd h
next_whole-units f away (inf t) s u d D h = absurd h
next_whole-units f away (fin t m e) s u d D h =
    ap (λ (z : ℕ). round f t z 1) (outward-units away m e u d D h.1) ∙
    ap (λ (b : Bool). round f b ((u + cond away (d - 1) 0) / d) 1) h.0

pub round_away-units : (f : Format) (v : Float) (s : Bool) (u d : ℕ) → 0 < d → HasValue v s u d →
    round_away f v ≡ round f s ((2 * u + d) / (2 * d)) 1
unfolding round_away
round_away-units f nan s u d D h = absurd h
round_away-units f (inf t) s u d D h = absurd h
round_away-units f (fin t m e) s u d D h =
    ap (λ (z : ℕ). round f t z 1)
    (div_same (2 * (m * up e) + down e) (2 * down e) (2 * u + d) (2 * d) (twice (down e) (down_pos e)) (twice d D)
    (halves (m * up e) (down e) u d h.1))
    ∙ ap (λ (b : Bool). round f b ((2 * u + d) / (2 * d)) 1) h.0
  where
    twice : (k : ℕ) → 0 < k → 0 < 2 * k
    twice k p = omega arith

    halves : (x e u d : ℕ) → x * d ≡ u * e → (2 * x + e) * (2 * d) ≡ (2 * u + d) * (2 * e)
    halves x e u d p = omega arith

pub to_unsigned-units : (w : ℕ) (v : Float) (u d : ℕ) → 0 < d → HasValue v false u d →
    to_unsigned w v ≡ min (u / d) (2 ^ w - 1)
unfolding to_unsigned
to_unsigned-units w nan u d D h = absurd h
to_unsigned-units w (inf t) u d D h = absurd h
to_unsigned-units w (fin true m e) u d D h = absurd (mathlib.Core.Bool.true≢false h.0)
to_unsigned-units w (fin false m e) u d D h =
    ap (λ (z : ℕ). min z (2 ^ w - 1)) (wholes (m * up e) (down e) u d (down_pos e) D h.1)

-- ---- the pattern of a whole number n, of which n * 2 ^ g is the number kept before a field of k

rescaled : (v : Float) (s : Bool) (n d : ℕ) → HasValue v s n 1 → HasValue v s (n * d) d
rescaled nan s n d h = h
rescaled (inf t) s n d h = h
rescaled (fin t m e) s n d h =
    (h.0, ap (λ (z : ℕ). z * d) (sym (mul-one (m * up e)) ∙ h.1) ∙ mul_right_comm n (down e) d)

pub whole-pattern : (f : Format) (s : Bool) (n g k : ℕ) → n ≤ 2 ^ prec f → g + k ≡ low f → Digits f (n * 2 ^ g) k
    → to_bits f (round f s n 1) ≡ cond s (top f) 0 + (k * hid f + n * 2 ^ g)
whole-pattern f s n g k h e d =
    let p : n * 2 ^ low f ≡ n * 2 ^ g * 2 ^ k = ap (λ (z : ℕ). n * 2 ^ z) (sym e) ∙
    ap (λ (z : ℕ). n * z) (pow-add 2 g k) ∙ sym (mul_assoc n (2 ^ g) (2 ^ k)) in
    to_bits-value f (round f s n 1) s (n * 2 ^ low f) (rescaled (round f s n 1) s n (2 ^ low f) (round_whole f s n h))
    ∙ ap (λ (z : ℕ). cond s (top f) 0 + z)
    (ap (Rattle.ieee.specs.Laws.Patterns.pattern f) p ∙ pattern-at f (n * 2 ^ g) k d)

-- ---- floor and ceil of a pattern's value, by its sign's bit

signed : (f : Format) (s : Bool) (x t : ℕ) → (of_fields f s x t ≡ nan) ⊎ (negative (of_fields f s x t) ≡ s)
unfolding of_fields odd
signed f s zero zero = inr refl
signed f s zero (suc t) = inr refl
signed f s (suc x) t = go (eqb (suc x) (ones f)) (eqb t 0) (hid f + t)
  where
    go : (a b : Bool) (q : ℕ)
        → (cond a (cond b (inf s) nan) (odd (prec f) s q x (low f)) ≡ nan) ⊎
        (negative (cond a (cond b (inf s) nan) (odd (prec f) s q x (low f))) ≡ s)
    go true true q = inr refl
    go true false q = inl refl
    go false b zero = inr refl
    go false b (suc q) = inr refl

pub signed_word : (f : Format) (w : ℕ) → (of_bits f w ≡ nan) ⊎ (negative (of_bits f w) ≡ leb (top f) w)
unfolding of_bits
signed_word f w = signed f (leb (top f) w) (w % top f / hid f) (w % hid f)

-- a word above the infinity's is a NaN's, or has the sign
pub past_infinity : (f : Format) (w : ℕ) → ones f * hid f < w → (of_bits f w ≡ nan) ⊎ (negative (of_bits f w) ≡ true)
past_infinity f w h = go (dec_le (top f) w) (signed_word f w)
  where
    go : Dec (top f ≤ w) → (of_bits f w ≡ nan) ⊎ (negative (of_bits f w) ≡ leb (top f) w) →
        (of_bits f w ≡ nan) ⊎ (negative (of_bits f w) ≡ true)
    go d (inl e) = inl e
    go (yes l) (inr e) = inr (e ∙ le-leb (top f) w l)
    go (no n) (inr e) = inl (nan-bits f w (rw (mod-eq_of_lt (lt_of_not-le n)) h))

-- `away` is the sign, or is not: a NaN is the same both ways
next_word : (f : Format) (w : ℕ) (away : Bool → Bool)
    → next_whole f (away (leb (top f) w)) (of_bits f w) ≡ next_whole f (away (negative (of_bits f w))) (of_bits f w)
next_word f w away = go (of_bits f w) (signed_word f w)
  where
    go : (v : Float) → (v ≡ nan) ⊎ (negative v ≡ leb (top f) w) →
        next_whole f (away (leb (top f) w)) v ≡ next_whole f (away (negative v)) v
    go v (inl e) = rw e (unfold next_whole in refl)
    go v (inr e) = rw e

pub floor-word : (f : Format) (w : ℕ) → next_whole f (leb (top f) w) (of_bits f w) ≡ floor f (of_bits f w)
unfolding floor
floor-word f w = next_word f w (λ (b : Bool). b)

pub ceil-word : (f : Format) (w : ℕ) → next_whole f (not (leb (top f) w)) (of_bits f w) ≡ ceil f (of_bits f w)
unfolding ceil
ceil-word f w = next_word f w not

-- ---- the results are values of the format

next_whole-fits : (f : Format) (away : Bool) (x : Float) → T (fits f (next_whole f away x))
unfolding next_whole
next_whole-fits f away nan = nan-fits f
next_whole-fits f away (inf s) = inf-fits f s
next_whole-fits f away (fin s m e) = round-fits f s (outward away m e) 1

pub floor-fits : (f : Format) (x : Float) → T (fits f (floor f x))
unfolding floor
floor-fits f x = next_whole-fits f (negative x) x

pub ceil-fits : (f : Format) (x : Float) → T (fits f (ceil f x))
unfolding ceil
ceil-fits f x = next_whole-fits f (not (negative x)) x

pub round_away-fits : (f : Format) (x : Float) → T (fits f (round_away f x))
unfolding round_away
round_away-fits f nan = nan-fits f
round_away-fits f (inf s) = inf-fits f s
round_away-fits f (fin s m e) = round-fits f s (half_up m e) 1
