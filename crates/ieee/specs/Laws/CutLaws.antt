-- Casts of the whole numbers next to a value, by the cast n of the value itself, which cuts toward zero: floor changes
-- no cast; ceil's is n + 1 where n lies below the value, else n; round's is n + 1 where n and a half is at most the
-- value, else n. Assumes nothing.
use Rattle.std.specs.Prelude.{ℕ, suc, ◌+◌, ◌*◌, ◌-◌, ◌/◌, ◌^◌, ◌≤◌, ◌<◌, min, ◌≡◌, refl, ◌↔◌, ◌⊎◌, ℤ, pos}
use Rattle.std.proofs.Common.{zero-le, sym, ◌∙◌, inl, inr, le_trans, le_of_eq, le_of_mul-le-mul_right}
use Rattle.std.proofs.Common.{mul-le-mul_right, mul-pos, div-add-mod', mod-lt, lt_of_lt_of_le, lt_of_not-le, arith}
use Rattle.std.proofs.Common.{lit<, lit≤, ltb→lt, lt→ltb, pow_pos, pow_mono, shl_lt}
use Rattle.std.proofs.Math.Path.{ap, subst}
use mathlib.Core.Bool.{Bool, true, false, cond}
use Rattle.std.proofs.Math.Nat.{lt_of_mul-lt-mul_right, mul-lt-mul_of_pos_right, eq_of_mul-eq-mul_right}
use Rattle.std.proofs.Math.Dec.{T}
use Rattle.std.specs.Float.Ieee.{Float, binary32, up, down, add, lt, le, eq, fits, round, of_int, of_bits, to_unsigned}
use Rattle.std.specs.Float.{nan, inf, fin, Format}
use Rattle.std.specs.Float.Ieee.Back.{round_whole}
use Rattle.std.specs.Float.Ieee.Exact.{HasValue, round_exact}
use Rattle.std.specs.Float.Ieee.Fits.{down_pos}
use Rattle.ieee.specs.Laws.OrderLaws.{le-fin}
use Rattle.ieee.specs.Single.{◌⊕◌, half}
use Rattle.ieee.specs.Whole.{outward, next_whole, negative, floor, ceil, half_up, round_away}
use Rattle.ieee.specs.Laws.WholeLaws.{to_unsigned-units}
use Rattle.ieee.specs.Laws.WholeNumbers.{outward-small, outward-over, half_up-nearest}
use Rattle.ieee.specs.Laws.WholeNumbers.{next_whole-value, round_away-value}

-- ---- a whole number cast

whole_cast : (w : ℕ) (v : Float) (q : ℕ) → HasValue v false q 1 → to_unsigned w v ≡ min q (2 ^ w - 1)
whole_cast w v q h = to_unsigned-units w v q 1 (lit< tt) h ∙ omega arith

pub cast-negative : (w : ℕ) (v : Float) (n : ℕ) → HasValue v true n 1 → to_unsigned w v ≡ 0
unfolding to_unsigned
cast-negative w nan n h = refl
cast-negative w (inf t) n h = absurd h
cast-negative w (fin t m e) n h = rw h.0

-- a value that is a NaN or at most n
abbrev pub NanOrAtMost : ℕ → Float → Type 0
NanOrAtMost n x = (x ≡ nan) ⊎ T (le x (fin false n (pos 0)))

-- the cast of the whole number next to it is at most n
pub next_small : (w n : ℕ) (away : Bool) (x : Float) → T (fits binary32 x) → NanOrAtMost n x
    → to_unsigned w (next_whole binary32 away x) ≤ n
unfolding next_whole to_unsigned
next_small w n away x F (inl e) = rw e zero-le
next_small w n away nan F (inr h) = zero-le
next_small w n away (inf true) F (inr h) = zero-le
next_small w n away (inf false) F (inr h) = absurd (unfold le lt eq in h)
next_small w n away (fin true m e) F (inr h) =
    le_trans (le_of_eq (cast-negative w (next_whole binary32 away (fin true m e)) (outward away m e)
    (next_whole-value binary32 true m e F away))) zero-le
next_small w n away (fin false m e) F (inr h) =
    let q = outward away m e in
    let l = (le-fin false m e false n (pos 0)).0 h in
    let small : q ≤ n = outward-small away m e n (omega arith) in
    let is =
    to_unsigned-units w (next_whole binary32 away (fin false m e)) q 1 (lit< tt)
    (next_whole-value binary32 false m e F away) in
    le_trans (le_of_eq is) (omega arith)

pub cut-floor : (f : Format) (w : ℕ) (x : Float) → T (fits f x) → to_unsigned w (floor f x) ≡ to_unsigned w x
unfolding floor next_whole to_unsigned
cut-floor f w nan F = refl
cut-floor f w (inf s) F = refl
cut-floor f w (fin true m e) F =
    cast-negative w (next_whole f true (fin true m e)) (outward true m e) (next_whole-value f true m e F true)
cut-floor f w (fin false m e) F =
    whole_cast w (next_whole f false (fin false m e)) (outward false m e) (next_whole-value f false m e F false)
    ∙ omega arith

-- ---- a value of a / c compared with m * 2 ^ e

module _ (v : Float) (a c m : ℕ) (e : ℤ) (C : 0 < c) where
  lt-value : HasValue v false a c → T (lt v (fin false m e)) ↔ (a * down e < m * up e * c)
  unfolding lt
  lt-value h = go v h
    where
      there : (p M D E : ℕ) → 0 < D → p * c ≡ a * D → p * E < M * D → a * E < M * c
      there p M D E d h l =
          let q : p * c * E ≡ a * D * E = ap (λ (z : ℕ). z * E) h in
          let k : p * E * c < M * D * c = mul-lt-mul_of_pos_right l C in
          lt_of_mul-lt-mul_right D (omega arith)

      back : (p M D E : ℕ) → 0 < D → p * c ≡ a * D → a * E < M * c → p * E < M * D
      back p M D E d h l =
          let q : p * c * E ≡ a * D * E = ap (λ (z : ℕ). z * E) h in
          let k : a * E * D < M * c * D = mul-lt-mul_of_pos_right l d in
          lt_of_mul-lt-mul_right c (omega arith)

      go : (v : Float) → HasValue v false a c → T (lt v (fin false m e)) ↔ (a * down e < m * up e * c)
      go nan h = absurd h
      go (inf t) h = absurd h
      go (fin true p d) h = absurd (mathlib.Core.Bool.true≢false h.0)
      go (fin false p d) h = (
        λ t. there (p * up d) (m * up e) (down d) (down e) (down_pos d) h.1
            (ltb→lt (p * up d * down e) (m * up e * down d) t),
        λ l. lt→ltb (p * up d * down e) (m * up e * down d)
            (back (p * up d) (m * up e) (down d) (down e) (down_pos d) h.1 l),
      )

  le-value : HasValue v false a c → T (le v (fin false m e)) ↔ (a * down e ≤ m * up e * c)
  le-value h = go v h
    where
      there : (p M D E : ℕ) → 0 < D → p * c ≡ a * D → p * E ≤ M * D → a * E ≤ M * c
      there p M D E d h l =
          let q : p * c * E ≡ a * D * E = ap (λ (z : ℕ). z * E) h in
          let k : p * E * c ≤ M * D * c = mul-le-mul_right c l in
          le_of_mul-le-mul_right (omega arith) d

      back : (p M D E : ℕ) → 0 < D → p * c ≡ a * D → a * E ≤ M * c → p * E ≤ M * D
      back p M D E d h l =
          let q : p * c * E ≡ a * D * E = ap (λ (z : ℕ). z * E) h in
          let k : a * E * D ≤ M * c * D = mul-le-mul_right D l in
          le_of_mul-le-mul_right (omega arith) C

      go : (v : Float) → HasValue v false a c → T (le v (fin false m e)) ↔ (a * down e ≤ m * up e * c)
      go nan h = absurd h
      go (inf t) h = absurd h
      go (fin true p d) h = absurd (mathlib.Core.Bool.true≢false h.0)
      go (fin false p d) h =
          let i = le-fin false p d false m e in (
            λ t. let l = i.0 t in there (p * up d) (m * up e) (down d) (down e) (down_pos d) h.1 (omega arith),
            λ l. let k = back (p * up d) (m * up e) (down d) (down e) (down_pos d) h.1 l in i.1 (omega arith),
          )

-- ---- the whole numbers next to a magnitude that a whole number n is at most

module _ (m : ℕ) (e : ℤ) (n : ℕ) (lo : n * down e ≤ m * up e) where
  over-past : n * down e < m * up e → m * up e < suc n * down e → outward true m e ≡ suc n
  over-past l h =
      let o = outward-over m e in
      let a : n < outward true m e = lt_of_mul-lt-mul_right (down e) (omega (arith, o.at_least)) in
      let b : outward true m e < suc (suc n) = lt_of_mul-lt-mul_right (down e) (omega (arith, o.least)) in
      omega arith

  over-at : m * up e ≤ n * down e → outward true m e ≡ n
  over-at h =
      let o = outward-over m e in
      let a : n ≤ outward true m e = le_of_mul-le-mul_right (omega (arith, o.at_least)) (down_pos e) in
      let b : outward true m e < suc n = lt_of_mul-lt-mul_right (down e) (omega (arith, o.least)) in
      omega arith

  half-past : (2 * n + 1) * down e ≤ m * up e * 2 → m * up e < suc n * down e → half_up m e ≡ suc n
  half-past l h =
      let o = half_up-nearest m e in
      let a : suc n < suc (half_up m e) = lt_of_mul-lt-mul_right (2 * down e) (omega (arith, o.greatest)) in
      let b : half_up m e < suc (suc n) = lt_of_mul-lt-mul_right (2 * down e) (omega (arith, o.at_most)) in
      omega arith

  half-short : m * up e * 2 < (2 * n + 1) * down e → half_up m e ≡ n
  half-short l =
      let o = half_up-nearest m e in
      let a : n < suc (half_up m e) = lt_of_mul-lt-mul_right (2 * down e) (omega (arith, o.greatest, down_pos e)) in
      let b : half_up m e < suc n = lt_of_mul-lt-mul_right (2 * down e) (omega (arith, o.at_most)) in
      omega arith

  half-least : n ≤ half_up m e
  half-least =
      let o = half_up-nearest m e in
      let a : n < suc (half_up m e) = lt_of_mul-lt-mul_right (2 * down e) (omega (arith, o.greatest, down_pos e)) in
      omega arith

-- ---- n and a half, as a float

-- one value as another fraction
rescale : (v : Float) (a c a' c' : ℕ) → 0 < c → a * c' ≡ a' * c → HasValue v false a c → HasValue v false a' c'
rescale nan a c a' c' C h k = k
rescale (inf t) a c a' c' C h k = k
rescale (fin t p d) a c a' c' C h k =
    let q : p * up d * c * c' ≡ a * down d * c' = ap (λ (z : ℕ). z * c') k.1 in
    let r : a * c' * down d ≡ a' * c * down d = ap (λ (z : ℕ). z * down d) h in
    (k.0, eq_of_mul-eq-mul_right c C (p * up d * c') (a' * down d) (omega arith))

and-half : (n : ℕ) → 2 * n + 1 < 2 ^ 24 → HasValue (of_int binary32 (pos n) ⊕ half) false (2 * n + 1) 2
unfolding of_int
and-half n h = go (round binary32 false n 1) (round_whole binary32 false n (omega arith))
  where
    twice : (k a d : ℕ) → a ≡ (2 * n + 1) * d → a * (k * 2) ≡ (2 * n + 1) * k * (d * 2)
    twice k a d e = let r : a * (k * 2) ≡ (2 * n + 1) * d * (k * 2) = ap (λ (z : ℕ). z * (k * 2)) e in omega arith

    sum : (p : ℕ) (d : ℤ) → p * up d * 1 ≡ n * down d
        → HasValue (round binary32 false (p * up d * 2 + 1 * 1 * down d) (down d * 2)) false (2 * n + 1) 2
    sum p d k =
        let num : p * up d * 2 + 1 * 1 * down d ≡ (2 * n + 1) * down d = omega arith in
        let D : 0 < down d * 2 = omega (arith, down_pos d) in
        rescale (round binary32 false (p * up d * 2 + 1 * 1 * down d) (down d * 2)) (p * up d * 2 + 1 * 1 * down d)
        (down d * 2) (2 * n + 1) 2 D (omega arith)
        (round_exact binary32 false (p * up d * 2 + 1 * 1 * down d) (down d * 2) (2 * n + 1) 148 D h
        (lt_of_lt_of_le (shl_lt 24 148 h) (pow_mono {i = 172} {j = 277} (lit≤ tt)))
        (twice (2 ^ 148) (p * up d * 2 + 1 * 1 * down d) (down d) num))

    go : (v : Float) → HasValue v false n 1 → HasValue (v ⊕ half) false (2 * n + 1) 2
    go nan k = absurd k
    go (inf t) k = absurd k
    go (fin true p d) k = absurd (mathlib.Core.Bool.true≢false k.0)
    go (fin false p d) k = unfold add of_bits in sum p d k.1

-- ---- ceil and round, by the cast

-- a cast that is short of its largest number is the whole part
whole_part : (w m : ℕ) (e : ℤ) (n : ℕ) → n ≡ min (m * up e / down e) (2 ^ w - 1) → n + 1 < 2 ^ w
    → (n * down e ≤ m * up e) × (m * up e < suc n * down e)
whole_part w m e n is short =
    let k : n ≡ m * up e / down e = omega arith in
    let parts = div-add-mod' (m * up e) (down e) in
    let rest = mod-lt (m * up e) (down_pos e) in
    rw k (omega (arith, parts), omega (arith, parts, rest))

-- no value at or above zero is below a NaN or a value with the sign, and none above zero is at most one
not-lt : (v : Float) (a c : ℕ) → HasValue v false a c → (x : Float) → (x ≡ nan) ⊎ (negative x ≡ true) → lt v x ≡ false
unfolding lt
not-lt nan a c h x k = absurd h
not-lt (inf t) a c h x k = absurd h
not-lt (fin true p d) a c h x k = absurd (mathlib.Core.Bool.true≢false h.0)
not-lt (fin false p d) a c h x (inl e) = rw e
not-lt (fin false p d) a c h nan (inr e) = refl
not-lt (fin false p d) a c h (inf s) (inr e) = rw e
not-lt (fin false p d) a c h (fin s m g) (inr e) = rw e

not-le : (v : Float) (a c : ℕ) → 0 < a → HasValue v false a c → (x : Float) → (x ≡ nan) ⊎ (negative x ≡ true)
    → T (le v x) → ⊥
not-le nan a c A h x k t = h
not-le (inf t) a c A h x k u = h
not-le (fin true p d) a c A h x k t = absurd (mathlib.Core.Bool.true≢false h.0)
not-le (fin false p d) a c A h x (inl e) t = unfold le lt eq in subst (λ (z : Float). T (le (fin false p d) z)) e t
not-le (fin false p d) a c A h nan (inr e) t = unfold le lt eq in t
not-le (fin false p d) a c A h (inf s) (inr e) t =
    unfold le lt eq in subst (λ (s : Bool). T (le (fin false p d) (inf s))) e t
not-le (fin false p d) a c A h (fin s m g) (inr e) t =
    let l = (le-fin false p d true m g).0 (subst (λ (s : Bool). T (le (fin false p d) (fin s m g))) e t) in
    let P : 0 < p * up d * c = subst (λ (z : ℕ). 0 < z) (sym h.1) (mul-pos A (down_pos d)) in
    let Q : p * up d * down g ≤ 0 * down g = omega arith in
    let R : p * up d * c ≤ 0 * c = mul-le-mul_right c (le_of_mul-le-mul_right Q (down_pos g)) in
    omega arith

-- n is the cast, and short of the largest number
module _ (w : ℕ) (x : Float) (F : T (fits binary32 x)) (n : ℕ) (is : n ≡ to_unsigned w x) (short : n + 1 < 2 ^ w) where
  pub cut-ceil : n ≤ 2 ^ 24 → to_unsigned w (ceil binary32 x) ≡ cond (lt (of_int binary32 (pos n)) x) (n + 1) n
  unfolding ceil next_whole to_unsigned of_int
  cut-ceil few = go x F is
    where
      whole : HasValue (round binary32 false n 1) false n 1
      whole = round_whole binary32 false n few

      past : (m : ℕ) (e : ℤ) → T (fits binary32 (fin false m e)) → n * down e ≤ m * up e → m * up e < suc n * down e
          → (b : Bool) → lt (round binary32 false n 1) (fin false m e) ≡ b
          → to_unsigned w (next_whole binary32 true (fin false m e)) ≡ cond b (n + 1) n
      past m e F lo hi true k =
          let l = (lt-value (round binary32 false n 1) n 1 m e (lit< tt) whole).0 (subst T (sym k) tt) in
          whole_cast w (next_whole binary32 true (fin false m e)) (outward true m e)
          (next_whole-value binary32 false m e F true)
          ∙ omega (arith, over-past m e n lo (omega arith) hi)
      past m e F lo hi false k =
          let l : m * up e < suc (n * down e) =
          lt_of_not-le (λ (a : suc (n * down e) ≤ m * up e).
          subst T k ((lt-value (round binary32 false n 1) n 1 m e (lit< tt) whole).1 (omega arith))) in
          whole_cast w (next_whole binary32 true (fin false m e)) (outward true m e)
          (next_whole-value binary32 false m e F true)
          ∙ omega (arith, over-at m e n lo (omega arith))

      go : (x : Float) → T (fits binary32 x) → n ≡ to_unsigned w x
          → to_unsigned w (ceil binary32 x) ≡ cond (lt (round binary32 false n 1) x) (n + 1) n
      go nan F is = rw (not-lt (round binary32 false n 1) n 1 whole nan (inl refl)) (sym is)
      go (inf true) F is = rw (not-lt (round binary32 false n 1) n 1 whole (inf true) (inr refl)) (sym is)
      go (inf false) F is = absurd (omega (arith, pow_pos w))
      go (fin true m e) F is =
          rw (not-lt (round binary32 false n 1) n 1 whole (fin true m e) (inr refl))
          (cast-negative w (next_whole binary32 false (fin true m e)) (outward false m e)
          (next_whole-value binary32 true m e F false) ∙ sym is)
      go (fin false m e) F is =
          let (lo, hi) = whole_part w m e n is short in
          past m e F lo hi (lt (round binary32 false n 1) (fin false m e)) refl

  pub cut-round : 2 * n + 1 < 2 ^ 24
      → to_unsigned w (round_away binary32 x) ≡ cond (le (of_int binary32 (pos n) ⊕ half) x) (n + 1) n
  unfolding round_away to_unsigned
  cut-round few = go x F is
    where
      v : Float
      v = of_int binary32 (pos n) ⊕ half

      value : HasValue v false (2 * n + 1) 2
      value = and-half n few

      past : (m : ℕ) (e : ℤ) → T (fits binary32 (fin false m e)) → n * down e ≤ m * up e → m * up e < suc n * down e
          → (b : Bool) → le v (fin false m e) ≡ b
          → to_unsigned w (round_away binary32 (fin false m e)) ≡ cond b
          (n + 1) n
      past m e F lo hi true k =
          let l = (le-value v (2 * n + 1) 2 m e (lit< tt) value).0 (subst T (sym k) tt) in
          whole_cast w (round_away binary32 (fin false m e)) (half_up m e) (round_away-value binary32 false m e F)
          ∙ omega (arith, half-past m e n lo l hi)
      past m e F lo hi false k =
          let l : m * up e * 2 < (2 * n + 1) * down e =
          lt_of_not-le (λ (a : (2 * n + 1) * down e ≤ m * up e * 2). subst T k
          ((le-value v (2 * n + 1) 2 m e (lit< tt) value).1 a)) in
          whole_cast w (round_away binary32 (fin false m e)) (half_up m e) (round_away-value binary32 false m e F)
          ∙ omega (arith, half-short m e n lo l)

      below : (x : Float) → (x ≡ nan) ⊎ (negative x ≡ true) → (b : Bool) → le v x ≡ b → cond b (n + 1) n ≡ n
      below x k true t = absurd (not-le v (2 * n + 1) 2 (omega arith) value x k (subst T (sym t) tt))
      below x k false t = refl

      go : (x : Float) → T (fits binary32 x) → n ≡ to_unsigned w x
          → to_unsigned w (round_away binary32 x) ≡ cond (le v x) (n + 1) n
      go nan F is = sym (below nan (inl refl) (le v nan) refl ∙ is)
      go (inf true) F is = sym (below (inf true) (inr refl) (le v (inf true)) refl ∙ is)
      go (inf false) F is = absurd (omega (arith, pow_pos w))
      go (fin true m e) F is =
          cast-negative w (round_away binary32 (fin true m e)) (half_up m e) (round_away-value binary32 true m e F)
          ∙ sym (below (fin true m e) (inr refl) (le v (fin true m e)) refl ∙ is)
      go (fin false m e) F is =
          let (lo, hi) = whole_part w m e n is short in
          past m e F lo hi (le v (fin false m e)) refl

-- round's cast is no less
pub cut-least : (w : ℕ) (x : Float) → T (fits binary32 x) → to_unsigned w x ≤ to_unsigned w (round_away binary32 x)
unfolding round_away to_unsigned
cut-least w nan F = zero-le
cut-least w (inf true) F = zero-le
cut-least w (inf false) F = omega arith
cut-least w (fin true m e) F = zero-le
cut-least w (fin false m e) F =
    let c = whole_cast w (round_away binary32 (fin false m e)) (half_up m e) (round_away-value binary32 false m e F) in
    let l = half-least m e (m * up e / down e) (omega (arith, div-add-mod' (m * up e) (down e))) in
    rw c (omega arith)
