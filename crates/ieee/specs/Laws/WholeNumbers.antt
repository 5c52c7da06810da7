-- floor, ceil and round of Whole.antt give the whole numbers that their words say. The magnitude m * 2 ^ e of a value
-- is the fraction m * up e / down e, and the whole number that stands for it is a value of the format, so that rounding
-- it changes nothing. Over the format. Assumes nothing.
use Rattle.std.specs.Prelude.{ℕ, suc, ◌+◌, ◌*◌, ◌/◌, ◌%◌, ◌^◌, ◌≤◌, ◌<◌, ◌≡◌, Bool, cond, ◌⊎◌, ℤ, pos, negsuc, T, Float}
use Rattle.std.proofs.Common.{subst, inl, inr, le_of_mul-le-mul_right, lt_of_mul-lt-mul_right, le_trans, le_of_lt}
use Rattle.std.proofs.Common.{le_of_suc-le-suc, lt_of_not-le, mul-le-mul_left, mul-le-mul_right, mul-pos}
use Rattle.std.proofs.Common.{eq-zero-or-pos, div-add-mod', mod-lt, arith, lit≤, pow_pos, eq-eqb, ne_eqb}
use Rattle.std.proofs.Math.Bool.{true, false}
use Rattle.std.specs.Float.{Format, fin}
use Rattle.std.specs.Float.Ieee.{up, down, round, fits}
use Rattle.std.specs.Float.Ieee.Back.{round_whole}
use Rattle.std.specs.Float.Ieee.Exact.{HasValue, round_exact}
use Rattle.std.specs.Float.Ieee.Fits.{down_pos}
use Rattle.ieee.specs.Laws.NearestLaws.{Held, held, held-shift, held-units}
use Rattle.ieee.specs.Whole.{outward, next_whole, floor, ceil, half_up, round_away}

-- ---- whole numbers next to the magnitude m * 2 ^ e

-- the greatest that is at most it
pub record Under (m : ℕ) (e : ℤ) (n : ℕ) : Type 0 where
  pub at_most : n * down e ≤ m * up e
  pub greatest : m * up e < suc n * down e

-- the least that is at least it
pub record Over (m : ℕ) (e : ℤ) (n : ℕ) : Type 0 where
  pub at_least : m * up e ≤ n * down e
  pub least : n * down e < m * up e + down e

-- the nearest, the greater one at a half: the greatest that is at most it and a half
pub record Nearest (m : ℕ) (e : ℤ) (n : ℕ) : Type 0 where
  pub at_most : 2 * (n * down e) ≤ 2 * (m * up e) + down e
  pub greatest : 2 * (m * up e) + down e < 2 * (suc n * down e)

module _ (m : ℕ) (e : ℤ) where
  parts : m * up e / down e * down e + m * up e % down e ≡ m * up e
  parts = div-add-mod' (m * up e) (down e)

  rest : m * up e % down e < down e
  rest = mod-lt (m * up e) (down_pos e)

  pub outward-under : Under m e (outward false m e)
  outward-under = record { at_most = omega (arith, parts); greatest = omega (arith, parts, rest) }

  pub outward-over : Over m e (outward true m e)
  outward-over = go (eq-zero-or-pos (m * up e % down e))
    where
      go : (m * up e % down e ≡ 0) ⊎ (0 < m * up e % down e) → Over m e (outward true m e)
      go (inl z) =
          rw (eq-eqb (m * up e % down e) 0 z)
          (record { at_least = omega (arith, parts); least = omega (arith, parts, rest) })
      go (inr p) =
          rw (ne_eqb (m * up e % down e) 0 (λ (z : m * up e % down e ≡ 0). omega arith))
          (record { at_least = omega (arith, parts, rest); least = omega (arith, parts) })

  pub half_up-nearest : Nearest m e (half_up m e)
  half_up-nearest =
      let x = 2 * (m * up e) + down e in
      let w : x / (2 * down e) * (2 * down e) + x % (2 * down e) ≡ x = div-add-mod' x (2 * down e) in
      let l : x % (2 * down e) < 2 * down e = mod-lt x (mul-pos (lit≤ tt) (down_pos e)) in
      record { at_most = omega arith; greatest = omega arith }

-- the next whole number to m * 2 ^ e, which is at most n
pub outward-small : (away : Bool) (m : ℕ) (e : ℤ) (n : ℕ) → m * up e ≤ n * down e → outward away m e ≤ n
outward-small false m e n h = le_of_mul-le-mul_right (le_trans (outward-under m e).at_most h) (down_pos e)
outward-small true m e n h =
    let q = outward true m e in
    let l : q * down e < (n + 1) * down e = omega (arith, (outward-over m e).least) in
    let s : q < n + 1 = lt_of_mul-lt-mul_right (down e) l in
    omega arith

-- ---- less than one away from a value of the format a whole number is one itself

near-value : (f : Format) (s : Bool) (m : ℕ) (e : ℤ) (n : ℕ) → Held f m e → n * down e < m * up e + down e
    → m * up e < n * down e + down e
    → HasValue (round f s n 1) s n 1
near-value f s m (pos k) n H a b =
    let same : m * 2 ^ k ≡ n = omega arith in
    let (i, is) = held-shift f m (pos k) H in
    subst (λ (z : ℕ). HasValue (round f s z 1) s z 1) same
    (round_exact f s (m * 2 ^ k) 1 m i (lit≤ tt) H.digits (held-units f m (pos k) (m * 2 ^ i) H is) is)
near-value f s m (negsuc k) n H a b =
    round_whole f s n (le_trans (le_of_suc-le-suc (lt_of_not-le few)) (le_of_lt H.digits))
  where
    few : suc m ≤ n → ⊥
    few g =
        let x : suc m * 2 ^ suc k ≤ n * 2 ^ suc k = mul-le-mul_right (2 ^ suc k) g in
        let y : m * 1 ≤ m * 2 ^ suc k = mul-le-mul_left m (pow_pos (suc k)) in
        omega arith

-- ---- the functions

module _ (f : Format) (s : Bool) (m : ℕ) (e : ℤ) (F : T (fits f (fin s m e))) where
  pub next_whole-value : (away : Bool) → HasValue (next_whole f away (fin s m e)) s (outward away m e) 1
  unfolding next_whole
  next_whole-value false =
      let u = outward-under m e in near-value f s m e (outward false m e) (held f s m e F) (omega (arith, down_pos e))
      (omega arith)
  next_whole-value true =
      let o = outward-over m e in near-value f s m e (outward true m e) (held f s m e F) (omega arith)
      (omega (arith, down_pos e))

  pub round_away-value : HasValue (round_away f (fin s m e)) s (half_up m e) 1
  unfolding round_away
  round_away-value =
      let h = half_up-nearest m e in near-value f s m e (half_up m e) (held f s m e F) (omega (arith, down_pos e))
      (omega (arith, down_pos e))

-- ---- by their words

-- r is a whole number with the sign s, and P holds of its magnitude
pub record WholeNumber (P : ℕ → Type 0) (s : Bool) (r : Float) : Type 0 where
  pub magnitude : ℕ
  pub value : HasValue r s magnitude 1
  pub law : P magnitude

next : (f : Format) (s : Bool) (m : ℕ) (e : ℤ) (away : Bool) → T (fits f (fin s m e))
    → WholeNumber (cond away (Over m e) (Under m e)) s (next_whole f away (fin s m e))
next f s m e true F =
    record { magnitude = outward true m e; value = next_whole-value f s m e F true; law = outward-over m e }
next f s m e false F =
    record { magnitude = outward false m e; value = next_whole-value f s m e F false; law = outward-under m e }

-- floor is the greatest whole number at most the value: below zero that is the least magnitude at least its own
pub floor-value : (f : Format) (s : Bool) (m : ℕ) (e : ℤ) → T (fits f (fin s m e))
    → WholeNumber (cond s (Over m e) (Under m e)) s (floor f (fin s m e))
unfolding floor
floor-value f s m e F = next f s m e s F

-- ceil is the least whole number at least the value: below zero that is the greatest magnitude at most its own
pub ceil-value : (f : Format) (s : Bool) (m : ℕ) (e : ℤ) → T (fits f (fin s m e))
    → WholeNumber (cond s (Under m e) (Over m e)) s (ceil f (fin s m e))
unfolding ceil
ceil-value f true m e F = next f true m e false F
ceil-value f false m e F = next f false m e true F

-- round is the whole number nearest to the value, and at a half the one away from zero
pub round-value : (f : Format) (s : Bool) (m : ℕ) (e : ℤ) → T (fits f (fin s m e))
    → WholeNumber (Nearest m e) s (round_away f (fin s m e))
round-value f s m e F = record {
  magnitude = half_up m e;
  value = round_away-value f s m e F;
  law = half_up-nearest m
      e;
}
