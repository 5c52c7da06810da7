-- The bit pattern of a root from the whole root of fewer digits. Of n * 4 ^ t, with n from 4 ^ (prec + g) up to 4 ^
-- (prec + 1 + g), the root of n has g + 1 digits more than the format keeps; a rest counts as half a unit more, and one
-- rounding drops the digits. Over the format. Assumes nothing.
use Prim.Native.Nat.{ℕ, zero, suc, ◌+◌, ◌-◌, ◌*◌, ◌/◌, ◌%◌, ◌^◌, ◌≤◌, ◌<◌, min, zero-le}
use Rattle.std.specs.Prelude.{◌≡◌, Bool, not, ◌⊎◌, ◌≢◌, leb, ℤ, pos, Float}
use Rattle.std.proofs.Math.Path.{refl, sym, ap, subst}
use Rattle.std.proofs.Common.{◌∙◌, true≢false, inl, inr, lit<, lit≤, pow_pos, pow-add}
use Rattle.std.proofs.Math.Bool.{true, false, cond}
use native.Mathlib.Nat.{mul_assoc, mul_comm, mul-one, one-mul, zero-mul, mul-pos}
use native.Mathlib.Nat.{mul_right_comm, mul-mul-mul_comm, div-add-mod', mod-lt, lt_of_lt_of_le}
use native.Mathlib.Nat.{lt_of_le_of_lt, le_trans, le_of_eq, le_of_suc-le-suc}
use native.Mathlib.Nat.{lt_of_not-le, not-le_of_lt, mul-le-mul, mul-le-mul_right}
use native.Mathlib.Nat.{mul-lt-mul_of_pos_right, eq_of_mul-eq-mul_right, mul-div_cancel, mul-div-mul_right}
use native.Mathlib.Nat.{le-div_iff_mul-le, pow-succ', eq-zero-or-pos}
use native.Mathlib.Nat.{add-zero, min-eq_left, lt_irrefl, zero-add, zero-div}
use native.Mathlib.Nat.{zero-mod, mod_self, mod-mod_of_dvd, dvd-mul_right, mod-eq_of_lt}
use native.Mathlib.Omega.{arith}
use Rattle.std.proofs.Math.Dec.{T, eqb}
use Rattle.std.specs.Int.Count.{count_leading_zeros}
use Rattle.std.proofs.lemmas.Nat.{leading_top}
use Rattle.std.specs.Float.{Format}
use Rattle.std.specs.Float.Ieee.{nan, inf, fin, prec, low, hid, ones, top, up, down, size, odd, of_bits, of_fields}
use Rattle.std.specs.Float.Ieee.{to_bits, is_nan}
use Rattle.std.specs.Float.Ieee.Bits.{to_bits-of_bits}
use Rattle.std.specs.Float.Ieee.Exact.{HasValue}
use Rattle.std.specs.Float.Ieee.Fits.{down_pos, two}
use Rattle.std.specs.Float.Ieee.Nearest.{closest}
use Rattle.std.specs.Float.Ieee.Order.{drop, kept}
use borrow.Author.Tests.{eq-eqb, ne_eqb, lt-leb}
use Rattle.ieee.specs.Whole.{negative}
use Rattle.ieee.specs.Laws.WholeLaws.{past_infinity}
use Rattle.ieee.specs.Sqrt.{isqrt, root_of, sqrt}
use Rattle.ieee.specs.Laws.SqrtLaws.{Root, isqrt-law, root_unique, root_below}
use Rattle.ieee.specs.Laws.Patterns.{size_is, two-hid, hid-pos, pow-lt_inv, pattern-at}
use Rattle.ieee.specs.Laws.Patterns.{to_bits-value, magnitude, magnitude-small, magnitude-large}
use Rattle.ieee.specs.Laws.Patterns.{magnitude-pos, decode-plain, inf_bits, no_sign}
use Rattle.ieee.specs.Laws.Rounding.{round-bits, closest-sticky, closest-scale, closest-le}

-- twice the whole root, and one more where it leaves a rest
abbrev pub sticky : ℕ → ℕ
sticky n = 2 * isqrt n + cond (eqb (isqrt n * isqrt n) n) 0 1

-- 4 ^ k is 2 ^ k squared
pub four : (k : ℕ) → 4 ^ k ≡ 2 ^ k * 2 ^ k
four zero = refl
four (suc k) =
    pow-succ' 4 k ∙ ap (λ (z : ℕ). 4 * z) (four k) ∙ spread (2 ^ k) ∙ ap (λ (z : ℕ). z * z) (sym (pow-succ' 2 k))
  where
    spread : (a : ℕ) → 4 * (a * a) ≡ 2 * a * (2 * a)
    spread a = omega arith

-- numbers are ordered as their squares are
pub square-lt : (a b : ℕ) → a * a < b * b → a < b
square-lt a b h = lt_of_not-le (λ (g : b ≤ a). not-le_of_lt h (mul-le-mul g g))

module _ (n t : ℕ) where
  -- the root of n, of n * 4 ^ t, and what the second has more
  q : ℕ
  q = isqrt n

  Q : ℕ
  Q = isqrt (n * 4 ^ t)

  squares : (k : ℕ) → k * 2 ^ t * (k * 2 ^ t) ≡ k * k * 4 ^ t
  squares k = mul-mul-mul_comm k (2 ^ t) k (2 ^ t) ∙ ap (λ (z : ℕ). k * k * z) (sym (four t))

  from : q * 2 ^ t ≤ Q
  unfolding q Q
  from =
      le_of_suc-le-suc (square-lt (q * 2 ^ t) (suc Q)
      (lt_of_le_of_lt (le_trans (le_of_eq (squares q)) (mul-le-mul_right (4 ^ t) (isqrt-law n).at_most))
      (isqrt-law (n * 4 ^ t)).below))

  to : Q < suc q * 2 ^ t
  unfolding q Q
  to =
      square-lt Q (suc q * 2 ^ t)
      (lt_of_le_of_lt (isqrt-law (n * 4 ^ t)).at_most
      (lt_of_lt_of_le (mul-lt-mul_of_pos_right (isqrt-law n).below (pow4-pos t)) (le_of_eq (sym (squares (suc q))))))
    where
      pow4-pos : (t : ℕ) → 0 < 4 ^ t
      pow4-pos t = subst (λ (z : ℕ). 0 < z) (sym (four t)) (mul-pos (pow_pos t) (pow_pos t))

  rest : ℕ
  rest = Q - q * 2 ^ t

  split : Q ≡ q * 2 ^ t + rest
  unfolding rest
  split = omega (arith, from)

  rest_lt : rest < 2 ^ t
  unfolding rest
  rest_lt = omega (arith, from, to, native.Mathlib.Nat.suc-mul q (2 ^ t))

  -- a whole root of n is one of n * 4 ^ t, and the other way round
  whole : q * q ≡ n → (rest ≡ 0) × (Q * Q ≡ n * 4 ^ t)
  unfolding q Q rest
  whole e =
      let s : q * 2 ^ t * (q * 2 ^ t) ≡ n * 4 ^ t = squares q ∙ ap (λ (z : ℕ). z * 4 ^ t) e in
      let u : q * 2 ^ t ≡ Q =
      root_unique (n * 4 ^ t) (q * 2 ^ t)
      (record { at_most = le_of_eq s; below = lt_of_le_of_lt (le_of_eq (sym s)) (grows (q * 2 ^ t)) }) in
      (omega arith, ap (λ (z : ℕ). z * z) (sym u) ∙ s)
    where
      grows : (k : ℕ) → k * k < suc k * suc k
      grows k = omega arith

  back : rest ≡ 0 → Q * Q ≡ n * 4 ^ t → q * q ≡ n
  back z e =
      let u : Q ≡ q * 2 ^ t = split ∙ ap (λ (k : ℕ). q * 2 ^ t + k) z ∙ add-zero (q * 2 ^ t) in
      eq_of_mul-eq-mul_right (4 ^ t) (subst (λ (k : ℕ). 0 < k) (sym (four t)) (mul-pos (pow_pos t) (pow_pos t))) (q * q)
      n
      (sym (squares q) ∙ ap (λ (k : ℕ). k * k) (sym u) ∙ e)

  -- the half units of the larger root beyond whole ones of the smaller
  more : ℕ
  more = 2 * rest + cond (eqb (Q * Q) (n * 4 ^ t)) 0 1

  more_lt : more < 2 * 2 ^ t
  unfolding more
  more_lt = go (eqb (Q * Q) (n * 4 ^ t))
    where
      go : (b : Bool) → 2 * rest + cond b 0 1 < 2 * 2 ^ t
      go true = omega (arith, rest_lt)
      go false = omega (arith, rest_lt)

  sticky-split : sticky (n * 4 ^ t) ≡ q * (2 * 2 ^ t) + more
  unfolding more Q
  sticky-split =
      ap (λ (z : ℕ). 2 * z + cond (eqb (Q * Q) (n * 4 ^ t)) 0 1) split ∙
      regroup q (2 ^ t) rest (cond (eqb (Q * Q) (n * 4 ^ t)) 0 1)
    where
      regroup : (a b c d : ℕ) → 2 * (a * b + c) + d ≡ a * (2 * b) + (2 * c + d)
      regroup a b c d = omega arith

  same_test : eqb more 0 ≡ eqb (q * q) n
  unfolding more
  same_test =
      go (native.Mathlib.Decide.ℕ_discrete (q * q) n) (native.Mathlib.Decide.ℕ_discrete (Q * Q) (n * 4 ^ t))
      (eq-zero-or-pos rest)
    where
      go : Dec (q * q ≡ n) → Dec (Q * Q ≡ n * 4 ^ t) → (rest ≡ 0) ⊎ (0 < rest) →
          eqb (2 * rest + cond (eqb (Q * Q) (n * 4 ^ t)) 0 1) 0 ≡ eqb (q * q) n
      go (yes e) d r =
          eq-eqb (2 * rest + cond (eqb (Q * Q) (n * 4 ^ t)) 0 1) 0
          (rw (eq-eqb (Q * Q) (n * 4 ^ t) (whole e).1) (omega (arith, (whole e).0)))
          ∙ sym (eq-eqb (q * q) n e)
      go (no e) (yes p) (inl z) = absurd (e (back z p))
      go (no e) (yes p) (inr r) =
          ne_eqb (2 * rest + cond (eqb (Q * Q) (n * 4 ^ t)) 0 1) 0 (λ h. omega arith) ∙ sym (ne_eqb (q * q) n e)
      go (no e) (no p) r =
          ne_eqb (2 * rest + cond (eqb (Q * Q) (n * 4 ^ t)) 0 1) 0
          (rw (ne_eqb (Q * Q) (n * 4 ^ t) p) (λ h. omega arith)) ∙ sym (ne_eqb (q * q) n e)

module _ (f : Format) (g t n : ℕ) (lo : 4 ^ (prec f + g) ≤ n) (hi : n < 4 ^ suc (prec f + g)) where
  root_ge : 2 ^ (prec f + g) ≤ isqrt n
  root_ge =
      le_of_suc-le-suc (square-lt (2 ^ (prec f + g)) (suc (isqrt n))
      (lt_of_le_of_lt (le_trans (le_of_eq (sym (four (prec f + g)))) lo) (isqrt-law n).below))

  root-lt : isqrt n < 2 ^ suc (prec f + g)
  root-lt =
      square-lt (isqrt n) (2 ^ suc (prec f + g))
      (lt_of_le_of_lt (isqrt-law n).at_most (lt_of_lt_of_le hi (le_of_eq (four (suc (prec f + g))))))

  larger_ge : 2 ^ (prec f + g + t) ≤ isqrt (n * 4 ^ t)
  unfolding q Q
  larger_ge = le_trans (le_of_eq (pow-add 2 (prec f + g) t)) (le_trans (mul-le-mul_right (2 ^ t) root_ge) (from n t))

  larger-lt : isqrt (n * 4 ^ t) < 2 * 2 ^ (prec f + g + t)
  unfolding q Q
  larger-lt =
      lt_of_lt_of_le (to n t)
      (le_trans (mul-le-mul_right (2 ^ t) root-lt)
      (le_of_eq (ap (λ (z : ℕ). z * 2 ^ t) (pow-succ' 2 (prec f + g)) ∙ mul_assoc 2 (2 ^ (prec f + g)) (2 ^ t)
      ∙ ap (λ (z : ℕ). 2 * z) (sym (pow-add 2 (prec f + g) t)))))

  -- in units of the format's smallest value the whole part is half the larger root
  units-are : sticky (n * 4 ^ t) * 2 ^ low f / (2 * 2 ^ suc (low f)) ≡ isqrt (n * 4 ^ t) / 2
  units-are =
      ap (λ (z : ℕ). sticky (n * 4 ^ t) * 2 ^ low f / (2 * z)) (pow-succ' 2 (low f))
      ∙ ap (λ (z : ℕ). sticky (n * 4 ^ t) * 2 ^ low f / z) (sym (mul_assoc 2 2 (2 ^ low f)))
      ∙ mul-div-mul_right (sticky (n * 4 ^ t)) 4 (pow_pos (low f))
      ∙ quarter (isqrt (n * 4 ^ t)) (eqb (isqrt (n * 4 ^ t) * isqrt (n * 4 ^ t)) (n * 4 ^ t))
    where
      quarter : (k : ℕ) (b : Bool) → (2 * k + cond b 0 1) / 4 ≡ k / 2
      quarter k true = omega arith
      quarter k false = omega arith

  gone : drop (prec f) (sticky (n * 4 ^ t) * 2 ^ low f) (2 * 2 ^ suc (low f)) ≡ g + t
  gone =
      ap (λ (z : ℕ). size z - prec f) units-are
      ∙ ap (λ (z : ℕ). z - prec f) (half-size (prec f + g + t) (isqrt (n * 4 ^ t)) (omega (arith, two f)) larger_ge
      larger-lt)
      ∙ cancel (prec f) g t
    where
      cancel : (p g t : ℕ) → p + g + t - p ≡ g + t
      cancel p g t = omega arith

      half-size : (j k : ℕ) → 1 ≤ j → 2 ^ j ≤ k → k < 2 * 2 ^ j → size (k / 2) ≡ j
      half-size zero k o l h = absurd (omega arith)
      half-size (suc j) k o l h = size_is (k / 2) j (omega (arith, pow-succ' 2 j)) (omega (arith, pow-succ' 2 j))

  left : kept (prec f) (sticky (n * 4 ^ t) * 2 ^ low f) (2 * 2 ^ suc (low f)) ≡ closest (sticky n) (2 ^ (2 + g))
  unfolding q
  left =
      ap (λ (z : ℕ). closest (sticky (n * 4 ^ t) * 2 ^ low f) (2 * 2 ^ suc (low f) * 2 ^ z)) gone
      ∙ ap (closest (sticky (n * 4 ^ t) * 2 ^ low f)) steps
      ∙ closest-scale (sticky (n * 4 ^ t)) (2 * 2 ^ g * (2 * 2 ^ t)) (2 ^ low f)
      (mul-pos (mul-pos (lit< tt) (pow_pos g)) (mul-pos (lit< tt) (pow_pos t)))
      (pow_pos (low f))
      ∙ ap (λ (z : ℕ). closest z (2 * 2 ^ g * (2 * 2 ^ t))) (sticky-split n t)
      ∙ closest-sticky (isqrt n) (2 * 2 ^ t) (more n t) (2 ^ g) (more_lt n t) (pow_pos g)
      ∙ ap (λ (b : Bool). closest (2 * isqrt n + cond b 0 1) (4 * 2 ^ g)) (same_test n t)
      ∙ ap (closest (sticky n)) (sym (pow-add 2 2 g))
    where
      spread : (l a b : ℕ) → 2 * (2 * l) * (a * b) ≡ 2 * a * (2 * b) * l
      spread l a b = omega arith

      steps : 2 * 2 ^ suc (low f) * 2 ^ (g + t) ≡ 2 * 2 ^ g * (2 * 2 ^ t) * 2 ^ low f
      steps =
          ap (λ (z : ℕ). 2 * z * 2 ^ (g + t)) (pow-succ' 2 (low f)) ∙
          ap (λ (z : ℕ). 2 * (2 * 2 ^ low f) * z) (pow-add 2 g t)
          ∙ spread (2 ^ low f) (2 ^ g) (2 ^ t)

  pub root_kept : closest (sticky n) (2 ^ (2 + g)) ≤ 2 ^ prec f
  root_kept =
      closest-le (sticky n) (2 ^ (2 + g)) (2 ^ prec f) (pow_pos (2 + g))
      (lt_of_lt_of_le (few (isqrt n) (eqb (isqrt n * isqrt n) n) root-lt) (le_of_eq (sym steps)))
    where
      few : (k : ℕ) (b : Bool) → k < 2 ^ suc (prec f + g) → 2 * k + cond b 0 1 < 2 * 2 ^ suc (prec f + g)
      few k true h = omega arith
      few k false h = omega arith

      steps : 2 ^ prec f * 2 ^ (2 + g) ≡ 2 * 2 ^ suc (prec f + g)
      steps =
          sym (pow-add 2 (prec f) (2 + g)) ∙ ap (λ (z : ℕ). 2 ^ z) (place (prec f) g) ∙ pow-succ' 2 (suc (prec f + g))
        where
          place : (p g : ℕ) → p + (2 + g) ≡ suc (suc (p + g))
          place p g = omega arith

  pub root-pattern : g + t + 2 ≤ ones f →
      (g + t) * hid f + closest (sticky n) (2 ^ (2 + g)) ≡ to_bits f (root_of f (suc (low f)) (n * 4 ^ t))
  unfolding root_of
  root-pattern room =
      sym (round-bits f false (sticky (n * 4 ^ t)) (2 * 2 ^ suc (low f))
      ∙ zero-add (min (drop (prec f) (sticky (n * 4 ^ t) * 2 ^ low f) (2 * 2 ^ suc (low f)) * hid f + kept (prec f)
      (sticky (n * 4 ^ t) * 2 ^ low f)
      (2 * 2 ^ suc (low f))) (ones f * hid f))
      ∙ ap (λ (z : ℕ). min (z * hid f + kept (prec f) (sticky (n * 4 ^ t) * 2 ^ low f) (2 * 2 ^ suc (low f)))
      (ones f * hid f)) gone
      ∙ ap (λ (z : ℕ). min ((g + t) * hid f + z) (ones f * hid f)) left
      ∙ min-eq_left (fits_in (mul-le-mul_right (hid f) room)))
    where
      fits_in : (g + t + 2) * hid f ≤ ones f * hid f →
          (g + t) * hid f + closest (sticky n) (2 ^ (2 + g)) ≤ ones f * hid f
      fits_in h = omega (arith, root_kept, two-hid f)

-- ---- the root of a value, in units

above_zero : (m : ℕ) (e : ℤ) (u d : ℕ) → 0 < u → m * up e * d ≡ u * down e → m ≢ 0
above_zero m e u d p h z =
    lt_irrefl 0 (subst (λ (k : ℕ). 0 < k)
    (sym h ∙ ap (λ (k : ℕ). k * up e * d) z ∙ ap (λ (k : ℕ). k * d) (zero-mul (up e)) ∙ zero-mul d)
    (mul-pos p (down_pos e)))

pub sqrt-units : (f : Format) (v : Float) (u : ℕ) → HasValue v false u (2 ^ low f) → 0 < u →
    sqrt f v ≡ root_of f (suc (low f)) (u * 2 ^ (low f + 2))
unfolding sqrt
sqrt-units f nan u h p = absurd h
sqrt-units f (inf s) u h p = absurd h
sqrt-units f (fin true m e) u h p = absurd (true≢false h.0)
sqrt-units f (fin false zero e) u h p = absurd (above_zero zero e u (2 ^ low f) p h.1 refl)
sqrt-units f (fin false (suc m) e) u h p =
    let l : 4 ^ suc (low f) ≡ 2 ^ low f * 2 ^ (low f + 2) =
    four (suc (low f)) ∙ ap (λ (z : ℕ). z * 2 ^ suc (low f)) (pow-succ' 2 (low f) ∙ mul_comm 2 (2 ^ low f)) ∙
    mul_assoc (2 ^ low f) 2 (2 ^ suc (low f))
    ∙ ap (λ (z : ℕ). 2 ^ low f * z) (sym (pow-succ' 2 (suc (low f))) ∙ ap (λ (z : ℕ). 2 ^ z) (place (low f))) in
    let x : suc m * up e * 4 ^ suc (low f) ≡ u * 2 ^ (low f + 2) * down e =
    ap (λ (z : ℕ). suc m * up e * z) l ∙ sym (mul_assoc (suc m * up e) (2 ^ low f) (2 ^ (low f + 2))) ∙
    ap (λ (z : ℕ). z * 2 ^ (low f + 2)) h.1
    ∙ mul_right_comm u (down e) (2 ^ (low f + 2)) in
    ap (λ (z : ℕ). root_of f (suc (low f)) (z / down e)) x ∙
    ap (root_of f (suc (low f))) (mul-div_cancel (u * 2 ^ (low f + 2)) (down_pos e))
  where
    place : (l : ℕ) → suc (suc l) ≡ l + 2
    place l = omega arith

-- ---- normalising: d has its leading digit at place 52 after the shift, and an odd exponent gives one digit more

pub record Normal (d : ℕ) : Type 0 where
  pub enough : 11 ≤ count_leading_zeros 64 d
  pub few : count_leading_zeros 64 d - 11 ≤ 52
  pub from : 2 ^ 52 ≤ d * 2 ^ (count_leading_zeros 64 d - 11)
  pub to : d * 2 ^ (count_leading_zeros 64 d - 11) < 2 ^ 53

pub normal : (d : ℕ) → 0 < d → d < 2 ^ 53 → Normal d
normal d p h =
    let t = leading_top 64 d p (lt_of_lt_of_le h (lit≤ tt)) in
    let j = t.0 in
    let e : count_leading_zeros 64 d + suc j ≡ 64 = t.1 in
    let j-lt : j < 53 = pow-lt_inv j 53 (lt_of_le_of_lt t.2 h) in
    let s = count_leading_zeros 64 d - 11 in
    let a : j + s ≡ 52 = omega arith in
    let b : suc j + s ≡ 53 = omega arith in
    record {
      enough = omega arith;
      few = omega arith;
      from = le_trans (le_of_eq (sym (ap (λ (z : ℕ). 2 ^ z) a) ∙ pow-add 2 j s)) (mul-le-mul_right (2 ^ s) t.2);
      to =
          lt_of_lt_of_le (mul-lt-mul_of_pos_right t.3 (pow_pos s))
          (le_of_eq (sym (pow-add 2 (suc j) s) ∙ ap (λ (z : ℕ). 2 ^ z) b));
    }

pub normal-same : (d s e : ℕ) → s ≤ e → d * 2 ^ s * 2 ^ ((e - s) % 2) * 4 ^ ((e - s) / 2) ≡ d * 2 ^ e
normal-same d s e l =
    let r = (e - s) % 2 in
    let h = (e - s) / 2 in
    let p : s + (r + (h + h)) ≡ e = omega arith in
    ap (λ (k : ℕ). d * 2 ^ s * 2 ^ r * k) (four h ∙ sym (pow-add 2 h h)) ∙ mul_assoc (d * 2 ^ s) (2 ^ r) (2 ^ (h + h))
    ∙ ap (λ (k : ℕ). d * 2 ^ s * k) (sym (pow-add 2 r (h + h)))
    ∙ mul_assoc d (2 ^ s) (2 ^ (r + (h + h))) ∙
    ap (λ (k : ℕ). d * k) (sym (pow-add 2 s (r + (h + h))) ∙ ap (λ (k : ℕ). 2 ^ k) p)

-- a digit more or none
pub once_more : (a k : ℕ) → (a * 2 ^ (k % 2) ≡ a) ⊎ (a * 2 ^ (k % 2) ≡ 2 * a)
once_more a k = go (k % 2) (mod-lt k (lit< tt))
  where
    go : (r : ℕ) → r < 2 → (a * 2 ^ r ≡ a) ⊎ (a * 2 ^ r ≡ 2 * a)
    go zero h = inl (mul-one a)
    go (suc zero) h = inr (mul_comm a 2)
    go (suc (suc r)) h = absurd (omega arith)

-- ---- a whole root with and without a rest

pub sticky_exact : (n q : ℕ) → q * q ≡ n → 2 * q ≡ sticky n
sticky_exact n q e =
    let u : q ≡ isqrt n = root_unique n q (record { at_most = le_of_eq e; below = omega arith }) in
    let t : isqrt n * isqrt n ≡ n = ap (λ (z : ℕ). z * z) (sym u) ∙ e in
    rw (eq-eqb (isqrt n * isqrt n) n t) (ap (λ (z : ℕ). 2 * z) u ∙ sym (add-zero (2 * isqrt n)))

pub sticky-rest : (n q : ℕ) → Root n q → q * q ≢ n → 2 * q + 1 ≡ sticky n
sticky-rest n q r e =
    let u : q ≡ isqrt n = root_unique n q r in
    rw (ne_eqb (isqrt n * isqrt n) n (λ (t : isqrt n * isqrt n ≡ n). e (ap (λ (z : ℕ). z * z) u ∙ t)))
    (ap (λ (z : ℕ). 2 * z + 1) u)

-- ---- a root of twice the digits, by a division: s is the root of n, and the lower half is what is left over b times,
-- divided by 2 s

unfoldable pub lower : ℕ → ℕ → ℕ → ℕ
lower n s b = (n - s * s) * b / (2 * s)

unfoldable pub over : ℕ → ℕ → ℕ → ℕ
over n s b = (n - s * s) * b % (2 * s) * b

unfoldable pub whole-root : ℕ → ℕ → ℕ → ℕ
unfolding lower
whole-root n s b = s * b + lower n s b

module _ (n s b : ℕ) (r : Root n s) (wide : b ≤ 2 * s) (B : 0 < b) where
  pub lower-le : lower n s b ≤ b
  unfolding lower
  lower-le =
      let l : n - s * s ≤ 2 * s = omega (arith, r.below) in
      native.Mathlib.Nat.div-le_of_le-mul (2 * s) (mul-le-mul_right b l)

  pub over-lt : over n s b < 2 * s * b
  unfolding over
  over-lt = mul-lt-mul_of_pos_right (mod-lt ((n - s * s) * b) (lt_of_lt_of_le B wide)) B

  -- the square of the number found, and what it leaves over or lacks
  balance : n * (b * b) + lower n s b * lower n s b ≡ whole-root n s b * whole-root n s b + over n s b
  unfolding lower over whole-root
  balance =
      let d = n - s * s in
      let p : d + s * s ≡ n = omega (arith, r.at_most) in
      let e : d * b / (2 * s) * (2 * s) + d * b % (2 * s) ≡ d * b = div-add-mod' (d * b) (2 * s) in
      put-together d (d * b / (2 * s)) (d * b % (2 * s)) p (ap (λ (z : ℕ). z * b) e)
    where
      put-together : (d l u : ℕ) → d + s * s ≡ n → (l * (2 * s) + u) * b ≡ d * b * b →
          n * (b * b) + l * l ≡ (s * b + l) * (s * b + l) + u * b
      put-together d l u p e =
          let a : n * (b * b) ≡ d * b * b + s * s * (b * b) =
          ap (λ (z : ℕ). z * (b * b)) (sym p) ∙ native.Mathlib.Nat.add-mul d (s * s) (b * b)
          ∙ ap (λ (z : ℕ). z + s * s * (b * b)) (sym (mul_assoc d b b)) in
          omega arith

  -- the three ways in which the rest compares with the lower half's square
  pub wide_exact : over n s b ≡ lower n s b * lower n s b → 2 * whole-root n s b ≡ sticky (n * (b * b))
  wide_exact e = sticky_exact (n * (b * b)) (whole-root n s b) (omega (arith, balance, e))

  pub wide-above : lower n s b * lower n s b < over n s b → 2 * whole-root n s b + 1 ≡ sticky (n * (b * b))
  unfolding whole-root
  wide-above l =
      sticky-rest (n * (b * b)) (s * b + lower n s b)
      (record { at_most = omega (arith, balance, l); below = omega (arith, balance, l, over-lt) })
      (λ (e : (s * b + lower n s b) * (s * b + lower n s b) ≡ n * (b * b)). omega (arith, balance, l))

  pub wide_below : over n s b < lower n s b * lower n s b → 2 * whole-root n s b - 1 ≡ sticky (n * (b * b))
  unfolding whole-root
  wide_below l = go (lower n s b) refl
    where
      go : (k : ℕ) → k ≡ lower n s b → 2 * (s * b + lower n s b) - 1 ≡ sticky (n * (b * b))
      go zero z = absurd (omega (arith, l, ap (λ (x : ℕ). x * x) z))
      go (suc k) e =
          let f : n * (b * b) + suc k * suc k ≡ (s * b + suc k) * (s * b + suc k) + over n s b =
          subst (λ (x : ℕ). n * (b * b) + x * x ≡ (s * b + x) * (s * b + x) + over n s b) (sym e) balance in
          let g : over n s b < suc k * suc k = subst (λ (x : ℕ). over n s b < x * x) (sym e) l in
          let h : suc k ≤ b = subst (λ (x : ℕ). x ≤ b) (sym e) lower-le in
          let m : suc k * suc k ≤ 2 * s * b = le_trans (mul-le-mul h h) (mul-le-mul_right b wide) in
          let d : 2 * (s * b + lower n s b) - 1 ≡ 2 * (s * b + k) + 1 = omega arith in
          d ∙ sticky-rest (n * (b * b)) (s * b + k) (record { at_most = omega arith; below = omega arith })
          (λ (t : (s * b + k) * (s * b + k) ≡ n * (b * b)). omega arith)

pub sticky-lt : (n a : ℕ) → n < a * a → sticky n < 2 * a
sticky-lt n a h = go (isqrt n) (eqb (isqrt n * isqrt n) n) (root_below n (isqrt n) a (isqrt-law n) h)
  where
    go : (q : ℕ) (b : Bool) → q < a → 2 * q + cond b 0 1 < 2 * a
    go q true l = omega arith
    go q false l = omega arith

-- ---- the cases of a bit pattern w

module _ (f : Format) (w : ℕ) (W : w < 2 * top f) where
  zero-own : w % top f ≡ 0 → w ≡ to_bits f (sqrt f (of_bits f w))
  unfolding of_bits of_fields odd sqrt
  zero-own z =
      let x : w % top f / hid f ≡ 0 = ap (λ (k : ℕ). k / hid f) z ∙ zero-div (hid f) in
      let t : w % hid f ≡ 0 = sym (mod-mod_of_dvd (hid f) w (dvd-mul_right (hid f) (suc (ones f)))) ∙
      ap (λ (k : ℕ). k % hid f) z ∙ zero-mod (hid f) in
      let v : of_bits f w ≡ fin (leb (top f) w) 0 (pos 0) = ap (λ (k : ℕ). of_fields f (leb (top f) w) k
      (w % hid f)) x ∙
      ap (of_fields f (leb (top f) w) 0) t in
      sym (ap (λ (y : Float). to_bits f (sqrt f y)) v ∙ ap (to_bits f) (sym v)
      ∙ to_bits-of_bits f w W (subst (λ (y : Float). T (not (is_nan y))) (sym v) (unfold is_nan in tt)))

  infinity-own : w ≡ ones f * hid f → w ≡ to_bits f (sqrt f (of_bits f w))
  unfolding sqrt to_bits
  infinity-own e =
      let below : w < top f = no_sign f w (le_of_eq e) in
      let v : of_bits f w ≡ inf false = inf_bits f w (mod-eq_of_lt below ∙ e) ∙ ap inf (lt-leb (top f) w below) in
      e ∙ sym (ap (λ (y : Float). to_bits f (sqrt f y)) v ∙ zero-add (ones f * hid f))

  -- a zero and the infinity are their own roots
  pub sqrt-own : (w % top f ≡ 0) ⊎ (w ≡ ones f * hid f) → w ≡ to_bits f (sqrt f (of_bits f w))
  sqrt-own (inl z) = zero-own z
  sqrt-own (inr e) = infinity-own e

  -- below zero, or a NaN
  pub sqrt-none : w % top f ≢ 0 → ones f * hid f < w → to_bits f nan ≡ to_bits f (sqrt f (of_bits f w))
  unfolding sqrt
  sqrt-none n h = ap (to_bits f) (sym (none (of_bits f w) (past_infinity f w h) no_zero))
    where
      none : (y : Float) → (y ≡ nan) ⊎ (negative y ≡ true) → ((s : Bool) (e : ℤ) → y ≡ fin s 0 e → ⊥) → sqrt f y ≡ nan
      none y (inl e) z = rw e
      none nan (inr e) z = refl
      none (inf s) (inr e) z = rw e
      none (fin s zero x) (inr e) z = absurd (z s x refl)
      none (fin s (suc m) x) (inr e) z = rw e

      zero_bits : (s : Bool) (e : ℤ) → to_bits f (fin s 0 e) ≡ cond s (top f) 0
      zero_bits s e =
          to_bits-value f (fin s 0 e) s 0 (
            refl,
            ap (λ (k : ℕ). k * 2 ^ low f) (zero-mul (up e)) ∙ zero-mul (2 ^ low f) ∙
                sym (zero-mul (down e)),
          )
          ∙ ap (λ (k : ℕ). cond s (top f) 0 + k)
          (pattern-at f 0 0 (zero-le, inl refl) ∙ ap (λ (k : ℕ). k + 0) (zero-mul (hid f)))
          ∙ add-zero (cond s (top f) 0)

      remains : (s : Bool) → cond s (top f) 0 % top f ≡ 0
      remains true = mod_self (top f)
      remains false = zero-mod (top f)

      no_zero : (s : Bool) (e : ℤ) → of_bits f w ≡ fin s 0 e → ⊥
      no_zero s e v =
          let known : T (not (is_nan (of_bits f w))) = rw v (unfold is_nan in tt) in
          n (ap (λ (k : ℕ). k % top f) (sym (to_bits-of_bits f w W known) ∙ ap (to_bits f) v ∙ zero_bits s e)
          ∙ remains s)

module _ (f : Format) (w : ℕ) (n : w % top f ≢ 0) where
  finite-root : w < ones f * hid f → sqrt f (of_bits f w) ≡ root_of f (suc (low f)) (magnitude f w * 2 ^ (low f + 2))
  finite-root F = sqrt-units f (of_bits f w) (magnitude f w) (decode-plain f w F) (magnitude-pos f w above_zero)
    where
      above_zero : 0 < w
      above_zero =
          elim (eq-zero-or-pos w) [ inl z ↦ absurd (n (ap (λ (k : ℕ). k % top f) z ∙ zero-mod (top f))) | inr l ↦ l ]

  pub sqrt_subnormal : w < ones f * hid f → w < hid f →
      to_bits f (root_of f (suc (low f)) (w * 2 ^ (low f + 2))) ≡ to_bits f (sqrt f (of_bits f w))
  sqrt_subnormal F h =
      sym (ap (to_bits f) (finite-root F ∙
      ap (λ (u : ℕ). root_of f (suc (low f)) (u * 2 ^ (low f + 2))) (magnitude-small f w h)))

  pub sqrt-normal : w < ones f * hid f → hid f ≤ w
      → to_bits f (root_of f (suc (low f)) ((hid f + w % hid f) * 2 ^ (w / hid f + (low f + 1)))) ≡
      to_bits f (sqrt f (of_bits f w))
  sqrt-normal F h =
      let x : 1 ≤ w / hid f = (le-div_iff_mul-le (hid-pos f)).1 (subst (λ (k : ℕ). k ≤ w) (sym (one-mul (hid f))) h) in
      let e : w / hid f - 1 + (low f + 2) ≡ w / hid f + (low f + 1) = omega arith in
      let u : magnitude f w * 2 ^ (low f + 2) ≡ (hid f + w % hid f) * 2 ^ (w / hid f + (low f + 1)) =
      ap (λ (k : ℕ). k * 2 ^ (low f + 2)) (magnitude-large f w h) ∙
      mul_assoc (hid f + w % hid f) (2 ^ (w / hid f - 1)) (2 ^ (low f + 2))
      ∙ ap (λ (k : ℕ). (hid f + w % hid f) * k) (sym (pow-add 2 (w / hid f - 1) (low f + 2)) ∙ ap (λ (k : ℕ). 2 ^ k) e)
      in
      sym (ap (to_bits f) (finite-root F ∙ ap (root_of f (suc (low f))) u))
