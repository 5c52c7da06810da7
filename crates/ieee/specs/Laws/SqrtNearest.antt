-- The square root of Sqrt.antt is a nearest value of the format to the root, ties to even. In units of the format's
-- smallest value 2 ^ -low, the root of u units is the root of the whole number u * 2 ^ low, so it is compared by
-- squares. Over the format. Assumes nothing.
use Rattle.std.specs.Prelude.{ℕ, zero, suc, ◌+◌, ◌*◌, ◌/◌, ◌%◌, ◌^◌, ◌≤◌, ◌<◌, ◌≡◌, refl, Bool, true, cond, ◌≢◌, ℤ}
use Rattle.std.specs.Prelude.{pos, T, eqb, Float}
use Rattle.std.proofs.Common.{sym, ◌∙◌, ap, subst, true≢false, le_trans, le_of_eq, pos_of_ne-zero, one-mul, le_of_lt}
use Rattle.std.proofs.Common.{lt_of_lt_of_le, lt_of_le_of_lt, lt_of_not-le, mul-one, zero-mul, mul-pos, mul-le-mul}
use Rattle.std.proofs.Common.{mul-le-mul_right, mul-lt-mul_of_pos_right, le_of_mul-le-mul_right, mul-div_cancel}
use Rattle.std.proofs.Common.{arith, lit≤, pow_pos, eq-eqb, eqb-true}
use Rattle.std.proofs.Math.Bool.{false}
use Rattle.std.proofs.Math.Nat.{eq_of_mul-eq-mul_right, pow-succ'}
use Rattle.std.proofs.Math.Decide.{dec_le}
use Rattle.std.specs.Float.{Format, binary32, binary64, nan, inf, fin}
use Rattle.std.specs.Float.Ieee.{emax, low, up, down, round, to_bits, fits}
use Rattle.std.specs.Float.Ieee.Exact.{HasValue}
use Rattle.std.specs.Float.Ieee.Fits.{down_pos, round-fits}
use Rattle.std.specs.Float.Ieee.Scale.{grid, overflow, round_val}
use Rattle.ieee.specs.Sqrt.{isqrt, root_of, sqrt}
use Rattle.ieee.specs.Laws.SqrtLaws.{Root, isqrt-law, root_unique}
use Rattle.ieee.specs.Laws.NearestLaws.{held, overflow-units, held-units}
use Rattle.ieee.specs.Laws.NearestLaws.{nearest-above, nearest-below, nearest-even}

-- r is a value of the format, and none is nearer to the root of u units, which is the root of u * 2 ^ low in units: r
-- is `units` units, and against a value of h units the middle of the two, (units + h) / 2, is compared with the root by
-- squares. The root is not beyond it on h's side, and where it is at it, r's bit pattern is even.
pub record NearestRoot (f : Format) (u : ℕ) (r : Float) : Type 0 where
  pub in_format : T (fits f r)
  pub units : ℕ
  pub value : HasValue r false units (2 ^ low f)
  pub above : (y : Float) (h : ℕ) → T (fits f y) → HasValue y false h (2 ^ low f) → units < h →
      4 * (u * 2 ^ low f) ≤ (units + h) * (units + h)
  pub below : (y : Float) (h : ℕ) → T (fits f y) → HasValue y false h (2 ^ low f) → h < units →
      (units + h) * (units + h) ≤ 4 * (u * 2 ^ low f)
  pub even : (y : Float) (h : ℕ) → T (fits f y) → HasValue y false h (2 ^ low f) → h ≢ units →
      (units + h) * (units + h) ≡ 4 * (u * 2 ^ low f)
      → to_bits f r % 2 ≡ 0

-- ---- a whole number t against the root of n, by the whole root q: what q leaves over counts as a half

abbrev rest : ℕ → ℕ → ℕ
rest n q = cond (eqb (q * q) n) 0 1

module _ (n q t : ℕ) (R : Root n q) where
  root-above : 2 * q + rest n q ≤ 2 * t → n ≤ t * t
  root-above = go (eqb (q * q) n) (eqb-true (q * q) n)
    where
      go : (b : Bool) → (b ≡ true → q * q ≡ n) → 2 * q + cond b 0 1 ≤ 2 * t → n ≤ t * t
      go true e l = let m : q ≤ t = omega arith in le_trans (le_of_eq (sym (e refl))) (mul-le-mul m m)
      go false e l = let m : suc q ≤ t = omega arith in le_of_lt (lt_of_lt_of_le R.below (mul-le-mul m m))

  root_below : 2 * t ≤ 2 * q + rest n q → t * t ≤ n
  root_below l = let m : t ≤ q = go (eqb (q * q) n) l in le_trans (mul-le-mul m m) R.at_most
    where
      go : (b : Bool) → 2 * t ≤ 2 * q + cond b 0 1 → t ≤ q
      go true l = omega arith
      go false l = omega arith

  root-level : t * t ≡ n → 2 * q + rest n q ≡ 2 * t
  root-level e =
      let same : q ≡ t = root_unique n q R ∙
      sym (root_unique n t (record { at_most = le_of_eq e; below = omega arith })) in
      rw (eq-eqb (q * q) n (ap (λ (z : ℕ). z * z) same ∙ e)) (omega arith)

-- ---- the root's fraction, in units

four-pow : (k : ℕ) → 4 ^ k ≡ 2 ^ k * 2 ^ k
four-pow zero = refl
four-pow (suc k) =
    let a : 4 ^ suc k ≡ 4 * 4 ^ k = pow-succ' 4 k in
    let b : 2 ^ suc k ≡ 2 * 2 ^ k = pow-succ' 2 k in
    let c : 4 ^ k ≡ 2 ^ k * 2 ^ k = four-pow k in
    rw (a, b, c) (omega arith)

-- the number whose whole root is taken: that root is in halves of a unit
in_halves : (f : Format) (m : ℕ) (e : ℤ) (u : ℕ) → m * up e * 2 ^ low f ≡ u * down e →
    m * up e * 4 ^ suc (low f) / down e ≡ 4 * (u * 2 ^ low f)
in_halves f m e u h =
    ap (λ (z : ℕ). z / down e) (go (2 ^ low f) (4 ^ suc (low f)) (m * up e) (down e) h
    (pow-succ' 4 (low f) ∙ ap (λ (z : ℕ). 4 * z) (four-pow (low f))))
    ∙ mul-div_cancel (4 * (u * 2 ^ low f)) (down_pos e)
  where
    go : (l k x d : ℕ) → x * l ≡ u * d → k ≡ 4 * (l * l) → x * k ≡ 4 * (u * l) * d
    go l k x d h p =
        let a : x * k ≡ x * (4 * (l * l)) = ap (λ (z : ℕ). x * z) p in
        let b : x * l * l ≡ u * d * l = ap (λ (z : ℕ). z * l) h in
        omega arith

-- the fraction that is rounded, a / den, is a / 4 units: against t / 2 units
abbrev den : Format → ℕ
den f = 2 * 2 ^ suc (low f)

den_pos : (f : Format) → 0 < den f
den_pos f = mul-pos (lit≤ tt) (pow_pos (suc (low f)))

scale : (f : Format) (t : ℕ) → t * den f ≡ 2 * (2 * t * 2 ^ low f)
scale f t =
    let e : 2 ^ suc (low f) ≡ 2 * 2 ^ low f = pow-succ' 2 (low f) in
    rw e (omega arith)

module _ (f : Format) (a t : ℕ) where
  fraction-above : 2 * (a * 2 ^ low f) ≤ t * den f → a ≤ 2 * t
  fraction-above l = le_of_mul-le-mul_right (omega (arith, scale f t)) (pow_pos (low f))

  fraction-below : t * den f ≤ 2 * (a * 2 ^ low f) → 2 * t ≤ a
  fraction-below l = le_of_mul-le-mul_right (omega (arith, scale f t)) (pow_pos (low f))

  fraction-level : a ≡ 2 * t → t * den f ≡ 2 * (a * 2 ^ low f)
  fraction-level e = scale f t ∙ ap (λ (z : ℕ). 2 * (z * 2 ^ low f)) (sym e)

-- ---- the root is far below the limit

-- the largest power of two in the format
power : (f : Format) → T (fits f (fin false 1 (pos (emax f))))
unfolding fits
power binary32 = tt
power binary64 = tt

two-le : (f : Format) → 2 ≤ 2 ^ emax f
two-le binary32 = lit≤ tt
two-le binary64 = lit≤ tt

-- with E * L for it, and 2 * E * L for the limit: a root g of u units is not above it
too_large : (g E L u : ℕ) → 0 < L → 2 ≤ E → u < 2 * E * L → (g + E * L) * (g + E * L) ≤ 4 * (u * L) → E * L < g → ⊥
too_large g E L u P e l s h =
    let m : 2 * (E * L) ≤ g + E * L = omega arith in
    let a : 2 * (E * L) * (2 * (E * L)) ≤ (g + E * L) * (g + E * L) = mul-le-mul m m in
    let b : 2 * (E * L * L) ≤ E * (E * L * L) = mul-le-mul_right (E * L * L) e in
    let c : u * L < 2 * E * L * L = mul-lt-mul_of_pos_right l P in
    omega arith

-- ---- the root of u units is nearest

module _ (f : Format) (u : ℕ) where
  abbrev four : ℕ
  four = 4 * (u * 2 ^ low f)

  abbrev halves : ℕ
  halves = 2 * isqrt four + rest four (isqrt four)

  abbrev result : ℕ
  result = grid f halves (den f)

  module _ (y : Float) (h : ℕ) (F : T (fits f y)) (v : HasValue y false h (2 ^ low f)) where
    squares-above : result < h → four ≤ (result + h) * (result + h)
    squares-above l =
        root-above four (isqrt four) (result + h) (isqrt-law four)
        (fraction-above f halves (result + h) (nearest-above f halves (den f) h y (den_pos f) F v l))

    squares-below : h < result → (result + h) * (result + h) ≤ four
    squares-below l =
        root_below four (isqrt four) (result + h) (isqrt-law four)
        (fraction-below f halves (result + h) (nearest-below f halves (den f) h y (den_pos f) F v l))

    squares-level : h ≢ result → (result + h) * (result + h) ≡ four → to_bits f (round f false halves (den f)) % 2 ≡ 0
    squares-level ne e =
        nearest-even f halves (den f) h y (den_pos f) F v ne
        (fraction-level f halves (result + h) (root-level four (isqrt four) (result + h) (isqrt-law four) e))

  -- the result is finite
  small : u < overflow f → result < overflow f
  small l = go (dec_le result (2 ^ emax f * 2 ^ low f))
    where
      twice : overflow f ≡ 2 * 2 ^ emax f * 2 ^ low f
      twice = overflow-units f ∙ ap (λ (z : ℕ). z * 2 ^ low f) (pow-succ' 2 (emax f))

      value : HasValue (fin false 1 (pos (emax f))) false (2 ^ emax f * 2 ^ low f) (2 ^ low f)
      value = (refl, ap (λ (z : ℕ). z * 2 ^ low f) (one-mul (2 ^ emax f)) ∙ sym (mul-one (2 ^ emax f * 2 ^ low f)))

      go : Dec (result ≤ 2 ^ emax f * 2 ^ low f) → result < overflow f
      go (yes a) = lt_of_le_of_lt a (omega (arith, twice, mul-pos (pow_pos (emax f)) (pow_pos (low f))))
      go (no b) =
          absurd (too_large result (2 ^ emax f) (2 ^ low f) u (pow_pos (low f)) (two-le f)
          (subst (λ (z : ℕ). u < z) twice l)
          (squares-below (fin false 1 (pos (emax f))) (2 ^ emax f * 2 ^ low f) (power f) value (lt_of_not-le b))
          (lt_of_not-le b))

  root-nearest : u < overflow f → NearestRoot f u (root_of f (suc (low f)) four)
  unfolding root_of
  root-nearest l =
      record {
        in_format = round-fits f false halves (den f);
        units = result;
        value = round_val f halves (den f) (small l);
        above = squares-above;
        below = squares-below;
        even = squares-level;
      }

-- ---- the root of a value

zero-root : (f : Format) (r : Float) → T (fits f r) → HasValue r false 0 (2 ^ low f) → NearestRoot f 0 r
zero-root f r F v =
    record {
      in_format = F;
      units = 0;
      value = v;
      above = λ y h p w l. omega arith;
      below = λ y h p w l. absurd (omega arith);
      even = λ y h p w ne e. absurd (omega (arith, mul-pos (pos_of_ne-zero ne) (pos_of_ne-zero ne)));
    }

-- x is finite and not negative, of u units
pub sqrt-nearest : (f : Format) (x : Float) (u : ℕ) → T (fits f x) → HasValue x false u (2 ^ low f) →
    NearestRoot f u (sqrt f x)
unfolding sqrt
sqrt-nearest f nan u F v = absurd v
sqrt-nearest f (inf s) u F v = absurd v
sqrt-nearest f (fin true m e) u F v = absurd (true≢false v.0)
sqrt-nearest f (fin false zero e) u F v =
    let z : u ≡ 0 =
    eq_of_mul-eq-mul_right (down e) (down_pos e) u 0
    (sym v.1 ∙ ap (λ (x : ℕ). x * 2 ^ low f) (zero-mul (up e)) ∙ zero-mul (2 ^ low f) ∙ sym (zero-mul (down e))) in
    subst (λ (x : ℕ). NearestRoot f x (fin false zero e)) (sym z)
    (zero-root f (fin false zero e) F (subst (λ (x : ℕ). HasValue (fin false zero e) false x (2 ^ low f)) z v))
sqrt-nearest f (fin false (suc m) e) u F v =
    subst (λ (z : ℕ). NearestRoot f u (root_of f (suc (low f)) z)) (sym (in_halves f (suc m) e u v.1))
    (root-nearest f u (held-units f (suc m) e u (held f false (suc m) e F) v.1))
