-- `round` gives a nearest value of the format, ties to even. In units of the format's smallest value 2 ^ -low the
-- fraction is num * 2 ^ low / den, and its rounding is `grid f num den`. A value of h units is no nearer, which is said
-- by the middle of the two, (grid + h) / 2: the fraction does not lie beyond it, on h's side. Where it lies at the
-- middle, the result's bit pattern is even. Over the format. Assumes nothing.
use Prim.Native.Nat.{ℕ, zero, suc, ◌+◌, ◌-◌, ◌*◌, ◌/◌, ◌%◌, ◌^◌, ◌≤◌, ◌<◌, min, compare, Ordering}
use Rattle.std.specs.Prelude.{◌≡◌, refl, Bool, false, ◌&&◌, ◌≢◌, ◌⊎◌, ℤ, pos, negsuc, T, ltb, leb, eqb, Float}
use Rattle.std.proofs.Common.{sym, ◌∙◌, ap, subst, inl, inr, le_trans, le_of_eq, le_of_lt, le_of_suc-le-suc}
use Rattle.std.proofs.Common.{lt_of_lt_of_le, lt_of_le_of_lt, lt_of_not-le, not-le_of_lt, eq-zero-or-pos, mul-one}
use Rattle.std.proofs.Common.{one-mul, zero-mul, mul_assoc, mul_comm, mul_left_comm, mul-pos, mul-le-mul_right}
use Rattle.std.proofs.Common.{mul-lt-mul_of_pos_right, lt_of_mul-lt-mul_right, div-add-mod', le-div_iff_mul-le}
use Rattle.std.proofs.Common.{mod-lt, arith, ltb→lt, leb→le, eqb→eq, pow_pos, pow-add}
use Rattle.std.proofs.Math.Nat.{lt_of_mul-lt-mul_left, eq_of_mul-eq-mul_right, pow-succ', div-div-eq-div-mul}
use Rattle.std.proofs.Math.Decide.{dec_le}
use Rattle.std.proofs.Math.Arith.{lt_of_le-ne}
use Rattle.std.specs.Float.{Format, binary32, binary64, nan, inf, fin}
use Rattle.std.specs.Float.Ieee.{prec, emax, low, hid, ones, up, down, size, nearest, round, to_bits, fits}
use Rattle.std.specs.Float.Ieee.Digits.{size_reaches, back}
use Rattle.std.specs.Float.Ieee.Exact.{HasValue}
use Rattle.std.specs.Float.Ieee.Fits.{two, up_pos, down_pos, and_l, and_r, nearest-le}
use Rattle.std.specs.Float.Ieee.Nearest.{nearest-ge}
use Rattle.std.specs.Float.Ieee.Order.{drop, kept}
use Rattle.std.specs.Float.Ieee.Scale.{grid, overflow}
use Rattle.ieee.specs.Laws.Patterns.{two-hid, pow-le_inv, pow-lt_inv}
use Rattle.ieee.specs.Laws.Rounding.{Cmp, cmp, round-bits}

-- ---- the values of a format

-- what `fits` says of m * 2 ^ e: m has at most prec digits, the exponent is not too low, and the value is below 2 ^
-- (emax + 1)
pub record Held (f : Format) (m : ℕ) (e : ℤ) : Type 0 where
  pub digits : m < 2 ^ prec f
  pub places : down e ≤ 2 ^ low f
  pub limit : m * up e < 2 ^ suc (emax f) * down e

pub held : (f : Format) (s : Bool) (m : ℕ) (e : ℤ) → T (fits f (fin s m e)) → Held f m e
unfolding fits
held f s zero e t =
    record {
      digits = pow_pos (prec f);
      places = le_trans one (pow_pos (low f));
      limit =
          subst (λ (z : ℕ). z < 2 ^ suc (emax f) * down e) (sym (zero-mul (up e)))
          (mul-pos (pow_pos (suc (emax f))) (down_pos e));
    }
  where
    one : down e ≤ 1
    one =
        subst (λ (z : ℕ). z ≤ 1) (one-mul (down e))
        (le_trans (mul-le-mul_right (down e) (up_pos e)) (le_of_eq (eqb→eq (up e * down e) 1 t)))
held f s (suc m) e t =
    record {
      digits = ltb→lt (suc m) (2 ^ prec f) (and_r a b (and_l (a && b) c l));
      places = leb→le (down e) (2 ^ low f) (and_r (a && b) c l);
      limit = ltb→lt (suc m * up e) (2 ^ suc (emax f) * down e) (and_r (a && b && c) d t);
    }
  where
    a : Bool
    a = eqb (suc m % 2) 1

    b : Bool
    b = ltb (suc m) (2 ^ prec f)

    c : Bool
    c = leb (down e) (2 ^ low f)

    d : Bool
    d = ltb (suc m * up e) (2 ^ suc (emax f) * down e)

    l : T (a && b && c)
    l = and_l (a && b && c) d t

-- in units it is below the format's limit
pub overflow-units : (f : Format) → overflow f ≡ 2 ^ suc (emax f) * 2 ^ low f
overflow-units f = pow-add 2 (low f) (suc (emax f)) ∙ mul_comm (2 ^ low f) (2 ^ suc (emax f))

pub held-units : (f : Format) (m : ℕ) (e : ℤ) (u : ℕ) → Held f m e → m * up e * 2 ^ low f ≡ u * down e → u < overflow f
held-units f m e u H v =
    let a : m * up e * 2 ^ low f < 2 ^ suc (emax f) * down e * 2 ^ low f =
    mul-lt-mul_of_pos_right H.limit (pow_pos (low f)) in
    subst (λ (z : ℕ). u < z) (sym (overflow-units f)) (lt_of_mul-lt-mul_right (down e) (omega arith))

-- in units it is its digits times a power of two
pub held-shift : (f : Format) (m : ℕ) (e : ℤ) → Held f m e → (i : ℕ) × (m * up e * 2 ^ low f ≡ m * 2 ^ i * down e)
held-shift f m (pos j) H = (
  j + low f,
  mul_assoc m (2 ^ j) (2 ^ low f) ∙ ap (λ (z : ℕ). m * z) (sym (pow-add 2 j (low f))) ∙ sym
      (mul-one (m * 2 ^ (j + low f))),
)
held-shift f m (negsuc j) H =
    let i = low f - suc j in
    let enough : suc j ≤ low f = pow-le_inv (suc j) (low f) H.places in
    let split : 2 ^ low f ≡ 2 ^ i * 2 ^ suc j =
    ap (λ (z : ℕ). 2 ^ z) (sym (back (low f) (suc j) enough)) ∙ pow-add 2 i (suc j) in
    (i, ap (λ (z : ℕ). z * 2 ^ low f) (mul-one m) ∙ ap (λ (z : ℕ). m * z) split ∙ sym (mul_assoc m (2 ^ i) (2 ^ suc j)))

-- so a value of the format that is h units has h of at most prec digits times a power of two
shape : (f : Format) (y : Float) (s : Bool) (h : ℕ) → T (fits f y) → HasValue y s h (2 ^ low f)
    → (m : ℕ) × (i : ℕ) × (m < 2 ^ prec f) × (h ≡ m * 2 ^ i)
shape f nan s h F v = absurd v
shape f (inf t) s h F v = absurd v
shape f (fin t m e) s h F v =
    let H = held f t m e F in
    let (i, is) = held-shift f m e H in
    (m, i, H.digits, eq_of_mul-eq-mul_right (down e) (down_pos e) h (m * 2 ^ i) (sym v.1 ∙ is))

-- so from hid * 2 ^ k units on it is a multiple of 2 ^ k
grid_multiple : (f : Format) (y : Float) (s : Bool) (h k : ℕ) → T (fits f y) → HasValue y s h (2 ^ low f)
    → hid f * 2 ^ k ≤ h → (c : ℕ) × (h ≡ c * 2 ^ k)
grid_multiple f y s h k F v l =
    let (m, i, d, e) = shape f y s h F v in
    let a : m * 2 ^ i < hid f * 2 ^ suc i =
    lt_of_lt_of_le (mul-lt-mul_of_pos_right d (pow_pos i))
    (le_of_eq (ap (λ (z : ℕ). z * 2 ^ i) (two-hid f) ∙ mul_assoc 2 (hid f) (2 ^ i) ∙ mul_left_comm 2 (hid f) (2 ^ i)
    ∙ ap (λ (z : ℕ). hid f * z) (sym (pow-succ' 2 i)))) in
    let b : k < suc i =
    pow-lt_inv k (suc i) (lt_of_mul-lt-mul_left (hid f)
    (lt_of_le_of_lt l (subst (λ (z : ℕ). z < hid f * 2 ^ suc i) (sym e) a))) in (
      m * 2 ^ (i - k),
      e ∙ ap (λ (z : ℕ). m * 2 ^ z) (sym (back i k (le_of_suc-le-suc b))) ∙ ap (λ (z : ℕ). m * z) (pow-add 2 (i - k) k)
          ∙ sym (mul_assoc m (2 ^ (i - k)) (2 ^ k)),
    )

-- ---- a fraction n / den in units lies between two neighbours, multiples of 2 ^ drop units: from one to the next is a
-- step

abbrev step : Format → ℕ → ℕ → ℕ
step f n den = den * 2 ^ drop (prec f) n den

-- where digits are dropped, the lower neighbour has the leading one
leading : (f : Format) (n den : ℕ) → (drop (prec f) n den ≡ 0) ⊎ (hid f ≤ n / step f n den)
leading f n den = go (eq-zero-or-pos k)
  where
    k : ℕ
    k = drop (prec f) n den

    go : (k ≡ 0) ⊎ (0 < k) → (k ≡ 0) ⊎ (hid f ≤ n / step f n den)
    go (inl z) = inl z
    go (inr p) =
        let j : prec f - 1 + k < size (n / den) = omega (arith, two f) in
        let a : hid f * 2 ^ k ≤ n / den =
        le_trans (le_of_eq (sym (pow-add 2 (prec f - 1) k))) (size_reaches (n / den) (prec f - 1 + k) j) in
        inr (subst (λ (z : ℕ). hid f ≤ z) (div-div-eq-div-mul n den (2 ^ k)) ((le-div_iff_mul-le (pow_pos k)).1 a))

-- n is q steps of u and a rest r, which o compares with half a step. In units a step is P, and h does not lie between
-- the neighbours, q steps and q + 1.
record Steps (n den h q r u P : ℕ) (o : Ordering) : Type 0 where
  unit : u ≡ den * P
  whole : q * u + r ≡ n
  rest : r < u
  half : Cmp o (r * 2) u
  apart : q * P < h → suc q * P ≤ h

module _ (f : Format) (n den h : ℕ) (y : Float) (D : 0 < den) (F : T (fits f y))
    (v : HasValue y false h (2 ^ low f)) where
  -- no value of the format lies between the neighbours
  gap : n / step f n den * 2 ^ drop (prec f) n den < h → suc (n / step f n den) * 2 ^ drop (prec f) n den ≤ h
  gap l = go (leading f n den)
    where
      k : ℕ
      k = drop (prec f) n den

      q : ℕ
      q = n / step f n den

      go : (k ≡ 0) ⊎ (hid f ≤ q) → suc q * 2 ^ k ≤ h
      go (inl z) =
          let one : 2 ^ k ≡ 1 = ap (λ (x : ℕ). 2 ^ x) z in
          subst (λ (x : ℕ). suc q * x ≤ h) (sym one) (omega (arith, subst (λ (x : ℕ). q * x < h) one l))
      go (inr b) =
          let (c, e) = grid_multiple f y false h k F v (le_trans (mul-le-mul_right (2 ^ k) b) (le_of_lt l)) in
          subst (λ (x : ℕ). suc q * 2 ^ k ≤ x) (sym e)
          (mul-le-mul_right (2 ^ k) (lt_of_mul-lt-mul_right (2 ^ k) (subst (λ (x : ℕ). q * 2 ^ k < x) e l)))

  neighbours : Steps n den h (n / step f n den) (n % step f n den) (step f n den) (2 ^ drop (prec f) n den)
      (compare (n % step f n den * 2) (step f n den))
  neighbours =
      record {
        unit = refl;
        whole = div-add-mod' n (step f n den);
        rest = mod-lt n (mul-pos D (pow_pos (drop (prec f) n den)));
        half = cmp (n % step f n den * 2) (step f n den);
        apart = gap;
      }

-- ---- the neighbour that is kept

module _ {n den h q r u P : ℕ} {o : Ordering} (D : 0 < den) (s : Steps n den h q r u P o) where
  steps : q * u ≡ q * P * den
  steps = ap (λ (z : ℕ). q * z) (s.unit ∙ mul_comm den P) ∙ sym (mul_assoc q P den)

  beyond : nearest q o * P < h → suc q * P * den ≤ h * den
  beyond l = mul-le-mul_right den (s.apart (lt_of_le_of_lt (mul-le-mul_right P (nearest-ge q o)) l))

  within : h < nearest q o * P → h * den ≤ q * P * den
  within l =
      mul-le-mul_right den
      (le_of_suc-le-suc (lt_of_not-le
      (λ (g : suc (q * P) ≤ h). not-le_of_lt (lt_of_lt_of_le l (mul-le-mul_right P (nearest-le q o))) (s.apart g))))

  above : nearest q o * P < h → 2 * n ≤ (nearest q o * P + h) * den
  above l = go o s.half (beyond l) (mul-lt-mul_of_pos_right l D)
    where
      go : (o : Ordering) → Cmp o (r * 2) u → suc q * P * den ≤ h * den → nearest q o * P * den < h * den
          → 2 * n ≤ (nearest q o * P + h) * den
      go Ordering.lt c b l = omega (arith, steps)
      go Ordering.eq c b l = omega (arith, steps)
      go Ordering.gt c b l = omega (arith, steps)

  below : h < nearest q o * P → (nearest q o * P + h) * den ≤ 2 * n
  below l = go o s.half (within l) (mul-le-mul_right den (mul-le-mul_right P (nearest-le q o)))
    where
      go : (o : Ordering) → Cmp o (r * 2) u → h * den ≤ q * P * den → nearest q o * P * den ≤ suc q * P * den
          → (nearest q o * P + h) * den ≤ 2 * n
      go Ordering.lt c w l = omega (arith, steps)
      go Ordering.eq c w l = omega (arith, steps)
      go Ordering.gt c w l = omega (arith, steps)

  -- as near as another number is the kept one only at half a step, and there it is even
  tie : h ≢ nearest q o * P → (nearest q o * P + h) * den ≡ 2 * n → nearest q o % 2 ≡ 0
  tie ne e = go o s.half (side (dec_le h (nearest q o * P))) e
    where
      Side : Ordering → Type 0
      Side o =
          ((h * den ≤ q * P * den) × (h * den < nearest q o * P * den)) ⊎
          ((suc q * P * den ≤ h * den) × (nearest q o * P * den < h * den))

      side : Dec (h ≤ nearest q o * P) → Side o
      side (yes l) = let m = lt_of_le-ne l ne in inl (within m, mul-lt-mul_of_pos_right m D)
      side (no g) = let m = lt_of_not-le g in inr (beyond m, mul-lt-mul_of_pos_right m D)

      even : (q : ℕ) → (q + q % 2) % 2 ≡ 0
      even q = omega arith

      go : (o : Ordering) → Cmp o (r * 2) u → Side o → (nearest q o * P + h) * den ≡ 2 * n → nearest q o % 2 ≡ 0
      go Ordering.lt c (inl a) e = absurd (omega (arith, steps))
      go Ordering.lt c (inr a) e = absurd (omega (arith, steps))
      go Ordering.eq c a e = even q
      go Ordering.gt c (inl a) e = absurd (omega (arith, steps))
      go Ordering.gt c (inr a) e = absurd (omega (arith, steps))

-- ---- a rounding is nearest

hid-even : (f : Format) → hid f ≡ 2 * (hid f / 2)
hid-even binary32 = refl
hid-even binary64 = refl

module _ (f : Format) (num den h : ℕ) (y : Float) (D : 0 < den) (F : T (fits f y))
    (v : HasValue y false h (2 ^ low f)) where
  -- a value of the format above the result is no nearer,
  pub nearest-above : grid f num den < h → 2 * (num * 2 ^ low f) ≤ (grid f num den + h) * den
  nearest-above = above D (neighbours f (num * 2 ^ low f) den h y D F v)

  -- nor is one below it,
  pub nearest-below : h < grid f num den → (grid f num den + h) * den ≤ 2 * (num * 2 ^ low f)
  nearest-below = below D (neighbours f (num * 2 ^ low f) den h y D F v)

  -- and where one is just as near, the result's bit pattern is even
  pub nearest-even : h ≢ grid f num den → (grid f num den + h) * den ≡ 2 * (num * 2 ^ low f)
      → to_bits f (round f false num den) % 2 ≡ 0
  nearest-even ne e =
      ap (λ (z : ℕ). z % 2) (round-bits f false num den)
      ∙ even (drop (prec f) (num * 2 ^ low f) den) (kept (prec f) (num * 2 ^ low f) den) (ones f) (hid f) (hid f / 2)
      (hid-even f)
      (tie D (neighbours f (num * 2 ^ low f) den h y D F v) ne e)
    where
      even : (k c o b a : ℕ) → b ≡ 2 * a → c % 2 ≡ 0 → (0 + min (k * b + c) (o * b)) % 2 ≡ 0
      even k c o b a p q =
          let r : k * b ≡ 2 * (k * a) = ap (λ (z : ℕ). k * z) p ∙ mul_left_comm k 2 a in
          let s : o * b ≡ 2 * (o * a) = ap (λ (z : ℕ). o * z) p ∙ mul_left_comm o 2 a in
          omega arith
