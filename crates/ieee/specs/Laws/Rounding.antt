-- The bit pattern of a rounded fraction, and rounding by a shift. `round f s num den` takes the fraction n / den in
-- units of the format's smallest value, drops `drop` digits of its whole part and keeps the nearest number, `kept`,
-- ties to even: its pattern is drop * hid + kept, up to the infinity's. Over the format. Assumes nothing.
use Prim.Native.Nat.{ℕ, zero, suc, ◌+◌, ◌-◌, ◌*◌, ◌/◌, ◌%◌, ◌^◌}
use Prim.Native.Nat.{◌≤◌, ◌<◌, min, compare, Ordering}
use Rattle.std.specs.Prelude.{◌≡◌, refl, Bool, not, ◌⊎◌, T, ltb, eqb}
use Rattle.std.proofs.Math.Path.{sym, ap, subst}
use Rattle.std.proofs.Common.{◌∙◌, inl, inr, le_trans, le_of_eq, lt_of_le_of_lt, eq-or-lt_of_le, eq-zero-or-pos}
use Rattle.std.proofs.Common.{le-div_iff_mul-le, mul-le-mul_right, mul_assoc, mul_comm, mul_left_comm, zero-mul}
use Rattle.std.proofs.Common.{mul-lt-mul_of_pos_right, div-add-mod', mod-lt, div-lt_iff_lt-mul, mod-eq_of_lt}
use Rattle.std.proofs.Common.{add-zero, add-suc, mul-pos, add-one, eq-eqb, ne_eqb, arith, ltb→lt, nltb→le, lit<, lit≤}
use Rattle.std.proofs.Common.{leb→le, eqb→eq, pow_pos, pow-add}
use Rattle.std.proofs.Math.Bool.{true, false, cond}
use Rattle.std.proofs.Math.Nat.{div-div-eq-div-mul, le_of_mul-le-mul_left, lt_of_mul-lt-mul_left, min-eq_left}
use Rattle.std.proofs.Math.Nat.{min-eq_right, pow-succ', mul-add-div_right, mul-add-mod_self_right, div-eq_of_lt-le}
use Rattle.std.proofs.Math.Nat.{div-eq_of_lt}
use Rattle.std.proofs.Math.Arith.{lt_of_le-ne, mod-mul}
use Rattle.std.proofs.Math.Dec.{is_le, compare_is_eq, nleb→lt}
use Rattle.std.specs.Float.{Format, binary32, binary64, inf}
use Rattle.std.specs.Float.Ieee.{prec, emax, low, hid, ones, top, size, odd, units, round, to_bits, nearest}
use Rattle.std.specs.Float.Ieee.Digits.{size_reaches}
use Rattle.std.specs.Float.Ieee.Exact.{odd_sign}
use Rattle.std.specs.Float.Ieee.Fits.{eq→eqb, two, kept-lt, nearest-le, round_is}
use Rattle.std.specs.Float.Ieee.Nearest.{closest, closest_same, nearest-ge}
use Rattle.std.specs.Float.Ieee.Order.{drop, kept}
use Rattle.ieee.specs.Laws.Patterns.{Digits, pattern-at, to_bits-value, two-hid}
use Rattle.ieee.specs.Laws.Patterns.{hid-pos, overflow-is, pow-le_inv, pow-lt_inv}

-- ---- what a comparison says

abbrev pub Cmp : Ordering → ℕ → ℕ → Type 0
Cmp Ordering.lt a b = a < b
Cmp Ordering.eq a b = a ≡ b
Cmp Ordering.gt a b = b < a

pub cmp : (a b : ℕ) → Cmp (compare a b) a b
cmp a b = go (compare a b) (leb→le a b) (nleb→lt a b) (eqb→eq a b) (λ (e : a ≡ b). eq→eqb e)
  where
    go : (o : Ordering) → (T (is_le o) → a ≤ b) → (T (not (is_le o)) → b < a) → (T (compare_is_eq o) → a ≡ b) →
        (a ≡ b → T (compare_is_eq o)) → Cmp o a b
    go Ordering.lt h k e n = lt_of_le-ne (h tt) n
    go Ordering.eq h k e n = e tt
    go Ordering.gt h k e n = k tt

-- ---- what a rounding keeps

in_use : (z p : ℕ) → 2 ≤ p → 0 < z - p → p - 1 + (z - p) < z
in_use z p P h = omega arith

pub kept-digits : (f : Format) (n den : ℕ) → Digits f (kept (prec f) n den) (drop (prec f) n den)
kept-digits f n den = (le_trans (nearest-le (n / u) o) few, go (eq-zero-or-pos k))
  where
    k : ℕ
    k = drop (prec f) n den

    u : ℕ
    u = den * 2 ^ k

    o : Ordering
    o = compare (n % u * 2) u

    cut : n / den / 2 ^ k ≡ n / u
    cut = div-div-eq-div-mul n den (2 ^ k)

    few : n / u < 2 ^ prec f
    few = subst (λ (x : ℕ). x < 2 ^ prec f) cut (kept-lt (prec f) (n / den))

    go : (k ≡ 0) ⊎ (0 < k) → (k ≡ 0) ⊎ (hid f ≤ nearest (n / u) o)
    go (inl z) = inl z
    go (inr h) =
        let w = n / den in
        let a : hid f * 2 ^ k ≤ w =
        le_trans (le_of_eq (sym (pow-add 2 (prec f - 1) k)))
        (size_reaches w (prec f - 1 + k) (in_use (size w) (prec f) (two f) h)) in
        inr (le_trans (subst (λ (x : ℕ). hid f ≤ x) cut ((le-div_iff_mul-le (pow_pos k)).1 a)) (nearest-ge (n / u) o))

-- ---- its pattern

emax-pos : (f : Format) → 1 ≤ emax f
emax-pos binary32 = lit≤ tt
emax-pos binary64 = lit≤ tt

module _ (f : Format) (q k : ℕ) (d : Digits f q k) where
  few-digits : q ≤ 2 * hid f
  few-digits = subst (λ (z : ℕ). q ≤ z) (two-hid f) d.0

  finite-pattern : q * 2 ^ k < hid f * 2 ^ (2 * emax f) → k * hid f + q ≤ ones f * hid f
  finite-pattern h = go d.1
    where
      go : (k ≡ 0) ⊎ (hid f ≤ q) → k * hid f + q ≤ ones f * hid f
      go (inl z) =
          let r : 2 * hid f ≤ ones f * hid f = mul-le-mul_right (hid f) (omega (arith, emax-pos f)) in
          let s : k * hid f ≡ 0 = ap (λ (x : ℕ). x * hid f) z ∙ zero-mul (hid f) in
          let t = few-digits in
          omega arith
      go (inr l) =
          let a : k < 2 * emax f = pow-lt_inv k (2 * emax f)
          (lt_of_mul-lt-mul_left (hid f) (lt_of_le_of_lt (mul-le-mul_right (2 ^ k) l) h)) in
          let r : (k + 2) * hid f ≤ ones f * hid f = mul-le-mul_right (hid f) (omega arith) in
          let t = few-digits in
          omega arith

  infinite-pattern : hid f * 2 ^ (2 * emax f) ≤ q * 2 ^ k → ones f * hid f ≤ k * hid f + q
  infinite-pattern h = go (eq-or-lt_of_le few-digits) d.1
    where
      double : 2 * hid f * 2 ^ k ≡ hid f * 2 ^ suc k
      double =
          mul_assoc 2 (hid f) (2 ^ k) ∙ mul_left_comm 2 (hid f) (2 ^ k) ∙
          ap (λ (z : ℕ). hid f * z) (sym (pow-succ' 2 k))

      go : (q ≡ 2 * hid f) ⊎ (q < 2 * hid f) → (k ≡ 0) ⊎ (hid f ≤ q) → ones f * hid f ≤ k * hid f + q
      go (inl e) c =
          let g : hid f * 2 ^ (2 * emax f) ≤ hid f * 2 ^ suc k = subst (λ (z : ℕ). hid f * 2 ^ (2 * emax f) ≤ z)
          (ap (λ (z : ℕ). z * 2 ^ k) e ∙ double) h in
          let a : 2 * emax f ≤ suc k = pow-le_inv (2 * emax f) (suc k) (le_of_mul-le-mul_left g (hid-pos f)) in
          let r : ones f * hid f ≤ (k + 2) * hid f = mul-le-mul_right (hid f) (omega arith) in
          omega arith
      go (inr l) c =
          let g : hid f * 2 ^ (2 * emax f) < hid f * 2 ^ suc k =
          lt_of_le_of_lt h (subst (λ (z : ℕ). q * 2 ^ k < z) double (mul-lt-mul_of_pos_right l (pow_pos k))) in
          let a : 2 * emax f < suc k = pow-lt_inv (2 * emax f) (suc k) (lt_of_mul-lt-mul_left (hid f) g) in
          last a c
        where
          last : 2 * emax f < suc k → (k ≡ 0) ⊎ (hid f ≤ q) → ones f * hid f ≤ k * hid f + q
          last a (inl z) = absurd (omega (arith, emax-pos f))
          last a (inr b) =
              let r : ones f * hid f ≤ (k + 1) * hid f = mul-le-mul_right (hid f) (omega arith) in
              omega arith

  pub units-bits : (s : Bool) → to_bits f (units f s q k) ≡ cond s (top f) 0 + min (k * hid f + q) (ones f * hid f)
  unfolding units
  units-bits s =
      go (ltb (q * 2 ^ k) (2 ^ (low f + suc (emax f))))
      (λ t. subst (λ (z : ℕ). q * 2 ^ k < z) (overflow-is f) (ltb→lt (q * 2 ^ k) (2 ^ (low f + suc (emax f))) t))
      (λ t. subst (λ (z : ℕ). z ≤ q * 2 ^ k) (overflow-is f) (nltb→le (q * 2 ^ k) (2 ^ (low f + suc (emax f))) t))
    where
      go : (b : Bool) → (T b → q * 2 ^ k < hid f * 2 ^ (2 * emax f)) →
          (T (not b) → hid f * 2 ^ (2 * emax f) ≤ q * 2 ^ k)
          → to_bits f (cond b (odd (suc (prec f)) s q k (low f)) (inf s)) ≡
          cond s (top f) 0 + min (k * hid f + q) (ones f * hid f)
      go true h g =
          to_bits-value f (odd (suc (prec f)) s q k (low f)) s (q * 2 ^ k) (odd_sign (suc (prec f)) s q k (low f))
          ∙ ap (λ (z : ℕ). cond s (top f) 0 + z) (pattern-at f q k d ∙ sym (min-eq_left (finite-pattern (h tt))))
      go false h g =
          unfold to_bits in ap (λ (z : ℕ). cond s (top f) 0 + z) (sym (min-eq_right (infinite-pattern (g tt))))

pub round-bits : (f : Format) (s : Bool) (num den : ℕ)
    → to_bits f (round f s num den) ≡
    cond s (top f) 0 + min (drop (prec f) (num * 2 ^ low f) den * hid f + kept (prec f) (num * 2 ^ low f) den)
    (ones f * hid f)
round-bits f s num den =
    let n = num * 2 ^ low f in
    ap (to_bits f) (round_is f s num den) ∙
    units-bits f (kept (prec f) n den) (drop (prec f) n den) (kept-digits f n den) s

-- ---- nearest by a shift

-- Halves at the even multiple: below the half the remainder adds nothing, above it one, and at it the quotient's last
-- digit.
pub closest-shift : (a d : ℕ) → closest a (2 ^ suc d) ≡ (a + (2 ^ d - 1) + a / 2 ^ suc d % 2) / 2 ^ suc d
closest-shift a d = go (compare (r * 2) u) (cmp (r * 2) u)
  where
    h : ℕ
    h = 2 ^ d

    u : ℕ
    u = 2 ^ suc d

    q : ℕ
    q = a / u

    r : ℕ
    r = a % u

    u-is : u ≡ 2 * h
    u-is = pow-succ' 2 d

    H : 0 < h
    H = pow_pos d

    U : 0 < u
    U = pow_pos (suc d)

    whole : q * u + r ≡ a
    whole = div-add-mod' a u

    R : r < u
    R = mod-lt a U

    sum : a + (h - 1) + q % 2 ≡ q * u + (r + (h - 1) + q % 2)
    sum = omega (arith, whole)

    at : (k : ℕ) → k * u ≤ r + (h - 1) + q % 2 → r + (h - 1) + q % 2 < suc k * u → (a + (h - 1) + q % 2) / u ≡ q + k
    at k lo hi =
        ap (λ (z : ℕ). z / u) sum ∙ mul-add-div_right U q (r + (h - 1) + q % 2)
        ∙ ap (λ (z : ℕ). q + z) (div-eq_of_lt-le u lo
        (subst (λ (z : ℕ). r + (h - 1) + q % 2 < z * u) (sym (add-one k)) hi))

    go : (o : Ordering) → Cmp o (r * 2) u → nearest q o ≡ (a + (h - 1) + q % 2) / u
    go Ordering.lt l = sym (at 0 (omega arith) (omega (arith, u-is, H, l)) ∙ add-zero q)
    go Ordering.eq e = sym (half (q % 2) refl)
      where
        half : (b : ℕ) → b ≡ q % 2 → (a + (h - 1) + q % 2) / u ≡ q + q % 2
        half zero z = at 0 (omega arith) (omega (arith, u-is, H, e, z)) ∙ ap (λ (k : ℕ). q + k) z
        half (suc n) z =
            at 1 (omega (arith, u-is, H, e, z)) (omega (arith, u-is, H, e, z)) ∙
            ap (λ (k : ℕ). q + k) (omega (arith, z))
    go Ordering.gt g = sym (at 1 (omega (arith, u-is, H, g)) (omega (arith, u-is, H, R)) ∙ add-one q)

-- as code has it, with the number of digits that go
pub closest-gone : (a g : ℕ) → 1 ≤ g → (a + (2 ^ (g - 1) - 1) + a / 2 ^ g % 2) / 2 ^ g ≡ closest a (2 ^ g)
closest-gone a zero h = absurd (omega arith)
closest-gone a (suc d) h =
    ap (λ (z : ℕ). (a + (2 ^ z - 1) + a / 2 ^ suc d % 2) / 2 ^ suc d) (less d) ∙ sym (closest-shift a d)
  where
    less : (d : ℕ) → suc d - 1 ≡ d
    less d = omega arith

-- an even number of whole steps more
pub closest-add : (j a u : ℕ) → 0 < u → closest (2 * j * u + a) u ≡ 2 * j + closest a u
closest-add j a u U =
    ap (λ (z : ℕ). nearest z (compare ((2 * j * u + a) % u * 2) u)) (mul-add-div_right U (2 * j) a)
    ∙ ap (λ (z : ℕ). nearest (2 * j + a / u) (compare (z * 2) u)) (mul-add-mod_self_right (2 * j) u a)
    ∙ shift (a / u) (compare (a % u * 2) u)
  where
    parity : (q : ℕ) → 2 * j + q + (2 * j + q) % 2 ≡ 2 * j + (q + q % 2)
    parity q = omega arith

    shift : (q : ℕ) (o : Ordering) → nearest (2 * j + q) o ≡ 2 * j + nearest q o
    shift q Ordering.lt = refl
    shift q Ordering.eq = parity q
    shift q Ordering.gt = sym (add-suc (2 * j) q)

-- the same fraction with both its numbers multiplied
pub closest-scale : (a u c : ℕ) → 0 < u → 0 < c → closest (a * c) (u * c) ≡ closest a u
closest-scale a u c U C =
    closest_same (a * c) (u * c) a u (mul-pos U C) U (mul_assoc a c u ∙ ap (λ (z : ℕ). a * z) (mul_comm c u))

-- below k steps at most k are kept
pub closest-le : (a u k : ℕ) → 0 < u → a < k * u → closest a u ≤ k
closest-le a u k U h = le_trans (nearest-le (a / u) (compare (a % u * 2) u)) ((div-lt_iff_lt-mul U).1 h)

-- less than half a step
pub closest-small : (a u : ℕ) → a * 2 < u → closest a u ≡ 0
closest-small a u h =
    let l : a < u = omega arith in
    ap (λ (z : ℕ). nearest z (compare (a % u * 2) u)) (div-eq_of_lt l)
    ∙ ap (λ (z : ℕ). nearest 0 (compare (z * 2) u)) (mod-eq_of_lt l)
    ∙ below_half (compare (a * 2) u) (cmp (a * 2) u)
  where
    below_half : (o : Ordering) → Cmp o (a * 2) u → nearest 0 o ≡ 0
    below_half Ordering.lt l = refl
    below_half Ordering.eq e = refl
    below_half Ordering.gt g = absurd (omega (arith, h, g))

-- ---- a rest counts the same whatever it is: of q whole parts and a rest, in steps of 2 u parts, only whether the rest
-- is zero matters

pub compare-is : (a b : ℕ) (o : Ordering) → Cmp o a b → compare a b ≡ o
compare-is a b o h = go (compare a b) (cmp a b) o h
  where
    go : (p : Ordering) → Cmp p a b → (o : Ordering) → Cmp o a b → p ≡ o
    go Ordering.lt x Ordering.lt y = refl
    go Ordering.eq x Ordering.eq y = refl
    go Ordering.gt x Ordering.gt y = refl
    go Ordering.lt x Ordering.eq y = absurd (omega arith)
    go Ordering.lt x Ordering.gt y = absurd (omega arith)
    go Ordering.eq x Ordering.lt y = absurd (omega arith)
    go Ordering.eq x Ordering.gt y = absurd (omega arith)
    go Ordering.gt x Ordering.lt y = absurd (omega arith)
    go Ordering.gt x Ordering.eq y = absurd (omega arith)

-- how q parts and a rest compare with half a step, from how the parts do and whether there is a rest
abbrev side : Ordering → Bool → Ordering
side Ordering.lt z = Ordering.lt
side Ordering.eq true = Ordering.eq
side Ordering.eq false = Ordering.gt
side Ordering.gt z = Ordering.gt

module _ (q b rest u : ℕ) (small : rest < b) where
  B : 0 < b
  B = lt_of_le_of_lt Prim.Native.Nat.zero-le small

  parts : (q * b + rest) / b ≡ q
  parts = mul-add-div_right B q rest ∙ ap (λ (z : ℕ). q + z) (div-eq_of_lt small) ∙ add-zero q

  sides : 0 < u → compare ((q % (2 * u) * b + rest) * 2) (2 * u * b) ≡ side (compare (q % (2 * u)) u) (eqb rest 0)
  sides U = go (compare r u) (cmp r u) (eq-zero-or-pos rest)
    where
      r : ℕ
      r = q % (2 * u)

      is : (o : Ordering) → Cmp o ((r * b + rest) * 2) (2 * u * b) → compare ((r * b + rest) * 2) (2 * u * b) ≡ o
      is o = compare-is ((r * b + rest) * 2) (2 * u * b) o

      go : (o : Ordering) → Cmp o r u → (rest ≡ 0) ⊎ (0 < rest) →
          compare ((r * b + rest) * 2) (2 * u * b) ≡ side o (eqb rest 0)
      go Ordering.lt l z = is Ordering.lt (omega (arith, small, mul-le-mul_right b l))
      go Ordering.gt g z = is Ordering.gt (omega (arith, small, B, mul-le-mul_right b g))
      go Ordering.eq e (inl z) = rw (eq-eqb rest 0 z) (is Ordering.eq (omega (arith, z, ap (λ (k : ℕ). k * b) e)))
      go Ordering.eq e (inr p) =
          rw (ne_eqb rest 0 (λ (z : rest ≡ 0). omega arith))
          (is Ordering.gt (omega (arith, p, ap (λ (k : ℕ). k * b) e)))

  by_side : 0 < u → closest (q * b + rest) (2 * u * b) ≡
      nearest (q / (2 * u)) (side (compare (q % (2 * u)) u) (eqb rest 0))
  by_side U =
      let two-u : 0 < 2 * u = omega arith in
      let quotient : (q * b + rest) / (2 * u * b) ≡ q / (2 * u) =
      ap (λ (z : ℕ). (q * b + rest) / z) (mul_comm (2 * u) b) ∙ sym (div-div-eq-div-mul (q * b + rest) b (2 * u)) ∙
      ap (λ (z : ℕ). z / (2 * u)) parts in
      let remainder : (q * b + rest) % (2 * u * b) ≡ q % (2 * u) * b + rest =
      mod-mul (q * b + rest) two-u B ∙ ap (λ (z : ℕ). z % (2 * u) * b + (q * b + rest) % b) parts
      ∙ ap (λ (z : ℕ). q % (2 * u) * b + z) (mul-add-mod_self_right q b rest ∙ mod-eq_of_lt small) in
      ap (λ (z : ℕ). nearest z (compare ((q * b + rest) % (2 * u * b) * 2) (2 * u * b))) quotient
      ∙ ap (λ (z : ℕ). nearest (q / (2 * u)) (compare (z * 2) (2 * u * b))) remainder
      ∙ ap (nearest (q / (2 * u))) (sides U)

-- so a rest may be counted as a half
pub closest-sticky : (q b rest u : ℕ) → rest < b → 0 < u →
    closest (q * b + rest) (2 * u * b) ≡ closest (2 * q + cond (eqb rest 0) 0 1) (4 * u)
closest-sticky q b rest u small U =
    by_side q b rest u small U
    ∙ ap (λ (c : Bool). nearest (q / (2 * u)) (side (compare (q % (2 * u)) u) c)) (test (eq-zero-or-pos rest))
    ∙ sym (by_side q 2 (cond (eqb rest 0) 0 1) u (half (eqb rest 0)) U)
    ∙ ap (λ (z : ℕ). closest z (2 * u * 2)) (ap (λ (z : ℕ). z + cond (eqb rest 0) 0 1) (mul_comm q 2))
    ∙ ap (closest (2 * q + cond (eqb rest 0) 0 1)) (four u)
  where
    half : (c : Bool) → cond c 0 1 < 2
    half true = lit< tt
    half false = lit< tt

    four : (u : ℕ) → 2 * u * 2 ≡ 4 * u
    four u = omega arith

    test : (rest ≡ 0) ⊎ (0 < rest) → eqb rest 0 ≡ eqb (cond (eqb rest 0) 0 1) 0
    test (inl z) = rw (eq-eqb rest 0 z)
    test (inr p) = rw (ne_eqb rest 0 (λ (z : rest ≡ 0). omega arith))
