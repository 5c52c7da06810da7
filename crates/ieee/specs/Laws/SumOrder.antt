-- Sums and differences of values of either sign, over the format. A sum grows with both terms, infinities included,
-- where neither sum is a NaN (`sum_mono`), and a difference grows as its first value grows and its second falls
-- (`difference_mono`). So the difference of a value and one at most it is not below zero (`difference-nonneg`), and of
-- two values of the format that differ it is above zero, since both are whole numbers of units (`difference-above`).
-- Assumes nothing.
use Rattle.std.specs.Prelude.{ℕ, suc, ◌+◌, ◌*◌, ◌^◌, ◌-◌, ◌≤◌, ◌<◌, ◌≡◌, Bool, not, cond, ◌⊎◌, T, ltb, ℤ, pos, Float}
use Rattle.std.proofs.Math.Path.{refl, subst}
use Rattle.std.proofs.Common.{ap, sym, inl, inr, add-le-add, le_trans as le_then, le_of_eq, mul_comm}
use Rattle.std.proofs.Common.{lt_of_mul-lt-mul_right, lt_of_not-le, mul-le-mul_right, mul-lt-mul_of_pos_right}
use Rattle.std.proofs.Common.{le_of_lt, lt-ltb, le-ltb, nltb→le, pow_pos}
use Rattle.std.proofs.Math.Bool.{true, false}
use Rattle.std.proofs.Math.Nat.{mul-pos}
use Rattle.std.proofs.Math.Decide.{dec_le}
use native.Mathlib.Omega.{arith}
use Rattle.std.proofs.Math.Dec.{ltb→lt}
use Rattle.std.specs.Float.Ieee.{nan, low, up, down, size, span, climb, odd, units, round, neg, sum, add, sub, lt, le}
use Rattle.std.specs.Float.Ieee.{eq, fits, is_nan}
use Rattle.std.specs.Float.{inf, fin, Format, binary32, binary64}
use Rattle.std.specs.Float.Ieee.Fits.{down_pos}
use Rattle.std.specs.Float.Ieee.Order.{round_mono}
use Rattle.std.specs.Float.Ieee.Scale.{finite}
use Rattle.ieee.specs.Laws.NearestLaws.{Held, held, held-shift}
use Rattle.ieee.specs.Laws.OrderLaws.{gain, loss, gain-mul, loss-mul, nonneg}
use Rattle.ieee.specs.Laws.OrderLaws.{nonneg→le, nonneg-up, le-fin, le_trans}
use Rattle.ieee.specs.Laws.OrderLaws.{le_bottom, le-top, le_refl, le_right, lt_of_lt_of_le}
use Rattle.ieee.specs.Laws.RoundOrder.{Rounds, rounds, le-rounds, neg-round}

-- ---- a sum of finite values: the gains less the losses, rounded

-- where it is not below zero
pub sum-rounds : (f : Format) (s : Bool) (a : ℕ) (t : Bool) (b c : ℕ) → 0 < c
    → loss s a + loss t b ≤ gain s a + gain t b
    → Rounds f (sum f s a t b c) (gain s a + gain t b - (loss s a + loss t b)) c
unfolding sum
sum-rounds f false a false b c C h = rounds f false (a + b) c (a + b - (0 + 0)) C (omega arith) (λ t. absurd t)
sum-rounds f false a true b c C h = go (ltb a b) (ltb→lt a b)
  where
    go : (p : Bool) → (T p → a < b)
        → Rounds f (cond p (round f true (b - a) c) (round f false (a - b) c)) (a + 0 - (0 + b)) c
    go true k = absurd (omega (arith, k tt))
    go false k = rounds f false (a - b) c (a + 0 - (0 + b)) C (omega arith) (λ t. absurd t)
sum-rounds f true a false b c C h = go (ltb a b) (nltb→le a b)
  where
    go : (p : Bool) → (T (not p) → b ≤ a)
        → Rounds f (cond p (round f false (b - a) c) (round f (ltb b a) (a - b) c)) (0 + b - (a + 0)) c
    go true k = rounds f false (b - a) c (0 + b - (a + 0)) C (omega arith) (λ t. absurd t)
    go false k = rounds f (ltb b a) (a - b) c (0 + b - (a + 0)) C (omega (arith, k tt)) (λ t. omega (arith, k tt))
sum-rounds f true a true b c C h = rounds f true (a + b) c (0 + 0 - (a + b)) C (omega arith) (λ t. omega arith)

-- where it is below zero, it is that of the losses less the gains, turned
sum_below : (f : Format) (s : Bool) (a : ℕ) (t : Bool) (b c : ℕ) → gain s a + gain t b < loss s a + loss t b
    → sum f s a t b c ≡ round f true (loss s a + loss t b - (gain s a + gain t b)) c
unfolding sum
sum_below f false a false b c h = absurd (omega arith)
sum_below f false a true b c h = rw (lt-ltb a b (omega arith)) (ap (λ (z : ℕ). round f true z c) (omega arith))
sum_below f true a false b c h =
    let l : b < a = omega arith in
    rw (le-ltb a b (le_of_lt l), lt-ltb b a l) (ap (λ (z : ℕ). round f true z c) (omega arith))
sum_below f true a true b c h = ap (λ (z : ℕ). round f true z c) (omega arith)

neg-rounds : (f : Format) (n d : ℕ) → 0 < d → Rounds f (neg (round f true n d)) n d
neg-rounds f n d D = rw (neg-round f true n d) (rounds f false n d n D refl (λ (t : T false). absurd t))

-- ---- values turned round

pub neg-le : (x y : Float) → T (le (neg y) (neg x)) → T (le x y)
unfolding le neg is_nan
neg-le nan y h = absurd (le_right (neg y) nan h)
neg-le (inf s) nan h = h
neg-le (inf true) (inf true) h = tt
neg-le (inf true) (inf false) h = tt
neg-le (inf false) (inf true) h = absurd h
neg-le (inf false) (inf false) h = tt
neg-le (inf true) (fin t n d) h = tt
neg-le (inf false) (fin t n d) h = absurd h
neg-le (fin s m e) nan h = h
neg-le (fin s m e) (inf true) h = absurd h
neg-le (fin s m e) (inf false) h = tt
neg-le (fin true m e) (fin true n d) h = (le-fin true m e true n d).1 (omega (arith, (le-fin false n d false m e).0 h))
neg-le (fin true m e) (fin false n d) h = (le-fin true m e false n d).1 (omega (arith, (le-fin true n d false m e).0 h))
neg-le (fin false m e) (fin true n d) h = (le-fin false m e true n d).1 (omega (arith, (le-fin false n d true m e).0 h))
neg-le (fin false m e) (fin false n d) h = (le-fin false m e false n d).1 (omega (
  arith,
  (le-fin true n d true m e).0
      h,
))

turn-back : (x : Float) → neg (neg x) ≡ x
unfolding neg
turn-back nan = refl
turn-back (inf true) = refl
turn-back (inf false) = refl
turn-back (fin true m e) = refl
turn-back (fin false m e) = refl

le-neg : (x y : Float) → T (le x y) → T (le (neg y) (neg x))
le-neg x y h = neg-le (neg y) (neg x) (rw (turn-back x, turn-back y) h)

-- what is not above zero and what is not below it
opposite : (x y : Float) → T (nonneg (neg x)) → T (nonneg y) → T (le x y)
unfolding neg le
opposite x y p q =
    let z = fin false 0 (pos 0) in
    le_trans x z y (neg-le x z (le_trans (fin true 0 (pos 0)) z (neg x) tt (nonneg→le (neg x) p))) (nonneg→le y q)

-- ---- finite values (p - n) / c rounded, in the order of these fractions

record Signed (f : Format) (x : Float) (p n c : ℕ) : Type 0 where
  above : n ≤ p → Rounds f x (p - n) c
  below : p < n → Rounds f (neg x) (n - p) c

le-signed : (f : Format) (x y : Float) (p n c q m d : ℕ) → 0 < c → 0 < d → Signed f x p n c → Signed f y q m d
    → p * d + m * c ≤ q * c + n * d → T (le x y)
le-signed f x y p n c q m d C D X Y h = go (dec_le n p) (dec_le m q)
  where
    -- a difference times a number, where it is not cut at 0
    apart : (a b k : ℕ) → b ≤ a → (a - b) * k + b * k ≡ a * k
    apart a b k l =
        let back : a - b + b ≡ a = omega arith in let r : (a - b + b) * k ≡ a * k = ap
        (λ (z : ℕ). z * k) back in omega arith

    go : Dec (n ≤ p) → Dec (m ≤ q) → T (le x y)
    go (yes k) (yes l) =
        le-rounds f x y (p - n) c (q - m) d C D (X.above k) (Y.above l) (omega (arith, apart p n d k, apart q m c l))
    go (yes k) (no l) =
        let a : n * d ≤ p * d = mul-le-mul_right d k in
        let b : q * c < m * c = mul-lt-mul_of_pos_right (lt_of_not-le l) C in
        absurd (omega arith)
    go (no k) (yes l) = opposite x y (X.below (lt_of_not-le k)).0 (Y.above l).0
    go (no k) (no l) =
        let a = lt_of_not-le k in
        let b = lt_of_not-le l in
        neg-le x y (le-rounds f (neg y) (neg x) (m - q) d (n - p) c D C (Y.below b) (X.below a)
        (omega (arith, apart n p d (le_of_lt a), apart m q c (le_of_lt b))))

module _ (f : Format) (s : Bool) (m : ℕ) (e : ℤ) (t : Bool) (n : ℕ) (d : ℤ) where
  abbrev gains : ℕ
  gains = gain s (m * up e) * down d + gain t (n * up d) * down e

  abbrev losses : ℕ
  losses = loss s (m * up e) * down d + loss t (n * up d) * down e

  add-signed : Signed f (add f (fin s m e) (fin t n d)) gains losses (down e * down d)
  unfolding add
  add-signed =
      let a = m * up e * down d in
      let b = n * up d * down e in
      let c = down e * down d in
      let C : 0 < c = mul-pos (down_pos e) (down_pos d) in
      let g : gain s a + gain t b ≡ gains = rw (gain-mul s (m * up e) (down d), gain-mul t (n * up d) (down e)) refl in
      let l : loss s a + loss t b ≡ losses = rw (loss-mul s (m * up e) (down d), loss-mul t (n * up d) (down e)) refl in
      record {
        above = λ h. subst (λ (z : ℕ). Rounds f (sum f s a t b c) z c) (omega (arith, g, l))
            (sum-rounds f s a t b c C (omega (arith, g, l)));
        below = λ h. rw (sum_below f s a t b c (omega (arith, g, l)))
            (subst (λ (z : ℕ). Rounds f (neg (round f true (loss s a + loss t b - (gain s a + gain t b)) c)) z c)
            (omega (arith, g, l)) (neg-rounds f (loss s a + loss t b - (gain s a + gain t b)) c C));
      }

-- ---- a sum grows with both terms

sum-finite : (f : Format) (s : Bool) (m : ℕ) (e : ℤ) (s' : Bool) (m' : ℕ) (e' : ℤ) (t : Bool) (n : ℕ) (d : ℤ)
    (t' : Bool) (n' : ℕ) (d' : ℤ)
    → T (le (fin s m e) (fin s' m' e')) → T (le (fin t n d) (fin t' n' d'))
    → T (le (add f (fin s m e) (fin t n d)) (add f (fin s' m' e') (fin t' n' d')))
sum-finite f s m e s' m' e' t n d t' n' d' h k =
    le-signed f (add f (fin s m e) (fin t n d)) (add f (fin s' m' e') (fin t' n' d'))
    (gains f s m e t n d) (losses f s m e t n d) (down e * down d) (gains f s' m' e' t' n' d')
    (losses f s' m' e' t' n' d') (down e' * down d')
    (mul-pos (down_pos e) (down_pos d)) (mul-pos (down_pos e') (down_pos d')) (add-signed f s m e t n d)
    (add-signed f s' m' e' t' n' d')
    (both (gain s (m * up e)) (loss s (m * up e)) (down e) (gain s' (m' * up e')) (loss s' (m' * up e')) (down e')
    (gain t (n * up d)) (loss t (n * up d)) (down d) (gain t' (n' * up d')) (loss t' (n' * up d')) (down d')
    ((le-fin s m e s' m' e').0 h) ((le-fin t n d t' n' d').0 k))
  where
    both : (g l c g' l' c' p n d p' n' d' : ℕ) → g * c' + l' * c ≤ g' * c + l * c' → p * d' + n' * d ≤ p' * d + n * d'
        → (g * d + p * c) * (c' * d') + (l' * d' + n' * c') * (c * d) ≤ (g' * d' + p' * c') * (c * d) +
        (l * d + n * c) * (c' * d')
    both g l c g' l' c' p n d p' n' d' h k =
        let x : (g * c' + l' * c) * (d * d') ≤ (g' * c + l * c') * (d * d') = mul-le-mul_right (d * d') h in
        let y : (p * d' + n' * d) * (c * c') ≤ (p' * d + n * d') * (c * c') = mul-le-mul_right (c * c') k in
        let from = fewer g p l' n' c d c' d' in
        let to : (g' * d' + p' * c') * (c * d) + (l * d + n * c) * (c' * d')
        ≡ (g' * c + l * c') * (d * d') + (p' * d + n * d') * (c * c') =
        rw (mul_comm d d', mul_comm c c') (fewer g' p' l n c' d' c d) in
        le_then (le_of_eq from) (le_then (add-le-add x y) (le_of_eq (sym to)))
      where
        fewer : (g p l n c d c' d' : ℕ) → (g * d + p * c) * (c' * d') + (l * d' + n * c') * (c * d)
            ≡ (g * c' + l * c) * (d * d') + (p * d' + n * d) * (c * c')
        fewer g p l n c d c' d' = omega arith

-- a sum with an infinity is a NaN or that infinity, on either side
add-inf : (f : Format) (s : Bool) (z : Float)
    → ((add f (inf s) z ≡ nan) ⊎ (add f (inf s) z ≡ inf s)) × ((add f z (inf s) ≡ nan) ⊎ (add f z (inf s) ≡ inf s))
unfolding add
add-inf f s nan = (inl refl, inl refl)
add-inf f true (inf true) = (inr refl, inr refl)
add-inf f true (inf false) = (inl refl, inl refl)
add-inf f false (inf true) = (inl refl, inl refl)
add-inf f false (inf false) = (inr refl, inr refl)
add-inf f s (fin t n d) = (inr refl, inr refl)

other : {x y : Float} → (x ≡ nan) ⊎ (x ≡ y) → T (not (is_nan x)) → x ≡ y
unfolding is_nan
other (inl e) known = absurd (rw e at known)
other (inr e) known = e

is-top : (x : Float) → T (le (inf false) x) → x ≡ inf false
unfolding le
is-top nan h = absurd h
is-top (inf true) h = absurd h
is-top (inf false) h = refl
is-top (fin t n d) h = absurd h

-- A NaN is in no order, so that both premises on NaN are needed; with finite terms they hold (`add-known`).
pub sum_mono : (f : Format) (u v w z : Float) → T (not (is_nan (add f u w))) → T (not (is_nan (add f v z))) → T (le u v)
    → T (le w z)
    → T (le (add f u w) (add f v z))
sum_mono f nan v w z p q h k = absurd (unfold le in h)
sum_mono f (inf true) v w z p q h k = rw (other (add-inf f true w).0 p) (le_bottom (add f v z) q)
sum_mono f (inf false) v w z p q h k =
    let top = is-top v h in
    let known : T (not (is_nan (add f (inf false) z))) = subst (λ (x : Float). T (not (is_nan (add f x z)))) top q in
    rw (top, other (add-inf f false z).0 known) (le-top (add f (inf false) w) p)
sum_mono f (fin s m e) v nan z p q h k = absurd (unfold le in k)
sum_mono f (fin s m e) v (inf true) z p q h k = rw (other (add-inf f true (fin s m e)).1 p) (le_bottom (add f v z) q)
sum_mono f (fin s m e) v (inf false) z p q h k =
    let top = is-top z k in
    let known : T (not (is_nan (add f v (inf false)))) = subst (λ (x : Float). T (not (is_nan (add f v x)))) top q in
    rw (top, other (add-inf f false v).1 known) (le-top (add f (fin s m e) (inf false)) p)
sum_mono f (fin s m e) nan (fin t n d) z p q h k = absurd (unfold le in h)
sum_mono f (fin s m e) (inf true) (fin t n d) z p q h k = absurd (unfold le in h)
sum_mono f (fin s m e) (inf false) (fin t n d) z p q h k =
    rw (other (add-inf f false z).0 q) (le-top (add f (fin s m e) (fin t n d)) p)
sum_mono f (fin s m e) (fin s' m' e') (fin t n d) nan p q h k = absurd (unfold le in k)
sum_mono f (fin s m e) (fin s' m' e') (fin t n d) (inf true) p q h k = absurd (unfold le in k)
sum_mono f (fin s m e) (fin s' m' e') (fin t n d) (inf false) p q h k =
    rw (other (add-inf f false (fin s' m' e')).1 q) (le-top (add f (fin s m e) (fin t n d)) p)
sum_mono f (fin s m e) (fin s' m' e') (fin t n d) (fin t' n' d') p q h k =
    sum-finite f s m e s' m' e' t n d t' n' d' h k

-- a sum of finite terms is no NaN
pub add-known : (f : Format) (x y : Float) → T (finite x) → T (finite y) → T (not (is_nan (add f x y)))
add-known f nan y a b = absurd a
add-known f (inf s) y a b = absurd a
add-known f (fin s m e) nan a b = absurd b
add-known f (fin s m e) (inf t) a b = absurd b
add-known f (fin s m e) (fin t n d) a b =
    le_right (add f (fin s m e) (fin t n d)) (add f (fin s m e) (fin t n d))
    (sum-finite f s m e s m e t n d t n d (le_refl (fin s m e) (unfold is_nan in tt))
    (le_refl (fin t n d) (unfold is_nan in tt)))

-- ---- a difference grows as its first value grows and its second falls

finite-neg : (x : Float) → T (finite x) → T (finite (neg x))
unfolding neg
finite-neg nan a = a
finite-neg (inf s) a = a
finite-neg (fin s m e) a = tt

finite-known : (x : Float) → T (finite x) → T (not (is_nan x))
unfolding is_nan
finite-known nan a = a
finite-known (inf s) a = tt
finite-known (fin s m e) a = tt

module _ (f : Format) where
  pub sub-known : (x y : Float) → T (finite x) → T (finite y) → T (not (is_nan (sub f x y)))
  unfolding sub
  sub-known x y a b = add-known f x (neg y) a (finite-neg y b)

  pub difference_mono : (u s v t : Float) → T (not (is_nan (sub f u s))) → T (not (is_nan (sub f v t))) → T (le u v)
      → T (le t s)
      → T (le (sub f u s) (sub f v t))
  unfolding sub
  difference_mono u s v t p q h k = sum_mono f u v (neg s) (neg t) p q h (le-neg t s k)

  -- from one value on, of finite values
  pub difference-grows : (lo x y : Float) → T (finite lo) → T (finite x) → T (finite y) → T (le x y)
      → T (le (sub f x lo) (sub f y lo))
  difference-grows lo x y a b c h =
      difference_mono x lo y lo (sub-known x lo b a) (sub-known y lo c a) h (le_refl lo (finite-known lo a))

  itself-nonneg : (x : Float) → T (finite x) → T (nonneg (sub f x x))
  unfolding sub neg
  itself-nonneg nan a = absurd a
  itself-nonneg (inf s) a = absurd a
  itself-nonneg (fin s m e) a = ((add-signed f s m e (not s) m e).above (level s)).0
    where
      level : (s : Bool) → losses f s m e (not s) m e ≤ gains f s m e (not s) m e
      level true = omega arith
      level false = omega arith

  pub difference-nonneg : (lo x : Float) → T (finite lo) → T (finite x) → T (le lo x) → T (nonneg (sub f x lo))
  difference-nonneg lo x a b h =
      nonneg-up (sub f lo lo) (sub f x lo) (itself-nonneg lo a) (difference-grows lo lo x a a b h)

-- ---- a difference of values of the format is above zero, or they are equal: it is at least one unit

-- two numbers of units apart are a unit apart
apart : (p q g u v c l : ℕ) → p ≡ q + g → p * l ≡ u * c → q * l ≡ v * c → 0 < g → 0 < l → c ≤ g * l
apart p q g u v c l is a b some-g some-l =
    let sum : p * l ≡ (q + g) * l = ap (λ (z : ℕ). z * l) is in
    let more : v * c < u * c = omega (arith, mul-pos some-g some-l) in
    let next : v < u = lt_of_mul-lt-mul_right c more in
    let least : suc v * c ≤ u * c = mul-le-mul_right c next in
    omega arith

unit-above : (f : Format) → T (lt (fin false 0 (pos 0)) (round f false 1 (2 ^ low f)))
unfolding round size span climb units odd lt
unit-above binary32 = tt
unit-above binary64 = tt

rounds-above : (f : Format) (g c : ℕ) → 0 < c → c ≤ g * 2 ^ low f → T (lt (fin false 0 (pos 0)) (round f false g c))
rounds-above f g c some-c h =
    lt_of_lt_of_le (fin false 0 (pos 0)) (round f false 1 (2 ^ low f)) (round f false g c) (unit-above f)
    (round_mono f 1 (2 ^ low f) g c (pow_pos (low f)) some-c (omega arith))

module _ (f : Format) (m : ℕ) (e : ℤ) (n : ℕ) (d : ℤ) (H : Held f m e) (K : Held f n d) where
  abbrev A : ℕ
  A = m * up e * down d

  abbrev B : ℕ
  B = n * up d * down e

  units-apart : (p q g u v : ℕ) → p ≡ q + g → p * 2 ^ low f ≡ u * (down e * down d)
      → q * 2 ^ low f ≡ v * (down e * down d) → 0 < g → T (lt (fin false 0 (pos 0)) (round f false g (down e * down d)))
  units-apart p q g u v is a b some-g =
      rounds-above f g (down e * down d) (mul-pos (down_pos e) (down_pos d))
      (apart p q g u v (down e * down d) (2 ^ low f) is a b some-g (pow_pos (low f)))

  units-a : (u : ℕ) × (A * 2 ^ low f ≡ u * (down e * down d))
  units-a =
      let (i, is) = held-shift f m e H in
      let more : m * up e * 2 ^ low f * down d ≡ m * 2 ^ i * down e * down d = ap (λ (z : ℕ). z * down d) is in
      (m * 2 ^ i, omega arith)

  units-b : (v : ℕ) × (B * 2 ^ low f ≡ v * (down e * down d))
  units-b =
      let (j, is) = held-shift f n d K in
      let more : n * up d * 2 ^ low f * down e ≡ n * 2 ^ j * down d * down e = ap (λ (z : ℕ). z * down e) is in
      (n * 2 ^ j, omega arith)

  sub-above : (s t : Bool) → T (lt (fin t n d) (fin s m e))
      → T (lt (fin false 0 (pos 0)) (sub f (fin s m e) (fin t n d)))
  unfolding lt sub add neg sum
  sub-above true false h = absurd h
  sub-above false true h =
      let (u, a) = units-a in
      let (v, b) = units-b in
      units-apart (A + B) 0 (A + B) (u + v) 0 (omega arith) (omega arith) (omega arith)
      (omega (arith, ltb→lt 0 (B + A) h))
  sub-above false false h =
      let l = ltb→lt B A h in
      rw (le-ltb A B (omega arith)) (units-apart A B (A - B) units-a.0 units-b.0 (omega arith) units-a.1
      units-b.1 (omega arith))
  sub-above true true h =
      let l = ltb→lt A B h in
      rw (lt-ltb A B l) (units-apart B A (B - A) units-b.0 units-a.0 (omega arith) units-b.1 units-a.1
      (omega arith))

pub difference-above : (f : Format) (lo hi : Float) → T (fits f lo) → T (fits f hi) → T (finite lo) → T (finite hi)
    → T (lt lo hi)
    → T (lt (fin false 0 (pos 0)) (sub f hi lo))
difference-above f nan hi F G a b h = absurd a
difference-above f (inf s) hi F G a b h = absurd a
difference-above f (fin t n d) nan F G a b h = absurd b
difference-above f (fin t n d) (inf s) F G a b h = absurd b
difference-above f (fin t n d) (fin s m e) F G a b h = sub-above f m e n d (held f s m e G) (held f t n d F) s t h

-- what lies between finite values is finite
pub between : (lo x hi : Float) → T (finite lo) → T (finite hi) → T (le lo x) → T (le x hi) → T (finite x)
unfolding le lt eq
between nan x hi a b h k = absurd a
between (inf s) x hi a b h k = absurd a
between (fin s m e) nan hi a b h k = absurd h
between (fin s m e) (inf true) hi a b h k = absurd h
between (fin s m e) (inf false) nan a b h k = absurd b
between (fin s m e) (inf false) (inf t) a b h k = absurd b
between (fin s m e) (inf false) (fin t n d) a b h k = absurd k
between (fin s m e) (fin t n d) hi a b h k = tt
