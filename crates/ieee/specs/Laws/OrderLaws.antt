-- The order of floats: `le` and `lt` compare by value, so -0 equals +0, and a NaN is in no order. `nonneg` is "not
-- below zero" by value, so -0 counts. Assumes nothing.
use Rattle.std.specs.Prelude.{ℕ, ◌+◌, ◌*◌, ◌≤◌, ◌<◌, ◌≡◌, refl, Bool, true, false, not, ◌&&◌, ◌||◌, cond, ◌⊎◌, ◌↔◌, T}
use Rattle.std.specs.Prelude.{ltb, eqb, ℤ, pos, Float}
use Rattle.std.proofs.Common.{zero-le, sym, ap, inl, inr, le_of_lt, le_of_eq, mul-pos, eq-or-lt_of_le, eq-zero-or-pos}
use Rattle.std.proofs.Common.{lt_of_not-le, zero-mul, le_of_mul-le-mul_right, mul-le-mul_right, arith, eqb→eq, ltb→lt}
use Rattle.std.proofs.Common.{lt→ltb, T_not}
use Rattle.std.proofs.Math.Decide.{dec_le}
use Rattle.std.proofs.Math.Dec.{not_T}
use Rattle.std.specs.Float.{nan, inf, fin}
use Rattle.std.specs.Float.Ieee.{up, down, below, level, lt, eq, le, is_nan}
use Rattle.std.specs.Float.Ieee.Fits.{eq→eqb, up_pos, down_pos, and_i, and_l, and_r}
use Rattle.std.specs.Float.Ieee.Scale.{finite}

-- ---- the order of finite values, as one of numbers: the sizes a and b count on one side or the other by their signs

abbrev pub gain : Bool → ℕ → ℕ
gain s a = cond s 0 a

abbrev pub loss : Bool → ℕ → ℕ
loss s a = cond s a 0

pub or_split : (a b : Bool) → T (a || b) → T a ⊎ T b
or_split true b t = inl tt
or_split false b t = inr t

pub or_left : (a b : Bool) → T a → T (a || b)
or_left true b t = tt
or_left false b t = absurd t

pub or_right : (a b : Bool) → T b → T (a || b)
or_right true b t = tt
or_right false b t = t

le_test : (a b : ℕ) (r : Bool) → (T r → a ≤ b) → (a ≡ b → T r) → T (ltb a b || r) ↔ (a ≤ b)
le_test a b r h k = (
  λ t. elim (or_split (ltb a b) r t) [ inl u ↦ le_of_lt (ltb→lt a b u) | inr u ↦ h u ],
  λ l. elim (eq-or-lt_of_le l) [ inl e ↦ or_right (ltb a b) r (k e) | inr u ↦ or_left (ltb a b) r (lt→ltb a b u) ],
)

zeros : (a b : ℕ) → T (eqb a b && eqb a 0) ↔ (a + b ≤ 0)
zeros a b = (
  λ t. let e : a ≡ b = eqb→eq a b (and_l (eqb a b) (eqb a 0) t) in let z : a ≡ 0 = eqb→eq a 0
      (and_r (eqb a b) (eqb a 0) t) in omega arith,
  λ l. let e : a ≡ b = omega arith in let z : a ≡ 0 = omega arith in and_i (eqb a b) (eqb a 0) (eq→eqb e) (eq→eqb z),
)

pub le-sizes : (s : Bool) (a : ℕ) (t : Bool) (b : ℕ)
    → T (below s a t b || level s a t b) ↔ (gain s a + loss t b ≤ gain t b + loss s a)
le-sizes false a false b =
    let i =
    le_test a b (eqb a b && true) (λ t. le_of_eq (eqb→eq a b (and_l (eqb a b) true t)))
    (λ e. and_i (eqb a b) true (eq→eqb e) tt) in
    (λ t. let l = i.0 t in omega arith, λ l. i.1 (omega arith))
le-sizes false a true b = (λ t. let l = (zeros a b).0 t in omega arith, λ l. (zeros a b).1 (omega arith))
le-sizes true a false b = (
  λ t. omega arith,
  λ l. (le_test 0 (a + b) (eqb a b && eqb a 0) (λ t. zero-le) (λ e. (zeros a b).1 (omega arith))).1
      zero-le,
)
le-sizes true a true b =
    let i =
    le_test b a (eqb a b && true) (λ t. le_of_eq (sym (eqb→eq a b (and_l (eqb a b) true t))))
    (λ e. and_i (eqb a b) true (eq→eqb (sym e)) tt) in
    (λ t. let l = i.0 t in omega arith, λ l. i.1 (omega arith))

lt-sizes : (s : Bool) (a : ℕ) (t : Bool) (b : ℕ) → T (below s a t b) ↔ (gain s a + loss t b < gain t b + loss s a)
lt-sizes false a false b = (λ t. omega (arith, ltb→lt a b t), λ l. lt→ltb a b (omega arith))
lt-sizes false a true b = (λ t. absurd t, λ l. absurd (omega arith))
lt-sizes true a false b = (λ t. omega (arith, ltb→lt 0 (a + b) t), λ l. lt→ltb 0 (a + b) (omega arith))
lt-sizes true a true b = (λ t. omega (arith, ltb→lt b a t), λ l. lt→ltb b a (omega arith))

-- three values gain - loss over a denominator
chain : (px nx dx py ny dy pz nz dz : ℕ) → 0 < dy → px * dy + ny * dx ≤ py * dx + nx * dy
    → py * dz + nz * dy ≤ pz * dy + ny * dz
    → px * dz + nz * dx ≤ pz * dx + nx * dz
chain px nx dx py ny dy pz nz dz D h k =
    let a : (px * dy + ny * dx) * dz ≤ (py * dx + nx * dy) * dz = mul-le-mul_right dz h in
    let b : (py * dz + nz * dy) * dx ≤ (pz * dy + ny * dz) * dx = mul-le-mul_right dx k in
    le_of_mul-le-mul_right (omega arith) D

pub gain-mul : (s : Bool) (a k : ℕ) → gain s (a * k) ≡ gain s a * k
gain-mul true a k = sym (zero-mul k)
gain-mul false a k = refl

pub loss-mul : (s : Bool) (a k : ℕ) → loss s (a * k) ≡ loss s a * k
loss-mul true a k = refl
loss-mul false a k = sym (zero-mul k)

sides : (s : Bool) (a k : ℕ) (t : Bool) (b j : ℕ) → gain s (a * k) + loss t (b * j) ≡ gain s a * k + loss t b * j
sides s a k t b j = rw (gain-mul s a k, loss-mul t b j)

module _ (s : Bool) (m : ℕ) (e : ℤ) (t : Bool) (n : ℕ) (d : ℤ) where
  abbrev over : ℕ
  over = gain s (m * up e) * down d + loss t (n * up d) * down e

  abbrev under : ℕ
  under = gain t (n * up d) * down e + loss s (m * up e) * down d

  pub le-fin : T (le (fin s m e) (fin t n d)) ↔ (over ≤ under)
  unfolding le
  le-fin =
      let i = le-sizes s (m * up e * down d) t (n * up d * down e) in
      let l = sides s (m * up e) (down d) t (n * up d) (down e) in
      let r = sides t (n * up d) (down e) s (m * up e) (down d) in
      (λ h. rw (← l, ← r) (i.0 h), λ h. i.1 (rw (l, r) h))

  lt-fin : T (lt (fin s m e) (fin t n d)) ↔ (over < under)
  unfolding lt
  lt-fin =
      let i = lt-sizes s (m * up e * down d) t (n * up d * down e) in
      let l = sides s (m * up e) (down d) t (n * up d) (down e) in
      let r = sides t (n * up d) (down e) s (m * up e) (down d) in
      (λ h. rw (← l, ← r) (i.0 h), λ h. i.1 (rw (l, r) h))

-- ---- a total order on the values that are not NaN

abbrev pub nonneg : Float → Bool
nonneg nan = false
nonneg (inf s) = not s
nonneg (fin s m e) = not s || eqb m 0

-- what is in order is no NaN
pub le_left : (x y : Float) → T (le x y) → T (not (is_nan x))
unfolding le is_nan
le_left nan y h = h
le_left (inf s) y h = tt
le_left (fin s m e) y h = tt

pub le_right : (x y : Float) → T (le x y) → T (not (is_nan y))
unfolding le is_nan
le_right nan y h = absurd h
le_right (inf s) nan h = h
le_right (inf s) (inf t) h = tt
le_right (inf s) (fin t n d) h = tt
le_right (fin s m e) nan h = h
le_right (fin s m e) (inf t) h = tt
le_right (fin s m e) (fin t n d) h = tt

-- the least value and the greatest
pub le_bottom : (x : Float) → T (not (is_nan x)) → T (le (inf true) x)
unfolding le is_nan
le_bottom nan h = h
le_bottom (inf true) h = tt
le_bottom (inf false) h = tt
le_bottom (fin s m e) h = tt

pub le-top : (x : Float) → T (not (is_nan x)) → T (le x (inf false))
unfolding le is_nan
le-top nan h = h
le-top (inf true) h = tt
le-top (inf false) h = tt
le-top (fin s m e) h = tt

pub le_refl : (x : Float) → T (not (is_nan x)) → T (le x x)
unfolding le is_nan
le_refl nan h = h
le_refl (inf true) h = tt
le_refl (inf false) h = tt
le_refl (fin s m e) h = (le-fin s m e s m e).1 (omega arith)

pub le_trans : (x y z : Float) → T (le x y) → T (le y z) → T (le x z)
unfolding le
le_trans nan y z h k = absurd h
le_trans (inf true) y z h k = le_bottom z (le_right y z k)
le_trans (inf false) nan z h k = absurd h
le_trans (inf false) (inf true) z h k = absurd h
le_trans (inf false) (inf false) z h k = k
le_trans (inf false) (fin t n d) z h k = absurd h
le_trans (fin s m e) nan z h k = absurd h
le_trans (fin s m e) (inf true) z h k = absurd h
le_trans (fin s m e) (inf false) nan h k = absurd k
le_trans (fin s m e) (inf false) (inf true) h k = absurd k
le_trans (fin s m e) (inf false) (inf false) h k = tt
le_trans (fin s m e) (inf false) (fin u o b) h k = absurd k
le_trans (fin s m e) (fin t n d) nan h k = absurd k
le_trans (fin s m e) (fin t n d) (inf true) h k = absurd k
le_trans (fin s m e) (fin t n d) (inf false) h k = tt
le_trans (fin s m e) (fin t n d) (fin u o b) h k =
    (le-fin s m e u o b).1
    (chain (gain s (m * up e)) (loss s (m * up e)) (down e) (gain t (n * up d)) (loss t (n * up d)) (down d)
    (gain u (o * up b)) (loss u (o * up b)) (down b)
    (down_pos d)
    ((le-fin s m e t n d).0 h) ((le-fin t n d u o b).0 k))

-- below, or at least
pub lt-or-le : (x y : Float) → T (not (is_nan x)) → T (not (is_nan y)) → T (lt x y) ⊎ T (le y x)
unfolding lt le is_nan
lt-or-le nan y h k = absurd h
lt-or-le (inf s) nan h k = absurd k
lt-or-le (inf true) (inf true) h k = inr tt
lt-or-le (inf true) (inf false) h k = inl tt
lt-or-le (inf false) (inf true) h k = inr tt
lt-or-le (inf false) (inf false) h k = inr tt
lt-or-le (inf true) (fin t n d) h k = inl tt
lt-or-le (inf false) (fin t n d) h k = inr tt
lt-or-le (fin s m e) nan h k = absurd k
lt-or-le (fin s m e) (inf true) h k = inr tt
lt-or-le (fin s m e) (inf false) h k = inl tt
lt-or-le (fin s m e) (fin t n d) h k =
    go (dec_le (gain t (n * up d) * down e + loss s (m * up e) * down d)
    (gain s (m * up e) * down d + loss t (n * up d) * down e))
  where
    go : Dec (gain t (n * up d) * down e + loss s (m * up e) * down d ≤ gain s (m * up e) * down d + loss t
        (n * up d) * down e)
        → T (lt (fin s m e) (fin t n d)) ⊎ T (le (fin t n d) (fin s m e))
    go (yes l) = inr ((le-fin t n d s m e).1 l)
    go (no l) = inl ((lt-fin s m e t n d).1 (lt_of_not-le l))

pub lt→le : (x y : Float) → T (lt x y) → T (le x y)
unfolding le
lt→le x y h = or_left (lt x y) (eq x y) h

pub not_le_of_lt : (x y : Float) → T (lt x y) → T (le y x) → ⊥
unfolding lt le
not_le_of_lt nan y h k = h
not_le_of_lt (inf s) nan h k = h
not_le_of_lt (inf true) (inf true) h k = h
not_le_of_lt (inf true) (inf false) h k = k
not_le_of_lt (inf false) (inf t) h k = h
not_le_of_lt (inf true) (fin t n d) h k = k
not_le_of_lt (inf false) (fin t n d) h k = h
not_le_of_lt (fin s m e) nan h k = h
not_le_of_lt (fin s m e) (inf true) h k = h
not_le_of_lt (fin s m e) (inf false) h k = k
not_le_of_lt (fin s m e) (fin t n d) h k = omega (arith, (lt-fin s m e t n d).0 h, (le-fin t n d s m e).0 k)

pub eq→le : (x y : Float) → T (eq x y) → T (le x y)
unfolding le
eq→le x y h = or_right (lt x y) (eq x y) h

pub not-eq-of-lt : (x y : Float) → T (lt x y) → T (not (eq y x))
not-eq-of-lt x y h = not_T (eq y x) (λ (e : T (eq y x)). not_le_of_lt x y h (eq→le y x e))

pub le_total : (x y : Float) → T (not (is_nan x)) → T (not (is_nan y)) → T (le x y) ⊎ T (le y x)
le_total x y h k = elim (lt-or-le x y h k) [ inl l ↦ inl (lt→le x y l) | inr l ↦ inr l ]

pub le_of_not_lt : (x y : Float) → T (not (is_nan x)) → T (not (is_nan y)) → T (not (lt y x)) → T (le x y)
le_of_not_lt x y h k n = elim (lt-or-le y x k h) [ inl l ↦ absurd (T_not (lt y x) n l) | inr l ↦ l ]

pub lt_of_lt_of_le : (x y z : Float) → T (lt x y) → T (le y z) → T (lt x z)
lt_of_lt_of_le x y z h k =
    elim (lt-or-le x z (le_left x y (lt→le x y h))
    (le_right y z k)) [ inl l ↦ l | inr l ↦ absurd (not_le_of_lt x y h (le_trans y z x k l)) ]

pub lt_of_le_of_lt : (x y z : Float) → T (le x y) → T (lt y z) → T (lt x z)
lt_of_le_of_lt x y z h k =
    elim (lt-or-le x z (le_left x y h)
    (le_right y z (lt→le y z k))) [ inl l ↦ l | inr l ↦ absurd (not_le_of_lt y z k (le_trans z x y l h)) ]

-- ---- not below zero

times-pos : (m : ℕ) (e : ℤ) → m * up e ≤ 0 → m ≡ 0
times-pos m e h = elim (eq-zero-or-pos m) [ inl z ↦ z | inr p ↦ absurd (omega (arith, mul-pos p (up_pos e))) ]

pub nonneg→le : (x : Float) → T (nonneg x) → T (le (fin false 0 (pos 0)) x)
unfolding le
nonneg→le nan h = h
nonneg→le (inf true) h = h
nonneg→le (inf false) h = tt
nonneg→le (fin true m e) h = (le-fin false 0 (pos 0) true m e).1 (omega (
  arith,
  ap (λ (z : ℕ). z * up e)
      (eqb→eq m 0 h),
))
nonneg→le (fin false m e) h = (le-fin false 0 (pos 0) false m e).1 (omega arith)

pub le→nonneg : (x : Float) → T (le (fin false 0 (pos 0)) x) → T (nonneg x)
unfolding le
le→nonneg nan h = h
le→nonneg (inf true) h = h
le→nonneg (inf false) h = tt
le→nonneg (fin true m e) h = eq→eqb (times-pos m e (omega (arith, (le-fin false 0 (pos 0) true m e).0 h)))
le→nonneg (fin false m e) h = tt

pub nonneg-le : (x : Float) → T (nonneg x) ↔ T (le (fin false 0 (pos 0)) x)
nonneg-le x = (nonneg→le x, le→nonneg x)

pub nonneg-known : (x : Float) → T (nonneg x) → T (not (is_nan x))
nonneg-known x h = le_right (fin false 0 (pos 0)) x (nonneg→le x h)

-- what is at least a value not below zero is not below zero
pub nonneg-up : (x y : Float) → T (nonneg x) → T (le x y) → T (nonneg y)
nonneg-up x y h k = le→nonneg y (le_trans (fin false 0 (pos 0)) x y (nonneg→le x h) k)

-- what is not below zero and at most a finite value is finite
pub finite-below : (x y : Float) → T (nonneg x) → T (le x y) → T (finite y) → T (finite x)
unfolding le
finite-below nan y p h b = absurd p
finite-below (inf true) y p h b = absurd p
finite-below (inf false) nan p h b = absurd b
finite-below (inf false) (inf t) p h b = absurd b
finite-below (inf false) (fin t n d) p h b = absurd h
finite-below (fin s m e) y p h b = tt
