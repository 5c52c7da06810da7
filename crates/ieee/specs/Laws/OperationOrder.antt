-- How sums, differences, products and quotients keep the order of floats, over the format but for the last lemma.
-- Assumes nothing.
use Rattle.std.specs.Prelude.{ℕ, ◌+◌, ◌*◌, ◌≤◌, ◌<◌, ◌≡◌, refl, Bool, true, false, not, ◌&&◌, ◌||◌, cond, ◌⊎◌, T, eqb}
use Rattle.std.specs.Prelude.{ℤ, pos, Float}
use Rattle.std.proofs.Common.{zero-le, sym, ◌∙◌, ap, subst, inl, inr, arith, eqb→eq, ltb→lt, lt→ltb, le-ltb, ne_eqb}
use native.Mathlib.Nat.{mul-pos, mul_comm, mul-le-mul, mul-one, eq-zero-or-pos, zero-mul, mul-le-mul_right}
use Rattle.std.specs.Float.{Format, nan, inf, fin}
use Rattle.std.specs.Float.Ieee.{binary32, unlike, up, down, round, sum, neg, add, sub, mul, div, lt, le, fits}
use Rattle.std.specs.Float.Ieee.{is_nan, of_bits}
use Rattle.std.specs.Float.Ieee.Fits.{up_pos, down_pos, and_l, and_r}
use Rattle.std.specs.Float.Ieee.Scale.{finite}
use Rattle.std.specs.Float.Ieee.Positive.{num, den, den_pos, positive}
use Rattle.ieee.specs.Choose.{fabs}
use Rattle.ieee.specs.Laws.FormatLaws.{fabs-fits, round_self}
use Rattle.ieee.specs.Laws.OrderLaws.{finite-below, gain, le_refl, le_right, le-sizes, le-top, le→nonneg, loss}
use Rattle.ieee.specs.Laws.OrderLaws.{lt_of_lt_of_le, lt→le, nonneg, nonneg→le, nonneg-known, nonneg-up, or_right}
use Rattle.ieee.specs.Laws.RoundOrder.{Rounds, rounds, le-rounds}
use Rattle.ieee.specs.Laws.SumOrder.{sum-rounds, sum_mono, sub-known, difference_mono, difference-nonneg}

-- ---- each operation on values that are finite and not below zero

-- such a value's size counts as a gain, whatever its sign
own : (s : Bool) (m : ℕ) (e : ℤ) (k : ℕ) → T (nonneg (fin s m e))
    → (gain s (m * up e * k) ≡ m * up e * k) × (loss s (m * up e * k) ≡ 0)
own true m e k h =
    let z : m * up e * k ≡ 0 = ap (λ (z : ℕ). z * up e * k) (eqb→eq m 0 h) ∙ ap (λ (z : ℕ). z * k) (zero-mul (up e))
    ∙ zero-mul k in (sym z, z)
own false m e k h = (refl, refl)

cross : (x y : Float) → T (nonneg x) → T (nonneg y) → T (finite x) → T (finite y) → T (le x y)
    → num x * den y ≤ num y * den x
unfolding le
cross nan y p q a b h = absurd a
cross (inf s) y p q a b h = absurd a
cross (fin s m e) nan p q a b h = absurd b
cross (fin s m e) (inf t) p q a b h = absurd b
cross (fin s m e) (fin t n d) p q a b h =
    omega (
      arith,
      (le-sizes s (m * up e * down d) t (n * up d * down e)).0 h,
      own s m e (down d) p,
      own t n d (down e) q,
    )

add_rounds : (f : Format) (x y : Float) → T (nonneg x) → T (nonneg y) → T (finite x) → T (finite y)
    → Rounds f (add f x y) (num x * den y + num y * den x) (den x * den y)
unfolding add
add_rounds f nan y p q a b = absurd a
add_rounds f (inf s) y p q a b = absurd a
add_rounds f (fin s m e) nan p q a b = absurd b
add_rounds f (fin s m e) (inf t) p q a b = absurd b
add_rounds f (fin s m e) (fin t n d) p q a b =
    let A = m * up e * down d in
    let B = n * up d * down e in
    let g = own s m e (down d) p in
    let h = own t n d (down e) q in
    subst (λ (z : ℕ). Rounds f (sum f s A t B (down e * down d)) z (down e * down d)) (omega (arith, g, h))
    (sum-rounds f s A t B (down e * down d) (mul-pos (down_pos e) (down_pos d)) (omega (arith, g, h)))

-- a product or a quotient with a sign has a factor that is zero
zero-size : (m : ℕ) (e : ℤ) (k : ℕ) → T (eqb m 0) → m * up e * k ≡ 0
zero-size m e k h = ap (λ (z : ℕ). z * up e * k) (eqb→eq m 0 h) ∙ ap (λ (z : ℕ). z * k) (zero-mul (up e)) ∙ zero-mul k

mul-rounds : (f : Format) (x y : Float) → T (nonneg x) → T (nonneg y) → T (finite x) → T (finite y)
    → Rounds f (mul f x y) (num x * num y) (den x * den y)
unfolding mul
mul-rounds f nan y p q a b = absurd a
mul-rounds f (inf s) y p q a b = absurd a
mul-rounds f (fin s m e) nan p q a b = absurd b
mul-rounds f (fin s m e) (inf t) p q a b = absurd b
mul-rounds f (fin s m e) (fin t n d) p q a b =
    rounds f (unlike s t) (m * up e * (n * up d)) (down e * down d) (m * up e * (n * up d))
    (mul-pos (down_pos e) (down_pos d)) refl (none s t p q)
  where
    none : (s t : Bool) → T (nonneg (fin s m e)) → T (nonneg (fin t n d)) → T (unlike s t) → m * up e * (n * up d) ≡ 0
    none true true p q u = absurd u
    none true false p q u = zero-size m e (n * up d) p
    none false true p q u = mul_comm (m * up e) (n * up d) ∙ zero-size n d (m * up e) q
    none false false p q u = absurd u

div-rounds : (f : Format) (x y : Float) → T (nonneg x) → T (finite x) → T (positive y)
    → Rounds f (div f x y) (num x * den y) (num y * den x)
unfolding div
div-rounds f nan y p a q = absurd a
div-rounds f (inf s) y p a q = absurd a
div-rounds f (fin s m e) nan p a q = absurd q
div-rounds f (fin s m e) (inf t) p a q = absurd q
div-rounds f (fin s m e) (fin true n d) p a q = absurd q
div-rounds f (fin s m e) (fin false n d) p a q =
    rw (ne_eqb n 0 (λ (z : n ≡ 0). omega (arith, ltb→lt 0 n q)))
    (rounds f (unlike s false) (m * up e * down d) (n * up d * down e) (m * up e * down d)
    (mul-pos (mul-pos (ltb→lt 0 n q) (up_pos d)) (down_pos e)) refl
    (none s p))
  where
    none : (s : Bool) → T (nonneg (fin s m e)) → T (unlike s false) → m * up e * down d ≡ 0
    none true p u = zero-size m e (down d) p
    none false p u = absurd u

-- ---- above zero

pub lt→positive : (x : Float) → T (finite x) → T (lt (fin false 0 (pos 0)) x) → T (positive x)
unfolding lt
lt→positive nan a h = absurd a
lt→positive (inf s) a h = absurd a
lt→positive (fin true m e) a h = absurd h
lt→positive (fin false m e) a h =
    lt→ltb 0 m (elim (eq-zero-or-pos m) [
      | inl z ↦ absurd (omega (arith, ltb→lt (0 * 1 * down e) (m * up e * 1) h, ap (λ (k : ℕ). k * up e) z))
      | inr p ↦ p
    ])

pub positive→lt : (x : Float) → T (positive x) → T (lt (fin false 0 (pos 0)) x)
unfolding lt
positive→lt nan h = h
positive→lt (inf s) h = absurd h
positive→lt (fin true m e) h = h
positive→lt (fin false m e) h =
    lt→ltb (0 * 1 * down e) (m * up e * 1) (omega (arith, mul-pos (ltb→lt 0 m h) (up_pos e)))

positive-nonneg : (x : Float) → T (positive x) → T (nonneg x)
positive-nonneg x h = le→nonneg x (lt→le (fin false 0 (pos 0)) x (positive→lt x h))

-- ---- sums, differences, products and quotients that are not below zero

pub add-nonneg : (f : Format) (x y : Float) → T (nonneg x) → T (nonneg y) → T (nonneg (add f x y))
unfolding add
add-nonneg f nan y p q = absurd p
add-nonneg f (inf true) y p q = absurd p
add-nonneg f (inf false) nan p q = absurd q
add-nonneg f (inf false) (inf true) p q = absurd q
add-nonneg f (inf false) (inf false) p q = tt
add-nonneg f (inf false) (fin t n d) p q = tt
add-nonneg f (fin s m e) nan p q = absurd q
add-nonneg f (fin s m e) (inf true) p q = absurd q
add-nonneg f (fin s m e) (inf false) p q = tt
add-nonneg f (fin s m e) (fin t n d) p q = (add_rounds f (fin s m e) (fin t n d) p q tt tt).0

-- the difference, for a y up to x
pub sub-nonneg : (f : Format) (x y : Float) → T (nonneg y) → T (finite x) → T (le y x) → T (nonneg (sub f x y))
sub-nonneg f x y q a l = difference-nonneg f y x (finite-below y x q l a) a l

inf-or-nan : (b t : Bool) → T (not t || b) → (cond b nan (inf t) ≡ nan) ⊎ T (nonneg (cond b nan (inf t)))
inf-or-nan true t h = inl refl
inf-or-nan false true h = absurd h
inf-or-nan false false h = inr tt

-- 0 times an infinity is a NaN
pub mul-nonneg : (f : Format) (x y : Float) → T (nonneg x) → T (nonneg y) → (mul f x y ≡ nan) ⊎ T (nonneg (mul f x y))
unfolding mul
mul-nonneg f nan y p q = absurd p
mul-nonneg f (inf true) y p q = absurd p
mul-nonneg f (inf false) nan p q = absurd q
mul-nonneg f (inf false) (inf true) p q = absurd q
mul-nonneg f (inf false) (inf false) p q = inr tt
mul-nonneg f (inf false) (fin true n d) p q = inf-or-nan (eqb n 0) true q
mul-nonneg f (inf false) (fin false n d) p q = inf-or-nan (eqb n 0) false tt
mul-nonneg f (fin s m e) nan p q = absurd q
mul-nonneg f (fin s m e) (inf true) p q = absurd q
mul-nonneg f (fin true m e) (inf false) p q = inf-or-nan (eqb m 0) true p
mul-nonneg f (fin false m e) (inf false) p q = inf-or-nan (eqb m 0) false tt
mul-nonneg f (fin s m e) (fin t n d) p q = inr (mul-rounds f (fin s m e) (fin t n d) p q tt tt).0

-- An infinity over an infinity is a NaN. The divisor is above zero: over -0 a value above zero is minus infinity.
pub div-nonneg : (f : Format) (x y : Float) → T (nonneg x) → T (lt (fin false 0 (pos 0)) y)
    → (div f x y ≡ nan) ⊎ T (nonneg (div f x y))
unfolding div lt
div-nonneg f nan y p q = absurd p
div-nonneg f (inf true) y p q = absurd p
div-nonneg f (inf false) nan p q = absurd q
div-nonneg f (inf false) (inf t) p q = inl refl
div-nonneg f (inf false) (fin true n d) p q = absurd q
div-nonneg f (inf false) (fin false n d) p q = inr tt
div-nonneg f (fin s m e) nan p q = absurd q
div-nonneg f (fin s m e) (inf t) p q = inr (or_right (not (unlike s t)) (eqb 0 0) tt)
div-nonneg f (fin s m e) (fin t n d) p q =
    inr (div-rounds f (fin s m e) (fin t n d) p tt (lt→positive (fin t n d) tt q)).0

-- ---- the operations keep the order

module _ (f : Format) (u v w z : Float) (p : T (nonneg u)) (q : T (nonneg w)) (h : T (le u v)) (k : T (le w z)) where
  nonneg-v : T (nonneg v)
  nonneg-v = nonneg-up u v p h

  nonneg-z : T (nonneg z)
  nonneg-z = nonneg-up w z q k

  mul-finite : T (finite v) → T (finite z) → T (le (mul f u w) (mul f v z))
  mul-finite a b =
      let c = finite-below u v p h a in
      let d = finite-below w z q k b in
      le-rounds f (mul f u w) (mul f v z) (num u * num w) (den u * den w) (num v * num z) (den v * den z)
      (mul-pos (den_pos u) (den_pos w)) (mul-pos (den_pos v) (den_pos z)) (mul-rounds f u w p q c d)
      (mul-rounds f v z nonneg-v nonneg-z a b)
      (omega (arith, mul-le-mul (cross u v p nonneg-v c a h) (cross w z q nonneg-z d b k)))

-- what is at most a result of finite operands is at most the result, where any other is infinite
under : (x y r z : Float) → T (not (is_nan z)) → (T (not (finite x && finite y)) → r ≡ inf false)
    → (T (finite x) → T (finite y) → T (le z r)) → T (le z r)
under x y r z n top h =
    go (finite x && finite y) top (λ (t : T (finite x && finite y)). h (and_l (finite x) (finite y) t)
    (and_r (finite x) (finite y) t))
  where
    go : (b : Bool) → (T (not b) → r ≡ inf false) → (T b → T (le z r)) → T (le z r)
    go true top h = h tt
    go false top h = subst (λ (v : Float). T (le z v)) (sym (top tt)) (le-top z n)

add-top : (f : Format) (x y : Float) → T (nonneg x) → T (nonneg y) → T (not (finite x && finite y))
    → add f x y ≡ inf false
unfolding add
add-top f nan y p q h = absurd p
add-top f (inf true) y p q h = absurd p
add-top f (inf false) nan p q h = absurd q
add-top f (inf false) (inf true) p q h = absurd q
add-top f (inf false) (inf false) p q h = refl
add-top f (inf false) (fin t n d) p q h = refl
add-top f (fin s m e) nan p q h = absurd q
add-top f (fin s m e) (inf true) p q h = absurd q
add-top f (fin s m e) (inf false) p q h = refl
add-top f (fin s m e) (fin t n d) p q h = absurd h

-- u + w grows with both, infinities included
pub add_mono : (f : Format) (u v w z : Float) → T (nonneg u) → T (nonneg w) → T (le u v) → T (le w z)
    → T (le (add f u w) (add f v z))
add_mono f u v w z p q h k =
    sum_mono f u v w z (nonneg-known (add f u w) (add-nonneg f u w p q))
    (nonneg-known (add f v z) (add-nonneg f v z (nonneg-up u v p h) (nonneg-up w z q k))) h k

top-or-nan : (b t : Bool) → T (not t || b) → T (not (is_nan (cond b nan (inf t)))) → cond b nan (inf t) ≡ inf false
unfolding is_nan
top-or-nan true t h k = absurd k
top-or-nan false true h k = absurd h
top-or-nan false false h k = refl

mul-top : (f : Format) (x y : Float) → T (nonneg x) → T (nonneg y) → T (not (is_nan (mul f x y)))
    → T (not (finite x && finite y)) → mul f x y ≡ inf false
unfolding mul
mul-top f nan y p q k h = absurd p
mul-top f (inf true) y p q k h = absurd p
mul-top f (inf false) nan p q k h = absurd q
mul-top f (inf false) (inf true) p q k h = absurd q
mul-top f (inf false) (inf false) p q k h = refl
mul-top f (inf false) (fin true n d) p q k h = top-or-nan (eqb n 0) true q k
mul-top f (inf false) (fin false n d) p q k h = top-or-nan (eqb n 0) false q k
mul-top f (fin s m e) nan p q k h = absurd q
mul-top f (fin s m e) (inf true) p q k h = absurd q
mul-top f (fin true m e) (inf false) p q k h = top-or-nan (eqb m 0) true p k
mul-top f (fin false m e) (inf false) p q k h = top-or-nan (eqb m 0) false p k
mul-top f (fin s m e) (fin t n d) p q k h = absurd h

-- u * w grows with both, where neither product is 0 times an infinity
pub mul_mono : (f : Format) (u v w z : Float) → T (nonneg u) → T (nonneg w) → T (le u v) → T (le w z)
    → T (not (is_nan (mul f u w))) → T (not (is_nan (mul f v z))) → T (le (mul f u w) (mul f v z))
mul_mono f u v w z p q h k i j =
    under v z (mul f v z) (mul f u w) i (mul-top f v z (nonneg-up u v p h) (nonneg-up w z q k) j)
    (mul-finite f u v w z p q h k)

-- u / s grows with u
pub div_mono : (f : Format) (u v s : Float) → T (nonneg u) → T (finite v) → T (finite s)
    → T (lt (fin false 0 (pos 0)) s) → T (le u v)
    → T (le (div f u s) (div f v s))
div_mono f u v s p a b l h =
    let c = finite-below u v p h a in
    let q = nonneg-up u v p h in
    let g : T (positive s) = lt→positive s b l in
    let S : 0 < num s = num-above s g in
    let x : num u * den v * (num s * den s) ≤ num v * den u * (num s * den s) =
    mul-le-mul_right (num s * den s) (cross u v p q c a h) in
    le-rounds f (div f u s) (div f v s) (num u * den s) (num s * den u) (num v * den s) (num s * den v)
    (mul-pos S (den_pos u)) (mul-pos S (den_pos v))
    (div-rounds f u s p c g) (div-rounds f v s q a g) (omega arith)
  where
    num-above : (x : Float) → T (positive x) → 0 < num x
    num-above nan h = absurd h
    num-above (inf t) h = absurd h
    num-above (fin true m e) h = absurd h
    num-above (fin false m e) h = mul-pos (ltb→lt 0 m h) (up_pos e)

-- u - s grows with u, and as s falls, for values not below zero whose differences are not either
pub sub_mono : (f : Format) (u v s : Float) → T (nonneg s) → T (finite v) → T (le s u) → T (le u v)
    → T (le (sub f u s) (sub f v s))
sub_mono f u v s p a l h =
    let b = finite-below u v (nonneg-up s u p l) h a in
    let c = finite-below s u p l b in
    difference_mono f u s v s (sub-known f u s b c) (sub-known f v s a c) h (le_refl s (nonneg-known s p))

pub sub_anti : (f : Format) (x s t : Float) → T (nonneg s) → T (finite x) → T (le s t) → T (le t x)
    → T (le (sub f x t) (sub f x s))
sub_anti f x s t p a h l =
    let b = finite-below t x (nonneg-up s t p h) l a in
    let c = finite-below s t p h b in
    difference_mono f x t x s (sub-known f x t a b) (sub-known f x s a c) (le_refl x (le_right t x l)) h

-- ---- a sum is at least each of its terms

-- a value of the format rounds its own fraction, so what rounds one that is at least x is at least x
own-rounds : (f : Format) (x : Float) → T (fits f x) → T (nonneg x) → T (finite x) → Rounds f x (num x) (den x)
unfolding fabs
own-rounds f nan F p c = absurd c
own-rounds f (inf s) F p c = absurd c
own-rounds f (fin s m e) F p c = (p, sym (round_self f false m e (fabs-fits f (fin s m e) F)))

le_rounded : (f : Format) (x y : Float) (a b : ℕ) → T (fits f x) → T (nonneg x) → T (finite x) → 0 < b → Rounds f y a b
    → num x * b ≤ a * den x → T (le x y)
le_rounded f x y a b F p c B r h = le-rounds f x y (num x) (den x) a b (den_pos x) B (own-rounds f x F p c) r h

term-le : (f : Format) (x y z : Float) → T (fits f z) → T (nonneg z) → T (nonneg x) → T (nonneg y)
    → (T (finite x) → T (finite y) → T (finite z) × (num z * (den x * den y) ≤ (num x * den y + num y * den x) * den z))
    → T (le z (add f x y))
term-le f x y z F r p q h =
    under x y (add f x y) z (nonneg-known z r) (add-top f x y p q) (λ (a : T (finite x)) (b : T (finite y)).
    le_rounded f z (add f x y) (num x * den y + num y * den x) (den x * den y) F r (h a b).0
    (mul-pos (den_pos x) (den_pos y)) (add_rounds f x y p q a b)
    (h a b).1)

pub add-left-le : (f : Format) (x y : Float) → T (fits f x) → T (nonneg x) → T (nonneg y) → T (le x (add f x y))
add-left-le f x y F p q = term-le f x y x F p p q (λ (a : T (finite x)) (b : T (finite y)). (a, omega arith))

pub add-right-le : (f : Format) (x y : Float) → T (fits f y) → T (nonneg x) → T (nonneg y) → T (le y (add f x y))
add-right-le f x y F p q = term-le f x y y F q p q (λ (a : T (finite x)) (b : T (finite y)). (b, omega arith))

-- a value of the format above zero, and one not below zero: their sum is above zero, and may be infinite
pub add-positive : (f : Format) (x y : Float) → T (fits f x) → T (lt (fin false 0 (pos 0)) x) → T (nonneg y)
    → T (lt (fin false 0 (pos 0)) (add f x y))
add-positive f x y F h q =
    lt_of_lt_of_le (fin false 0 (pos 0)) x (add f x y) h
    (add-left-le f x y F (le→nonneg x (lt→le (fin false 0 (pos 0)) x h)) q)

-- ---- a difference is at most what is taken from

sum-zero : (f : Format) (s : Bool) (a c : ℕ) → sum f s a true 0 c ≡ round f s a c
unfolding sum
sum-zero f true a c = rw (native.Mathlib.Nat.add-zero a)
sum-zero f false a c = rw (le-ltb a 0 zero-le, native.Mathlib.Nat.sub-zero a)

-- over any value of the format, -0, the infinities and NaN included
pub sub-zero : (f : Format) (u : Float) → T (fits f u) → sub f u (fin false 0 (pos 0)) ≡ u
unfolding sub add neg
sub-zero f nan F = refl
sub-zero f (inf s) F = refl
sub-zero f (fin s m e) F =
    ap (λ (z : ℕ). sum f s (m * up e * 1) true z (down e * 1)) (zero-mul (down e))
    ∙ sum-zero f s (m * up e * 1) (down e * 1)
    ∙ ap (λ (z : ℕ). round f s z (down e * 1)) (mul-one (m * up e))
    ∙ ap (λ (z : ℕ). round f s (m * up e) z) (mul-one (down e))
    ∙ round_self f s m e F

pub sub-le : (f : Format) (u s : Float) → T (fits f u) → T (finite u) → T (nonneg s) → T (le s u) → T (le (sub f u s) u)
sub-le f u s F a p l =
    subst (λ (z : Float). T (le (sub f u s) z)) (sub-zero f u F)
    (sub_anti f u (fin false 0 (pos 0)) s tt a (nonneg→le s p) l)

-- ---- 1 - s for an s up to 1 - 2 ^ -23

pub below_one : (s : Float) → T (nonneg s) → T (le s (of_bits binary32 0x3f7f_fffe))
    → T (lt (fin false 0 (pos 0)) (sub binary32 (of_bits binary32 0x3f80_0000) s))
unfolding of_bits
below_one s p h =
    let c = of_bits binary32 0x3f7f_fffe in
    let o = of_bits binary32 0x3f80_0000 in
    lt_of_lt_of_le (fin false 0 (pos 0)) (sub binary32 o c) (sub binary32 o s) (unfold lt sub in tt)
    (sub_anti binary32 o s c p tt h (unfold le in tt))
