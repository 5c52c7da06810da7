-- The order of rounded fractions. A rounding with a sign is the one without, turned, so that what an operation gives is
-- told by its size up to the sign of a zero (`Rounds`), and results that are not below zero are in the order of their
-- fractions (`le-rounds`). Assumes nothing.
use Prim.Native.Nat.{ℕ, zero, suc, ◌+◌, ◌-◌, ◌*◌, ◌/◌, ◌%◌, ◌^◌, ◌≤◌, ◌<◌, compare}
use Rattle.std.specs.Prelude.{◌≡◌, refl, Bool, not, T, ltb, eqb, ℤ, Float}
use Rattle.std.proofs.Common.{sym, ◌∙◌, ap, subst, inl, inr, mul-pos, eq-zero-or-pos, zero-mul, arith, eqb→eq, pow_pos}
use Rattle.std.proofs.Math.Bool.{true, false, cond}
use Rattle.std.specs.Float.{Format, nan, inf, fin}
use Rattle.std.specs.Float.Ieee.{prec, emax, low, up, down, size, nearest, odd, units, round, neg, le, is_nan}
use Rattle.std.specs.Float.Ieee.Fits.{eq→eqb, up_pos, round_is}
use Rattle.std.specs.Float.Ieee.Exact.{HasValue, round_exact}
use Rattle.std.specs.Float.Ieee.Order.{round_mono}
use Rattle.ieee.specs.Choose.{fabs}
use Rattle.ieee.specs.Laws.OrderLaws.{le-fin, le_left, le_refl, le_trans, nonneg, or_right}

-- ---- a rounding with its sign changed, as `fabs` and `neg` change it

module _ (g : Float → Float) (k : Bool → Bool) (on-inf : (s : Bool) → g (inf s) ≡ inf (k s))
    (on-fin : (s : Bool) (m : ℕ) (e : ℤ) → g (fin s m e) ≡ fin (k s) m e) where
  sign-odd : (d : ℕ) (s : Bool) (q j l : ℕ) → g (odd d s q j l) ≡ odd d (k s) q j l
  unfolding odd
  sign-odd d s zero j l = on-fin s _ _
  sign-odd d s (suc q) j l = on-fin s _ _

  sign-units : (f : Format) (s : Bool) (q j : ℕ) → g (units f s q j) ≡ units f (k s) q j
  unfolding units
  sign-units f s q j = go (ltb (q * 2 ^ j) (2 ^ (low f + suc (emax f))))
    where
      go : (b : Bool) → g (cond b (odd (suc (prec f)) s q j (low f)) (inf s))
          ≡ cond b (odd (suc (prec f)) (k s) q j (low f)) (inf (k s))
      go true = sign-odd (suc (prec f)) s q j (low f)
      go false = on-inf s

  sign-round : (f : Format) (s : Bool) (n d : ℕ) → g (round f s n d) ≡ round f (k s) n d
  sign-round f s n d =
      let j = size (n * 2 ^ low f / d) - prec f in
      let u = d * 2 ^ j in
      ap g (round_is f s n d) ∙ sign-units f s (nearest (n * 2 ^ low f / u) (compare (n * 2 ^ low f % u * 2) u)) j
      ∙ sym (round_is f (k s) n d)

pub abs-round : (f : Format) (s : Bool) (n d : ℕ) → fabs (round f s n d) ≡ round f false n d
unfolding fabs
abs-round f s n d = sign-round fabs (λ _. false) (λ _. refl) (λ _ _ _. refl) f s n d

pub neg-round : (f : Format) (s : Bool) (n d : ℕ) → neg (round f s n d) ≡ round f (not s) n d
unfolding neg
neg-round f s n d = sign-round neg not (λ _. refl) (λ _ _ _. refl) f s n d

-- ---- what an operation gives, up to the sign of a zero

abs-nonneg : (x : Float) → T (not (is_nan x)) → T (nonneg (fabs x))
unfolding fabs is_nan
abs-nonneg nan h = h
abs-nonneg (inf s) h = tt
abs-nonneg (fin s m e) h = tt

value-zero : (x : Float) (s : Bool) (c : ℕ) → 0 < c → HasValue x s 0 c → T (nonneg x)
value-zero nan s c C h = absurd h
value-zero (inf t) s c C h = absurd h
value-zero (fin t m e) s c C h =
    let z : m ≡ 0 =
    elim (eq-zero-or-pos m) [ inl z ↦ z | inr p ↦ absurd (omega (arith, mul-pos (mul-pos p (up_pos e)) C, h.1)) ] in
    or_right (not t) (eqb m 0) (eq→eqb z)

pub round-nonneg : (f : Format) (s : Bool) (n d : ℕ) → 0 < d → (T s → n ≡ 0) → T (nonneg (round f s n d))
round-nonneg f true n d D h =
    subst (λ (z : ℕ). T (nonneg (round f true z d))) (sym (h tt))
    (value-zero (round f true 0 d) true d D
    (round_exact f true 0 d 0 0 D (pow_pos (prec f)) (pow_pos (low f + suc (emax f))) (simp zero-mul)))
round-nonneg f false n d D h =
    subst (λ (z : Float). T (nonneg z)) (abs-round f false n d) (abs-nonneg (round f false n d) known)
  where
    known : T (not (is_nan (round f false n d)))
    known = le_left (round f false n d) (round f false n d) (round_mono f n d n d D D (omega arith))

-- x is not below zero, and in size it is n / d rounded
abbrev pub Rounds : Format → Float → ℕ → ℕ → Type 0
Rounds f x n d = T (nonneg x) × (fabs x ≡ round f false n d)

pub rounds : (f : Format) (s : Bool) (n d n' : ℕ) → 0 < d → n ≡ n' → (T s → n ≡ 0) → Rounds f (round f s n d) n' d
rounds f s n d n' D e h = (round-nonneg f s n d D h, abs-round f s n d ∙ ap (λ (z : ℕ). round f false z d) e)

abs-le : (x : Float) → T (nonneg x) → T (le x (fabs x)) × T (le (fabs x) x)
unfolding fabs
abs-le nan h = absurd h
abs-le (inf true) h = absurd h
abs-le (inf false) h = (unfold le in tt, unfold le in tt)
abs-le (fin true m e) h =
    let z : m * up e ≡ 0 = ap (λ (z : ℕ). z * up e) (eqb→eq m 0 h) ∙ zero-mul (up e) in (
      (le-fin true m e false m e).1 (omega arith),
      (le-fin false m e true m e).1
          (omega (arith, ap (λ (k : ℕ). k * down e) z)),
    )
abs-le (fin false m e) h = (
  le_refl (fin false m e) (unfold is_nan in tt),
  le_refl (fin false m e) (unfold is_nan in
      tt),
)

pub le-rounds : (f : Format) (x y : Float) (a b c d : ℕ) → 0 < b → 0 < d → Rounds f x a b → Rounds f y c d
    → a * d ≤ c * b → T (le x y)
le-rounds f x y a b c d B D p q h =
    le_trans x (fabs x) y (abs-le x p.0).0
    (le_trans (fabs x) (fabs y) y
    (subst (λ (z : Float). T (le z (fabs y))) (sym p.1)
    (subst (λ (z : Float). T (le (round f false a b) z)) (sym q.1) (round_mono f a b c d B D h)))
    (abs-le y q.0).1)
