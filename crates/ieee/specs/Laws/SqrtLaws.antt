-- The whole root: its square is at most n, and the next number's is above n. Assumes nothing.
use Rattle.std.specs.Prelude.{ℕ, zero, suc, ◌*◌, ◌/◌, ◌^◌, ◌≤◌, ◌<◌, ◌≡◌, Bool, true, false, cond, not, T, leb}
use Rattle.std.proofs.Common.{sym, ◌∙◌, subst, arith, leb→le, lit≤}
use native.Mathlib.Nat.{lt_of_lt_of_le, lt_of_le_of_lt, le_trans, le_antisymm, le_of_suc-le-suc}
use native.Mathlib.Nat.{lt_of_not-le, not-le_of_lt, mul-le-mul, pow-le-pow_left, pow-succ', div-lt_iff_lt-mul, mul_comm}
use Rattle.std.proofs.Math.Dec.{nleb→lt}
use Rattle.std.specs.Float.Ieee.{size}
use Rattle.std.specs.Float.Ieee.Digits.{size-lt}
use Rattle.ieee.specs.Sqrt.{root, isqrt}

pub record Root (n q : ℕ) : Type 0 where
  pub at_most : q * q ≤ n
  pub below : n < suc q * suc q

digit : (n r : ℕ) → Root (n / 4) r → Root n (cond (leb (suc (2 * r) * suc (2 * r)) n) (suc (2 * r)) (2 * r))
digit n r h =
    go (leb (suc (2 * r) * suc (2 * r)) n) (leb→le (suc (2 * r) * suc (2 * r)) n)
    (nleb→lt (suc (2 * r) * suc (2 * r)) n)
  where
    lo : 2 * r * (2 * r) ≤ n
    lo = omega (arith, h.at_most)

    hi : n < suc (suc (2 * r)) * suc (suc (2 * r))
    hi = omega (arith, h.below)

    go : (b : Bool) → (T b → suc (2 * r) * suc (2 * r) ≤ n) → (T (not b) → n < suc (2 * r) * suc (2 * r)) →
        Root n (cond b (suc (2 * r)) (2 * r))
    go true p q = record { at_most = p tt; below = hi }
    go false p q = record { at_most = lo; below = q tt }

root-law : (d n : ℕ) → n < 4 ^ d → Root n (root d n)
unfolding root
root-law zero n h = record { at_most = omega arith; below = omega arith }
root-law (suc d) n h =
    digit n (root d (n / 4)) (root-law d (n / 4)
    ((div-lt_iff_lt-mul (lit≤ tt)).1 (subst (λ (z : ℕ). n < z) (pow-succ' 4 d ∙ mul_comm 4 (4 ^ d)) h)))

pub isqrt-law : (n : ℕ) → Root n (isqrt n)
unfolding isqrt
isqrt-law n = root-law (size n) n (lt_of_lt_of_le (size-lt n) (pow-le-pow_left {n = 2} {m = 4} (lit≤ tt) (size n)))

-- no smaller root is above a larger one
pub root_mono : (n p m q : ℕ) → n ≤ m → Root n p → Root m q → p ≤ q
root_mono n p m q h a b =
    le_of_suc-le-suc (lt_of_not-le (λ (g : suc q ≤ p). not-le_of_lt
    (lt_of_le_of_lt (le_trans a.at_most h) b.below) (mul-le-mul g g)))

pub root_unique : (n q : ℕ) → Root n q → q ≡ isqrt n
root_unique n q h =
    le_antisymm (root_mono n q n (isqrt n) (native.Mathlib.Nat.le_refl n) h (isqrt-law n))
    (root_mono n (isqrt n) n q (native.Mathlib.Nat.le_refl n) (isqrt-law n) h)

-- a root lies where the number lies among squares
pub root_below : (n q a : ℕ) → Root n q → n < a * a → q < a
root_below n q a r h = lt_of_not-le (λ (g : a ≤ q). not-le_of_lt (lt_of_le_of_lt r.at_most h) (mul-le-mul g g))

pub root-from : (n q a : ℕ) → Root n q → a * a ≤ n → a ≤ q
root-from n q a r h =
    le_of_suc-le-suc (lt_of_not-le (λ (g : suc q ≤ a). not-le_of_lt (lt_of_le_of_lt h r.below) (mul-le-mul g g)))

-- the root that a call gives
pub root-of : (n q : ℕ) → q ≡ isqrt n → Root n q
root-of n q e = subst (Root n) (sym e) (isqrt-law n)
