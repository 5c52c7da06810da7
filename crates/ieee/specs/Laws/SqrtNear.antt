-- The whole number nearest to the root of n / 64, by squares. The root of n has three digits more than that number, and
-- what it leaves over counts as half a digit more (`sticky`): q is what a rounding of four digits keeps where n lies
-- between the squares of 8 q - 4 and 8 q + 4. Assumes nothing.
use Rattle.std.specs.Prelude.{ℕ, zero, suc, ◌+◌, ◌*◌, ◌^◌, ◌≤◌, ◌<◌, ◌≡◌, refl, Bool, true, false, cond, ◌&&◌, T, eqb}
use Rattle.std.specs.Prelude.{ltb}
use Rattle.std.proofs.Common.{sym, ◌∙◌, subst, le_of_lt, arith, lit≤, ltb→lt, eqb-true}
use Rattle.std.specs.Float.Ieee.Fits.{and_l, and_r}
use Rattle.std.specs.Float.Ieee.Nearest.{closest}
use Rattle.ieee.specs.Sqrt.{isqrt}
use Rattle.ieee.specs.Laws.SqrtLaws.{isqrt-law, root-from, root_below}
use Rattle.ieee.specs.Laws.SqrtWords.{sticky, square-lt}
use Rattle.ieee.specs.Laws.Rounding.{closest-gone}

-- (8 q - 4) ^ 2 < n < (8 q + 4) ^ 2
unfoldable pub is_nearest : ℕ → ℕ → Bool
is_nearest n q = ltb (64 * (q * q) + 16) (n + 64 * q) && ltb n (64 * (q * q) + 64 * q + 16)

-- less than half a step from 16 q
kept : (a k : ℕ) → 16 * k + 9 ≤ a → a ≤ 16 * k + 23 → closest a (2 ^ 4) ≡ suc k
kept a k l h = sym (closest-gone a 4 (lit≤ tt)) ∙ omega arith

-- the root is above 8 k + 4, or it is 8 k + 4 and leaves a rest
within : (n k : ℕ) → (8 * k + 4) * (8 * k + 4) < n → n < (8 * k + 12) * (8 * k + 12)
    → closest (sticky n) (2 ^ 4) ≡ suc k
within n k l h =
    go (isqrt n) (eqb (isqrt n * isqrt n) n) (eqb-true (isqrt n * isqrt n) n)
    (root-from n (isqrt n) (8 * k + 4) (isqrt-law n) (le_of_lt l))
    (root_below n (isqrt n) (8 * k + 12) (isqrt-law n) h)
  where
    go : (q : ℕ) (b : Bool) → (b ≡ true → q * q ≡ n) → 8 * k + 4 ≤ q → q < 8 * k + 12
        → closest (2 * q + cond b 0 1) (2 ^ 4) ≡ suc k
    go q true e from to =
        let above : 8 * k + 4 < q =
        square-lt (8 * k + 4) q (subst (λ (z : ℕ). (8 * k + 4) * (8 * k + 4) < z) (sym (e refl)) l) in
        kept (2 * q + 0) k (omega arith) (omega arith)
    go q false e from to = kept (2 * q + 1) k (omega arith) (omega arith)

-- a number that passes is what is kept
pub nearest-kept : (n q : ℕ) → is_nearest n q ≡ true → q ≡ closest (sticky n) (2 ^ 4)
unfolding is_nearest
nearest-kept n q e =
    go q (ltb→lt (64 * (q * q) + 16) (n + 64 * q) (and_l low high both))
    (ltb→lt n (64 * (q * q) + 64 * q + 16) (and_r low high both))
  where
    low : Bool
    low = ltb (64 * (q * q) + 16) (n + 64 * q)

    high : Bool
    high = ltb n (64 * (q * q) + 64 * q + 16)

    both : T (low && high)
    both = subst T (sym e) tt

    go : (q : ℕ) → 64 * (q * q) + 16 < n + 64 * q → n < 64 * (q * q) + 64 * q + 16 → q ≡ closest (sticky n) (2 ^ 4)
    go zero l h = absurd (omega arith)
    go (suc k) l h = sym (within n k (omega arith) (omega arith))
