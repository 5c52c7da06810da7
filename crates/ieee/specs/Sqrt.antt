-- The square root (R2.1): the nearest float, ties to even; of -0, -0; below zero or NaN, NaN; of infinity, infinity.
-- Over the format. The root of m * 2 ^ e is taken as a whole number, in units of 2 ^ -k with k one more than the
-- format's smallest value has places, so that every value of the format is an even number of units. What the whole root
-- leaves over counts as half a unit, which is on the same side of any value of the format. Definitions only. Assumes
-- nothing.
use Rattle.std.specs.Prelude.{ℕ, zero, suc, ◌+◌, ◌*◌, ◌/◌, ◌^◌, cond, false, eqb, leb, Float}
use Rattle.std.specs.Float.{nan, inf, fin, Format}
use Rattle.std.specs.Float.Ieee.{low, up, down, size, round}

-- the whole root of n, which has at most d digits in base 4: a digit of the root for each digit of n
unfoldable pub root : ℕ → ℕ → ℕ
root zero n = 0
root (suc d) n = let r = 2 * root d (n / 4) in cond (leb (suc r * suc r) n) (suc r) r

-- the greatest number whose square is at most n
unfoldable pub isqrt : ℕ → ℕ
unfolding root size
isqrt n = root (size n) n

-- the root of n units of 2 ^ (-2 k), rounded once
unfoldable pub root_of : Format → ℕ → ℕ → Float
unfolding isqrt round
root_of f k n = let q = isqrt n in round f false (2 * q + cond (eqb (q * q) n) 0 1) (2 * 2 ^ k)

unfoldable pub sqrt : Format → Float → Float
unfolding root_of
sqrt f nan = nan
sqrt f (inf s) = cond s nan (inf false)
sqrt f (fin s zero e) = fin s zero e
sqrt f (fin s (suc m) e) = cond s nan (root_of f (suc (low f)) (suc m * up e * 4 ^ suc (low f) / down e))
