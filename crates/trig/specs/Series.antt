-- The series under cos, sin, acos and asin, in f64 steps of one rounding each, as R2.9 and R2.10 write them. The
-- coefficients are whole numbers, which f64 holds. Definitions only. Assumes nothing.
use Rattle.std.specs.Prelude.{ℕ, zero, suc, ◌+◌, ◌-◌, ◌*◌, pos, Float}
use Rattle.std.specs.Float.{binary64}
use Rattle.std.specs.Float.Ieee.{of_bits, of_int, add, sub, mul, div}

-- 1, and a whole number
abbrev pub one64 : Float
one64 = of_bits binary64 0x3ff0_0000_0000_0000

abbrev pub number : ℕ → Float
number n = of_int binary64 (pos n)

-- a step for each m, from m = n down to 1
unfoldable pub turns : (ℕ → Float → Float) → ℕ → Float → Float
turns step zero q = q
turns step (suc m) q = turns step m (step (suc m) q)

-- Q becomes 1 - (z / (a b)) × Q, with a b = (2m - 1)(2m) at s = 1, the cosine's, and (2m)(2m + 1) at s = 0, the sine's
unfoldable pub series_step : ℕ → Float → ℕ → Float → Float
series_step s z m q = sub binary64 one64 (mul binary64 (div binary64 z (number ((2 * m - s) * (2 * m + 1 - s)))) q)

unfoldable pub series : ℕ → Float → Float
series s z = turns (series_step s z) 20 one64

-- P becomes 1 + P × ((z × (2m - 1)²) / (2m (2m + 1)))
unfoldable pub arc_step : Float → ℕ → Float → Float
arc_step z m p =
    add binary64 one64 (mul binary64 p
    (div binary64 (mul binary64 z (number ((2 * m - 1) * (2 * m - 1)))) (number (2 * m * (2 * m + 1)))))

-- K(x) = x × P, for sizes up to about a half
unfoldable pub arc : Float → Float
arc x = mul binary64 x (turns (arc_step (mul binary64 x x)) 16 one64)
