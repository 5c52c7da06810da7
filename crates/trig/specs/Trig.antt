-- cos, sin, acos and asin of an f32, as R2.9 to R2.13 write them: X is the argument widened, which is the same value,
-- and results narrow to f32. Definitions only. Assumes nothing.
use Rattle.std.specs.Prelude.{cond, Float}
use Rattle.std.specs.Float.{nan, binary64}
use Rattle.std.specs.Float.Ieee.{of_bits, neg, sub, mul, div, lt, le}
use Rattle.ieee.specs.Choose.{fabs}
use Rattle.ieee.specs.Narrow.{narrow}
use Rattle.ieee.specs.Sqrt.{sqrt}
use Rattle.trig.specs.Series.{one64, series, arc}

-- 8, a half, 2, and R2.13's π and π/2
abbrev pub eight : Float
eight = of_bits binary64 0x4020_0000_0000_0000

abbrev pub half : Float
half = of_bits binary64 0x3fe0_0000_0000_0000

abbrev pub two64 : Float
two64 = of_bits binary64 0x4000_0000_0000_0000

abbrev pub pi : Float
pi = of_bits binary64 0x4009_21fb_5444_2d18

abbrev pub half_pi : Float
half_pi = of_bits binary64 0x3ff9_21fb_5444_2d18

-- "NaN for NaN or size above 8"
unfoldable pub cos : Float → Float
cos x = cond (le (fabs x) eight) (narrow (series 1 (mul binary64 x x))) nan

unfoldable pub sin : Float → Float
sin x = cond (le (fabs x) eight) (narrow (mul binary64 x (series 0 (mul binary64 x x)))) nan

-- 2 × K(sqrt((1 - y) / 2))
unfoldable pub twice_arc : Float → Float
twice_arc y = mul binary64 two64 (arc (sqrt binary64 (div binary64 (sub binary64 one64 y) two64)))

-- "size up to 0.5, π/2 - K(X); above, 2 × K(sqrt((1-X)/2)); below -0.5, π - 2 × K(sqrt((1+X)/2))". 1 + X is 1 - (-X).
unfoldable pub acos : Float → Float
acos x =
    cond (le (fabs x) one64)
    (narrow (cond (le (fabs x) half) (sub binary64 half_pi (arc x))
    (cond (lt half x) (twice_arc x) (sub binary64 pi (twice_arc (neg x))))))
    nan

-- "K(X) up to 0.5, else π/2 - 2 × K(sqrt((1-|X|)/2)) with X's sign"
abbrev pub with_sign : Float → Float → Float
with_sign x v = cond (lt x (of_bits binary64 0)) (neg v) v

unfoldable pub asin : Float → Float
asin x =
    cond (le (fabs x) one64) (narrow
    (cond (le (fabs x) half) (arc x) (with_sign x (sub binary64 half_pi (twice_arc (fabs x)))))) nan
