-- The definitions of cos, sin, acos and asin by cases, at the numbers that the code writes. Assumes nothing.
use Rattle.std.proofs.Common.{◌≡◌, refl}
use Rattle.std.specs.Prelude.{true, false, Float}
use lib.Ieee.{binary32, binary64, of_bits, lt, le, sub, mul, neg}
use Rattle.ieee.specs.Choose.{fabs}
use Rattle.ieee.specs.Narrow.{narrow}
use Rattle.trig.specs.Series.{series, arc}
use Rattle.trig.specs.Trig.{cos, sin, acos, asin, twice_arc, pi, half_pi}

-- 8, 1 and a half of the code, whose value f64 has at the definitions' words
abbrev eight32 : Float
eight32 = of_bits binary32 0x4100_0000

abbrev one32 : Float
one32 = of_bits binary32 0x3f80_0000

abbrev half32 : Float
half32 = of_bits binary32 0x3f00_0000

abbrev nan32 : Float
nan32 = of_bits binary32 0x7fc0_0000

module _ (x : Float) where
  pub cos_within : le (fabs x) eight32 ≡ true → cos x ≡ narrow (series 1 (mul binary64 x x))
  unfolding cos of_bits
  cos_within h = rw h refl

  pub cos_beyond : le (fabs x) eight32 ≡ false → cos x ≡ nan32
  unfolding cos of_bits
  cos_beyond h = rw h refl

  pub sin_within : le (fabs x) eight32 ≡ true → sin x ≡ narrow (mul binary64 x (series 0 (mul binary64 x x)))
  unfolding sin of_bits
  sin_within h = rw h refl

  pub sin_beyond : le (fabs x) eight32 ≡ false → sin x ≡ nan32
  unfolding sin of_bits
  sin_beyond h = rw h refl

  pub acos_small : le (fabs x) one32 ≡ true → le (fabs x) half32 ≡ true
      → acos x ≡ narrow (sub binary64 half_pi (arc x))
  unfolding acos of_bits
  acos_small h k = rw (h, k) refl

  pub acos_large : le (fabs x) one32 ≡ true → le (fabs x) half32 ≡ false → lt half32 x ≡ true
      → acos x ≡ narrow (twice_arc x)
  unfolding acos of_bits
  acos_large h k l = rw (h, k, l) refl

  pub acos_below : le (fabs x) one32 ≡ true → le (fabs x) half32 ≡ false → lt half32 x ≡ false
      → acos x ≡ narrow (sub binary64 pi (twice_arc (neg x)))
  unfolding acos of_bits
  acos_below h k l = rw (h, k, l) refl

  pub acos_beyond : le (fabs x) one32 ≡ false → acos x ≡ nan32
  unfolding acos of_bits
  acos_beyond h = rw h refl

  pub asin_small : le (fabs x) one32 ≡ true → le (fabs x) half32 ≡ true → asin x ≡ narrow (arc x)
  unfolding asin of_bits
  asin_small h k = rw (h, k) refl

  pub asin_below : le (fabs x) one32 ≡ true → le (fabs x) half32 ≡ false → lt x (of_bits binary32 0) ≡ true
      → asin x ≡ narrow (neg (sub binary64 half_pi (twice_arc (fabs x))))
  unfolding asin of_bits
  asin_below h k l = rw (h, k, l) refl

  pub asin_large : le (fabs x) one32 ≡ true → le (fabs x) half32 ≡ false → lt x (of_bits binary32 0) ≡ false
      → asin x ≡ narrow (sub binary64 half_pi (twice_arc (fabs x)))
  unfolding asin of_bits
  asin_large h k l = rw (h, k, l) refl

  pub asin_beyond : le (fabs x) one32 ≡ false → asin x ≡ nan32
  unfolding asin of_bits
  asin_beyond h = rw h refl

pub ruleset turns_cases = (cos_within, cos_beyond, sin_within, sin_beyond)

pub ruleset arc_cases =
    (acos_small, acos_large, acos_below, acos_beyond, asin_small, asin_below, asin_large, asin_beyond)
