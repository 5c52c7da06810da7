-- The functions that choose among their arguments (R2.4, R2.5), min, max, clamp, abs, and the sign of the word that a
-- float is stored as. Definitions only. Assumes nothing.
use Rattle.std.specs.Prelude.{◌^◌, Bool, cond, false, leb, Float}
use Rattle.std.specs.Float.{nan, inf, fin, binary32}
use Rattle.std.specs.Float.Ieee.{lt, is_nan, to_bits}

-- "min, max: NaN loses to the other value; equal values give the first." A NaN y is neither below nor above x, so x is
-- given.
unfoldable pub fmin : Float → Float → Float
fmin x y = cond (is_nan x) y (cond (lt y x) y x)

unfoldable pub fmax : Float → Float → Float
fmax x y = cond (is_nan x) y (cond (lt x y) y x)

-- "clamp moves a value only past an end and keeps NaN": the low end first, as in Rust.
unfoldable pub clamp : Float → Float → Float → Float
clamp x lo hi = let y = cond (lt x lo) lo x in cond (lt hi y) hi y

-- the value without its sign
unfoldable pub fabs : Float → Float
fabs nan = nan
fabs (inf s) = inf false
fabs (fin s m e) = fin false m e

-- whether bit 31 of the stored word is set; a NaN is stored as 7fc00000
unfoldable pub is_sign_negative : Float → Bool
unfolding to_bits
is_sign_negative x = leb (2 ^ 31) (to_bits binary32 x)
