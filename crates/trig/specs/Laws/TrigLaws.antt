-- cos, sin, acos and asin give floats of binary32: they narrow, or give NaN. Assumes nothing.
use Rattle.std.specs.Prelude.{T, Float, Bool, cond}
use Rattle.std.specs.Float.{nan, binary32}
use Rattle.std.specs.Float.Ieee.{fits, le}
use Rattle.std.specs.Float.Ieee.Fits.{cond-fits, nan-fits}
use Rattle.ieee.specs.Choose.{fabs}
use Rattle.ieee.specs.Narrow.{narrow}
use Rattle.ieee.specs.Laws.NarrowLaws.{narrow-fits}
use Rattle.trig.specs.Series.{one64}
use Rattle.trig.specs.Trig.{cos, sin, acos, asin, eight}

narrowed-fits : (b : Bool) (v : Float) → T (fits binary32 (cond b (narrow v) nan))
narrowed-fits b v = cond-fits binary32 b (narrow v) nan (narrow-fits v) (nan-fits binary32)

pub cos-fits : (x : Float) → T (fits binary32 (cos x))
unfolding cos
cos-fits x = narrowed-fits (le (fabs x) eight) _

pub sin-fits : (x : Float) → T (fits binary32 (sin x))
unfolding sin
sin-fits x = narrowed-fits (le (fabs x) eight) _

pub acos-fits : (x : Float) → T (fits binary32 (acos x))
unfolding acos
acos-fits x = narrowed-fits (le (fabs x) one64) _

pub asin-fits : (x : Float) → T (fits binary32 (asin x))
unfolding asin
asin-fits x = narrowed-fits (le (fabs x) one64) _
