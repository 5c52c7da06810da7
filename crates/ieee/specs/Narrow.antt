-- f64 to f32: the nearest value of binary32, "ties to even". Definitions only. Assumes nothing.
use Rattle.std.specs.Prelude.{◌*◌, Float}
use Rattle.std.specs.Float.{nan, inf, fin, binary32}
use Rattle.std.specs.Float.Ieee.{up, down, round}

unfoldable pub narrow : Float → Float
unfolding round
narrow nan = nan
narrow (inf s) = inf s
narrow (fin s m e) = round binary32 s (m * up e) (down e)
