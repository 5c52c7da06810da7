-- `light_split::lights::no_ends`: the words of the infinities. Assumes nothing.
use lib.Ieee.{of_bits}
use mathlib.Core.Path.{refl}
use Rattle.light_split.proofs.lights.no_ends.Goals as goal

pub returns : goal.returns
unfolding of_bits
returns c = refl
