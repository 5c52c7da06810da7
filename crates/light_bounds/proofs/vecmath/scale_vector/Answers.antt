-- `light_bounds::vecmath::scale_vector`: axis by axis, with nothing to show. Assumes nothing.
use mathlib.Core.Path.{refl}
use Rattle.light_bounds.specs.Vecmath.{scaled}
use Rattle.light_bounds.proofs.vecmath.scale_vector.Goals as goal

pub returns : goal.returns
unfolding scaled
returns c = refl
