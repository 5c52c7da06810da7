-- `light_bounds::vecmath::divides`: finite, and then not 0. Assumes nothing.
use lib.Ieee.{of_bits, ne}
use Rattle.light_bounds.proofs.vecmath.divides.Goals as goal

pub returns-then-is_finite : goal.returns-then-is_finite
unfolding of_bits ne
returns-then-is_finite c = rw (← c.is_finite.ensures, c.if-is_finite.true)
