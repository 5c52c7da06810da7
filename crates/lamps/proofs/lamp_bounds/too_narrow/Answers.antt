-- `lamps::lamp_bounds::too_narrow`: the cosine is 1, and the ends differ. Assumes nothing.
use lib.Ieee.{of_bits, ne}
use Rattle.lamps.proofs.lamp_bounds.too_narrow.Goals as goal

pub returns-then-cos_theta_e : goal.returns-then-cos_theta_e
unfolding of_bits ne
returns-then-cos_theta_e c = rw c.if-cos_theta_e.true
