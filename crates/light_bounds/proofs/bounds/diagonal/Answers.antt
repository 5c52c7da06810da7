-- `light_bounds::bounds::diagonal`: axis by axis. Assumes nothing.
use Rattle.light_bounds.specs.Bounds.{diagonal}
use Rattle.light_bounds.specs.Vecmath.{minus}
use Rattle.light_bounds.proofs.bounds.diagonal.Goals as goal

pub returns : goal.returns
unfolding diagonal minus
returns c = c.sub.ensures
