-- `light_bounds::light_bounds::is_cosine`: its two ends. Assumes nothing.
use Rattle.light_bounds.specs.LightBounds.{is_cosine}
use lib.Ieee.{neg, of_bits}
use Rattle.light_bounds.proofs.light_bounds.is_cosine.Goals as goal

pub returns-then-x : goal.returns-then-x
unfolding is_cosine neg of_bits
returns-then-x c = rw c.if-x.true

pub returns-else-x : goal.returns-else-x
unfolding is_cosine neg of_bits
returns-else-x c = rw c.if-x.false
