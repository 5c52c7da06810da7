-- `light_bounds::vecmath::is_finite_vec`: axis by axis. Assumes nothing.
use Rattle.light_bounds.specs.Vecmath.{finite_vec}
use Rattle.light_bounds.proofs.vecmath.is_finite_vec.Goals as goal

pub returns-then-is_finite-2 : goal.returns-then-is_finite-2
unfolding finite_vec
returns-then-is_finite-2 c = rw (
  ← c.is_finite.ensures,
  c.if-is_finite.true,
  ← c.is_finite-then-is_finite.ensures,
)
    (rw c.if-is_finite-2.true c.is_finite-then-is_finite-2.ensures)

pub returns-else-is_finite-2 : goal.returns-else-is_finite-2
unfolding finite_vec
returns-else-is_finite-2 c = rw (
  ← c.is_finite.ensures,
  c.if-is_finite.true,
  ← c.is_finite-then-is_finite.ensures,
  c.if-is_finite-2.false,
)

pub returns-else-is_finite : goal.returns-else-is_finite
unfolding finite_vec
returns-else-is_finite c = rw (← c.is_finite.ensures, c.if-is_finite.false)
