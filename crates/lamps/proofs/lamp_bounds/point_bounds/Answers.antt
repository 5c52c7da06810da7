-- `lamps::lamp_bounds::point_bounds`: emission, position, then the record; the cosine of a quarter turn is
-- computed once. Assumes nothing.
use lib.Ieee.{neg, of_bits}
use Rattle.std.proofs.Common.{rules}
use Rattle.lamps.proofs.LampBoundsLaws.{cos-half-pi}
use Rattle.words.specs.Answers.{◌then◌}
use Rattle.lamps.specs.LampBounds.{point_bounds}
use Rattle.lamps.proofs.lamp_bounds.point_bounds.Goals as goal

pub returns-in_err-validate : goal.returns-in_err-validate
unfolding point_bounds ◌then◌
returns-in_err-validate c = rw (← c.in_err-validate.ensures) (search rules)

pub returns-in_err-check : goal.returns-in_err-check
unfolding point_bounds ◌then◌
returns-in_err-check c = rw (← c.in_ok-validate.ensures, ← c.point_box-bounds.ensures)
    (rw (← c.in_err-check.ensures) (search rules))

pub returns : goal.returns
unfolding point_bounds ◌then◌ neg of_bits
returns c = rw (← c.in_ok-validate.ensures, ← c.point_box-bounds.ensures, ← c.in_ok-check.ensures)
    (rw (cos-half-pi, ← c.point_phi.ensures, ← c.of_lamp.ensures) c.checked.ensures)
