-- `lamps::lamp_bounds::faced_record`: the normal, the normalised one, then the record. Assumes nothing.
use Rattle.std.proofs.Common.{rules}
use Rattle.lamps.proofs.LampBoundsLaws.{cos-half-pi}
use Rattle.words.specs.Answers.{◌then◌}
use Rattle.lamps.specs.LampBounds.{faced_record}
use Rattle.lamps.proofs.lamp_bounds.faced_record.Goals as goal

pub returns-in_err-direction : goal.returns-in_err-direction
unfolding faced_record ◌then◌
returns-in_err-direction c = rw (← c.in_err-direction.ensures) (search rules)

pub returns-then-is_finite_vec : goal.returns-then-is_finite_vec
unfolding faced_record ◌then◌
returns-then-is_finite_vec c = rw (← c.in_ok-direction.ensures, ← c.is_finite_vec.ensures)
    (rw (c.if-is_finite_vec.true, cos-half-pi, ← c.of_lamp.ensures) c.checked.ensures)

pub returns : goal.returns
unfolding faced_record ◌then◌
returns c = rw (← c.in_ok-direction.ensures, ← c.is_finite_vec.ensures, c.if-is_finite_vec.false)
