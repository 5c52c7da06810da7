-- `lamps::lamp_bounds::spot_record`: the position, the direction, then the record. Assumes nothing.
use Rattle.std.proofs.Common.{rules}
use Rattle.words.specs.Answers.{◌then◌}
use Rattle.lamps.specs.LampBounds.{spot_record}
use Rattle.lamps.proofs.lamp_bounds.spot_record.Goals as goal

pub returns-in_err-check : goal.returns-in_err-check
unfolding spot_record ◌then◌
returns-in_err-check c = rw (← c.point_box-bounds.ensures, ← c.in_err-check.ensures) (search rules)

pub returns-in_err-direction : goal.returns-in_err-direction
unfolding spot_record ◌then◌
returns-in_err-direction c = rw (← c.point_box-bounds.ensures, ← c.in_ok-check.ensures)
    (rw (← c.in_err-direction.ensures) (search rules))

pub returns : goal.returns
unfolding spot_record ◌then◌
returns c = rw (← c.point_box-bounds.ensures, ← c.in_ok-check.ensures, ← c.in_ok-direction.ensures)
    (rw (← c.falloff.ensures, ← c.of_lamp.ensures) c.checked.ensures)
