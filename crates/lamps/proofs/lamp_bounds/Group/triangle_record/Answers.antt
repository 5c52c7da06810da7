-- `lamps::lamp_bounds::Group::triangle_record`: the box, the area, then what faces. Assumes nothing.
use Rattle.std.proofs.Common.{rules}
use Rattle.words.specs.Answers.{◌then◌}
use Rattle.lamps.specs.LampBounds.{triangle_record}
use Rattle.lamps.proofs.lamp_bounds.Group.triangle_record.Goals as goal

pub returns-in_err-check : goal.returns-in_err-check
unfolding triangle_record ◌then◌
returns-in_err-check c = rw (← c.triangle_bounds-bounds.ensures, ← c.in_err-check.ensures) (search rules)

pub returns-then-has_no_area : goal.returns-then-has_no_area
unfolding triangle_record ◌then◌
returns-then-has_no_area c = rw (← c.triangle_bounds-bounds.ensures, ← c.in_ok-check.ensures)
    (rw (← c.has_no_area.ensures, c.if-has_no_area.true))

pub returns : goal.returns
unfolding triangle_record ◌then◌
returns c = rw (← c.triangle_bounds-bounds.ensures, ← c.in_ok-check.ensures, ← c.has_no_area.ensures)
    (rw (c.if-has_no_area.false, ← c.group_phi.ensures) c.faced_record.ensures)
