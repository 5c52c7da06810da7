-- `lamps::lamp_bounds::spot_bounds`: emission, cosines, then the record. Assumes nothing.
use Rattle.std.proofs.Common.{rules}
use Rattle.words.specs.Answers.{◌then◌}
use Rattle.lamps.specs.LampBounds.{spot_bounds}
use Rattle.lamps.proofs.lamp_bounds.spot_bounds.Goals as goal

pub returns-in_err-validate : goal.returns-in_err-validate
unfolding spot_bounds ◌then◌
returns-in_err-validate c = rw (← c.in_err-validate.ensures) (search rules)

pub returns-then-are_cosines : goal.returns-then-are_cosines
unfolding spot_bounds ◌then◌
returns-then-are_cosines c = rw (← c.in_ok-validate.ensures, ← c.are_cosines.ensures, c.if-are_cosines.true)
    (rw (← c.point_phi.ensures) c.spot_record.ensures)

pub returns : goal.returns
unfolding spot_bounds ◌then◌
returns c = rw (← c.in_ok-validate.ensures, ← c.are_cosines.ensures, c.if-are_cosines.false)
