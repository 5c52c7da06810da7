-- `lamps::lamp_bounds::checked`: the record as it is, where it passes its check. Assumes nothing.
use Rattle.std.proofs.Common.{rules}
use Rattle.words.specs.Answers.{◌then◌}
use Rattle.lamps.specs.LampBounds.{checked}
use Rattle.lamps.proofs.lamp_bounds.checked.Goals as goal

pub returns-in_err-validate : goal.returns-in_err-validate
unfolding checked ◌then◌
returns-in_err-validate c = rw (← c.in_err-validate.ensures) (search rules)

pub returns : goal.returns
unfolding checked ◌then◌
returns c = rw (← c.in_ok-validate.ensures)
