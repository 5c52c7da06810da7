-- `light_bounds::light_bounds::validate`: the box, then the cone. Assumes nothing.
use Rattle.std.proofs.Common.{rules}
use Rattle.words.specs.Answers.{◌then◌}
use Rattle.light_bounds.specs.LightBounds.{validate}
use Rattle.light_bounds.proofs.light_bounds.validate.Goals as goal

pub returns-in_err-check : goal.returns-in_err-check
unfolding validate ◌then◌
returns-in_err-check c = rw (← c.in_err-check.ensures) (search rules)

pub returns : goal.returns
unfolding validate ◌then◌
returns c = rw (← c.in_ok-check.ensures) c.validate_cone.ensures
