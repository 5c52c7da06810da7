-- `lamps::lamp_bounds::Group::grown`: the next record, then the union. Assumes nothing.
use Rattle.std.proofs.Common.{rules}
use Rattle.words.specs.Answers.{◌then◌}
use Rattle.lamps.proofs.lamp_bounds.Group.grown.Goals as goal

pub returns-in_err-current : goal.returns-in_err-current
unfolding ◌then◌
returns-in_err-current c = rw (← c.in_err-current.ensures) (search rules)

pub returns : goal.returns
unfolding ◌then◌
returns c = rw (← c.in_ok-current.ensures) c.union.ensures
