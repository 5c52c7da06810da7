-- The record's check, then the query. Assumes nothing.
use Rattle.words.specs.Answers.{◌then◌}
use Rattle.std.proofs.Common.{rules}
use Rattle.light_bounds.specs.AsCoded.Weighing.{weigh_held}
use Rattle.light_bounds.proofs.importance.weigh_prepared.Goals as goal

pub returns-in_err-validate : goal.returns-in_err-validate
unfolding weigh_held ◌then◌
returns-in_err-validate c = rw (← c.in_err-validate.ensures) (search rules)

pub returns : goal.returns
unfolding weigh_held ◌then◌
returns c = rw (← c.in_ok-validate.ensures) c.weigh_valid.ensures
