-- A query whose point is held is weighed by the importance's steps. Assumes nothing.
use mathlib.Core.Path.{ap}
use Rattle.std.proofs.Common.{rules}
use Rattle.words.specs.Answers.{given, ◌then◌}
use Rattle.light_bounds.specs.Importance.{checked_importance}
use Rattle.light_bounds.proofs.importance.weigh_valid.Goals as goal

pub returns-in_err-geometry : goal.returns-in_err-geometry
unfolding checked_importance ◌then◌
returns-in_err-geometry c = rw (c.in-Some.is, ← c.in_err-geometry.ensures) (search rules)

pub returns : goal.returns
unfolding checked_importance ◌then◌
returns c = rw (c.in-Some.is, ← c.in_ok-geometry.ensures) (ap given c.finished.ensures)
