-- A query is weighed as a walk holds it, which changes no weight. Assumes nothing.
use mathlib.Core.Path.{◌∙◌}
use Rattle.light_bounds.specs.Importance.{weigh}
use Rattle.light_bounds.proofs.WeighingLaws.{weigh-prepared}
use Rattle.light_bounds.proofs.importance.importance.Goals as goal

pub returns : goal.returns
unfolding weigh
returns c = c.weigh_prepared.ensures ∙ weigh-prepared _ _ _ c.prepare.ensures
