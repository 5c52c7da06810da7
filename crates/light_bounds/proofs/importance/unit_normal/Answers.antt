-- A normal whose dot is 0 is none; of any other the length is taken here, once for a walk. Assumes nothing.
use mathlib.Core.Path.{ap}
use Rattle.std.specs.Prelude.{Some}
use Rattle.light_bounds.specs.AsCoded.Weighing.{unit_normal}
use Rattle.light_bounds.proofs.WeighingLaws.{held}
use Rattle.light_bounds.proofs.importance.unit_normal.Goals as goal

pub returns-then-dot : goal.returns-then-dot
unfolding unit_normal
returns-then-dot c = rw (← c.dot.ensures, c.if-dot.true)

pub returns : goal.returns
unfolding unit_normal
returns c = rw (← c.dot.ensures, c.if-dot.false) (ap Some (held c.normalize.result c.args.n c.normalize.ensures))
