-- From far enough the diagonal's length decides nothing. Assumes nothing.
use mathlib.Core.Path.{sym, ◌∙◌}
use Rattle.light_bounds.specs.Importance.{distance2}
use Rattle.light_bounds.proofs.RootLaws.{far}
use Rattle.light_bounds.proofs.importance.distance2.Goals as goal

pub returns-then-dot-raw : goal.returns-then-dot-raw
returns-then-dot-raw c = let a = c.args in
    c.dot-raw.ensures
    ∙ sym (far a.record a.delta
    (rw (← c.diagonal-across.ensures, ← c.dot.ensures, ← c.dot-raw.ensures) c.if-dot-raw.true))

pub returns : goal.returns
unfolding distance2
returns c = rw (← c.dot-raw.ensures, ← c.diagonal-across.ensures, ← c.length.ensures) c.max.ensures
