-- `light_bounds::vecmath::normalize_by_division`: the length is taken once, and divided by where it can be. Assumes
-- nothing.
use mathlib.Core.Path.{ap}
use Rattle.words.specs.Answers.{given}
use Rattle.light_bounds.specs.Vecmath.{normalize_by_division}
use borrow.Author.Rules.{rules}
use Rattle.light_bounds.proofs.vecmath.normalize_by_division.Goals as goal

pub returns-then-divides : goal.returns-then-divides
unfolding normalize_by_division
returns-then-divides c = rw (← c.length-l.ensures, ← c.divides.ensures, c.if-divides.true)
    (ap given (search rules))

pub returns : goal.returns
unfolding normalize_by_division
returns c = rw (← c.length-l.ensures, ← c.divides.ensures, c.if-divides.false)
