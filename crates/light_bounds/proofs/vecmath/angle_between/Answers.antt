-- `light_bounds::vecmath::angle_between`: a branch for each side of a right angle. Assumes nothing.
use mathlib.Core.Path.{◌∙◌, ap}
use lib.Ieee.{Float}
use Rattle.ieee.specs.Single.{◌⊖◌, ◌⊗◌, ◌⊘◌, twof, pi}
use Rattle.trig.specs.Trig.{asin}
use Rattle.light_bounds.specs.Vecmath.{vec_length, angle_between}
use Rattle.light_bounds.proofs.vecmath.angle_between.Goals as goal

pub returns-then-dot : goal.returns-then-dot
unfolding angle_between
returns-then-dot c = rw (← c.dot.ensures, c.if-dot.true)
    (ap (λ (v : Float). pi ⊖ twof ⊗ v) (c.asin.ensures ∙ ap (λ (l : Float). asin (l ⊘ twof))
    (c.length.ensures ∙ ap vec_length c.add.ensures)))

pub returns-else-dot : goal.returns-else-dot
unfolding angle_between
returns-else-dot c = rw (← c.dot.ensures, c.if-dot.false)
    (ap (λ (v : Float). twof ⊗ v) (c.asin-else-dot.ensures ∙ ap (λ (l : Float). asin (l ⊘ twof))
    (c.length-else-dot.ensures ∙ ap vec_length c.sub.ensures)))
