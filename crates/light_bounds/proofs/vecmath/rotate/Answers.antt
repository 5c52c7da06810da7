-- `light_bounds::vecmath::rotate`: each step of the sum is a call, and is put in its place. Assumes nothing.
use mathlib.Core.Path.{◌∙◌, ap, ap₂}
use lib.Ieee.{Float}
use Rattle.ieee.specs.Single.{◌⊖◌, ◌⊗◌, onef}
use Rattle.light_bounds.specs.Vecmath.{plus, scaled, rotate}
use Rattle.light_bounds.proofs.vecmath.rotate.Goals as goal

pub returns : goal.returns
unfolding rotate
returns c = let a = c.args in
    c.add-2.ensures
    ∙ ap₂ plus
    (c.add.ensures ∙ ap₂ plus (c.scale_vector.ensures ∙ ap (scaled a.v) c.cos-c.ensures)
    (c.scale_vector-2.ensures ∙ ap₂ scaled c.cross.ensures c.sin-s.ensures))
    (c.scale_vector-3.ensures ∙ ap (scaled a.axis)
    (ap₂ (λ (d k : Float). d ⊗ (onef ⊖ k)) c.dot.ensures c.cos-c.ensures))
