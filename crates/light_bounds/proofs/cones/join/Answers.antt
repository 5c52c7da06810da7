-- `light_bounds::cones::join`: every direction, or the turned axis. Assumes nothing.
use mathlib.Core.Path.{◌≡◌, refl, sym, ◌∙◌, ap}
use lib.Ieee.{neg, of_bits}
use Rattle.ieee.specs.Single.{◌⊖◌}
use Rattle.light_bounds.specs.Cones.{axis_or, joined}
use Rattle.light_bounds.specs.Vecmath.{dot, cross, normalize, rotate}
use Rattle.light_bounds.specs.declared.vecmath.Vec3.{Vec3}
use Rattle.light_bounds.proofs.cones.join.Goals as goal
use Rattle.light_bounds.proofs.cones.join.Goals.{After-dot}

parallel : (c : After-dot) → (let s = c.args in dot (cross s.a s.b) (cross s.a s.b)) ≡ c.dot.result
parallel c = sym (c.dot.ensures ∙ ap (λ (v : Vec3). dot v v) c.cross-axis.ensures)

pub returns-then-theta_o : goal.returns-then-theta_o
unfolding joined neg of_bits
returns-then-theta_o c = rw c.if-theta_o.true refl

pub returns-then-dot : goal.returns-then-dot
unfolding joined neg of_bits
returns-then-dot c =
    rw (c.if-theta_o.false, parallel (goal.at.returns-then-dot c).After-dot, c.if-dot.true) refl

pub returns : goal.returns
unfolding joined
returns c =
    let a = c.args in
    let turned = c.rotate.ensures ∙ ap (λ (v : Vec3). rotate a.a v (a.theta_o ⊖ a.theta_a))
    (c.unit_or_z.ensures ∙ ap axis_or (c.normalize.ensures ∙ ap normalize c.cross-axis.ensures)) in
    rw (c.if-theta_o.false, parallel (goal.at.returns c).After-dot)
    (rw c.if-dot.false
    (λ i. record { direction = turned i; cos_theta = c.cos.ensures i }))
