-- `light_bounds::light_bounds::join`: where neither power is 0, each part of the record is that of the definition.
-- Assumes nothing.
use mathlib.Core.Path.{◌∙◌, ap₂}
use Rattle.light_bounds.specs.Cones.{union_direction_cones}
use Rattle.light_bounds.specs.LightBounds.{join}
use Rattle.light_bounds.specs.declared.cones.Cone.{Cone}
use Rattle.light_bounds.proofs.light_bounds.join.Goals as goal

abbrev around : Cone → Cone → Cone
around a b = union_direction_cones a.direction a.cos_theta b.direction b.cos_theta

pub returns-then-a : goal.returns-then-a
unfolding join
returns-then-a c = rw c.if-a.true

pub returns-then-b : goal.returns-then-b
unfolding join
returns-then-b c = rw (c.if-a.false, c.if-b.true)

pub returns : goal.returns
unfolding join
returns c =
    let cone = c.union_direction_cones.ensures ∙ ap₂ around c.cone.ensures c.cone-2.ensures in
    c.new.ensures
    ∙ rw (c.if-a.false, c.if-b.false) (rw (← cone, ← c.union.ensures, ← c.min.ensures, ← c.either.ensures))
