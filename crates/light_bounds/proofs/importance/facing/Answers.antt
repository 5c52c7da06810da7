-- `light_bounds::importance::facing`: a sine is taken only where the angle is not cut to 0. Assumes nothing.
use mathlib.Core.Path.{ap₂}
use lib.Ieee.{Float}
use Rattle.ieee.specs.Single.{◌⊕◌, ◌⊗◌}
use Rattle.light_bounds.specs.Cones.{cos_sub_clamped}
use Rattle.light_bounds.specs.Importance.{normal_factor}
use Rattle.light_bounds.proofs.importance.facing.Goals as goal

pub returns-then-i-cos_b : goal.returns-then-i-cos_b
unfolding normal_factor cos_sub_clamped
returns-then-i-cos_b c = rw (← c.abs-i.ensures, c.if-i-cos_b.true)

pub returns-else-i-cos_b : goal.returns-else-i-cos_b
unfolding normal_factor cos_sub_clamped
returns-else-i-cos_b c = let i = c.abs-i.result in
    let k = c.args.cos_b in
    rw (← c.abs-i.ensures, c.if-i-cos_b.false)
    (ap₂ (λ (s t : Float). i ⊗ k ⊕ s ⊗ t) c.sine.ensures c.sine-else-i-cos_b.ensures)
