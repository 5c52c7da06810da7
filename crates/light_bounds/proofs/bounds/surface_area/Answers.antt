-- `light_bounds::bounds::surface_area`: the three faces, summed left to right and doubled. Assumes nothing.
use mathlib.Core.Path.{ap}
use Rattle.ieee.specs.Single.{◌⊕◌, ◌⊗◌, twof}
use Rattle.light_bounds.specs.Bounds.{surface_area}
use Rattle.light_bounds.specs.declared.vecmath.Vec3.{Vec3}
use Rattle.light_bounds.proofs.bounds.surface_area.Goals as goal

pub returns : goal.returns
unfolding surface_area
returns c = ap (λ (d : Vec3). twof ⊗ (d.x ⊗ d.y ⊕ d.y ⊗ d.z ⊕ d.z ⊗ d.x)) c.diagonal-d.ensures
