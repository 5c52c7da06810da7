-- The direction that two steps of a packed node stand for. Definitions only. Assumes nothing.
use Rattle.std.specs.Prelude.{ℕ, cond, pos, Float}
use Rattle.std.specs.Float.{binary32}
use Rattle.std.specs.Float.Ieee.{of_int, lt}
use Rattle.ieee.specs.Choose.{fabs}
use Rattle.ieee.specs.Single.{◌⊕◌, ◌⊖◌, ◌⊗◌, ◌⊘◌, zerof, onef, twof}
use Rattle.light_bounds.specs.Vecmath.{vec, divided, vec_length}
use Rattle.light_bounds.specs.declared.vecmath.Vec3.{Vec3}
use Rattle.packed_bvh.specs.Quantize.{last_step, sign}

-- 2 × (q / 65535) - 1
unfoldable pub axis_of : ℕ → Float
axis_of q = twof ⊗ (of_int binary32 (pos q) ⊘ last_step) ⊖ onef

unfoldable pub unfolded : Float → Float → Vec3
unfolded a b =
    let z = onef ⊖ (fabs a ⊕ fabs b) in
    cond (lt z zerof) (vec ((onef ⊖ fabs b) ⊗ sign a) ((onef ⊖ fabs a) ⊗ sign b) z) (vec a b z)

-- the direction that two steps stand for
unfoldable pub decode_octahedral : ℕ → ℕ → Vec3
decode_octahedral q r = let v = unfolded (axis_of q) (axis_of r) in divided v (vec_length v)
