-- Numbers packed into sixteen and fifteen bits, as `webgpu/light_bvh.rs` packs them: coordinates within the overall
-- box, cosines, directions; and a packed direction read back as R9.9 reads it. Definitions only. Assumes
-- nothing.
use Rattle.std.specs.Prelude.{ℕ, Bool, cond, ltb, Float}
use Rattle.std.specs.Float.{binary32}
use Rattle.std.specs.Float.Ieee.{lt, eq}
use Rattle.ieee.specs.Choose.{clamp, fabs, is_sign_negative}
use Rattle.ieee.specs.Single.{◌⊕◌, ◌⊖◌, ◌⊗◌, ◌⊘◌, single, zerof, half, onef, twof, minus_one}
use Rattle.ieee.specs.Whole.{floor, ceil, round_away, to_u16, to_u32}
use Rattle.light_bounds.specs.Vecmath.{vec, divided}
use Rattle.light_bounds.specs.declared.vecmath.Vec3.{Vec3}

-- 65535, the last step of sixteen bits, and 32767, that of fifteen
abbrev pub last_step : Float
last_step = single 0x477f_ff00

abbrev pub last_cos_step : Float
last_cos_step = single 0x46ff_fe00

-- ---- coordinates

-- how far a value lies within an axis, in 65535 steps
unfoldable pub steps_of : Float → Float → Float → Float
steps_of value min max = clamp ((value ⊖ min) ⊘ (max ⊖ min)) zerof onef ⊗ last_step

-- `quantize_bounds`: up or down to a whole step, 0 on an axis without extent
unfoldable pub quantize_bounds : Bool → Float → Float → Float → ℕ
quantize_bounds up value min max =
    cond (eq min max) 0 (to_u32 (cond up (ceil binary32 (steps_of value min max))
    (floor binary32 (steps_of value min max))))

-- ---- cosines

unfoldable pub quantize_cos : Float → ℕ
quantize_cos value = to_u16 (floor binary32 (last_cos_step ⊗ ((value ⊕ onef) ⊘ twof)))

-- ---- directions

-- a zero has its sign
unfoldable pub sign : Float → Float
sign value = cond (is_sign_negative value) minus_one onef

-- the lower half of the octahedron is folded out over the upper one, by the old x and y
unfoldable pub folded : Vec3 → Vec3
folded d =
    cond (lt d.z zerof) (vec ((onef ⊖ fabs d.y) ⊗ sign d.x) ((onef ⊖ fabs d.x) ⊗ sign d.y) d.z) d

unfoldable pub octahedral : Vec3 → Vec3
octahedral v = folded (divided v (fabs v.x ⊕ fabs v.y ⊕ fabs v.z))

-- to the nearest of 65535 steps from -1 to 1
unfoldable pub quantize_axis : Float → ℕ
quantize_axis c =
    let step = to_u32 (round_away binary32 ((c ⊕ onef) ⊗ half ⊗ last_step)) in cond (ltb 65535 step) 65535 step

-- `encode_octahedral`: two steps
unfoldable pub encode_octahedral : Vec3 → ℕ × ℕ
encode_octahedral v = (quantize_axis (octahedral v).x, quantize_axis (octahedral v).y)
