-- Cones of directions, as the helpers of `light_bounds.rs` have them. Definitions only. Assumes nothing.
use Rattle.std.specs.Prelude.{cond, ◌||◌, Float}
use Rattle.std.specs.Float.{binary32}
use Rattle.std.specs.Float.Ieee.{lt, le, eq}
use Rattle.ieee.specs.Choose.{fmin, fmax, clamp}
use Rattle.ieee.specs.Single.{◌⊕◌, ◌⊖◌, ◌⊗◌, ◌⊘◌, zerof, half, onef, minus_one, pi}
use Rattle.ieee.specs.Sqrt.{sqrt}
use Rattle.trig.specs.Trig.{cos, acos}
use Rattle.words.specs.Answers.{Answer, given, refused}
use Rattle.light_bounds.specs.Bounds.{diagonal, centroid}
use Rattle.light_bounds.specs.Vecmath.{vec, dot, cross, minus, vec_length, normalize, rotate, angle_between}
use Rattle.light_bounds.specs.declared.vecmath.Vec3.{Vec3}
use Rattle.light_bounds.specs.declared.bounds.Bounds3.{Bounds3}
use Rattle.light_bounds.specs.declared.cones.Cone.{Cone}

unfoldable pub safe_sqrt : Float → Float
safe_sqrt value = sqrt binary32 (fmax value zerof)

unfoldable pub cos_sub_clamped : Float → Float → Float → Float → Float
cos_sub_clamped sin_a cos_a sin_b cos_b = cond (lt cos_b cos_a) onef (cos_a ⊗ cos_b ⊕ sin_a ⊗ sin_b)

unfoldable pub sin_sub_clamped : Float → Float → Float → Float → Float
sin_sub_clamped sin_a cos_a sin_b cos_b = cond (lt cos_b cos_a) zerof (sin_a ⊗ cos_b ⊖ cos_a ⊗ sin_b)

-- d2 is the raw squared distance here; importance takes a maximum
unfoldable pub bound_subtended_directions : Bounds3 → Vec3 → Float
bound_subtended_directions b p =
    let radius = half ⊗ vec_length (diagonal b) in
    let to_center = minus (centroid b) p in
    let d2 = dot to_center to_center in
    cond (lt d2 (radius ⊗ radius) || eq d2 zerof) minus_one (safe_sqrt (onef ⊖ radius ⊗ radius ⊘ d2))

abbrev pub cone : Vec3 → Float → Cone
cone v c = record { direction = v; cos_theta = c }

abbrev pub whole_sphere : Cone
whole_sphere = cone (vec zerof zerof onef) minus_one

-- the axis, or z where it has no length to divide by
abbrev pub axis_or : Answer Vec3 → Vec3
axis_or (given v) = v
axis_or (refused n) = vec zerof zerof onef

unfoldable pub joined : Vec3 → Vec3 → Float → Float → Cone
joined a b theta_a theta_o =
    let axis = cross a b in
    cond (le pi theta_o || eq (dot axis axis) zerof) whole_sphere
    (cone (rotate a (axis_or (normalize axis)) (theta_o ⊖ theta_a)) (cos theta_o))

unfoldable pub union_direction_cones : Vec3 → Float → Vec3 → Float → Cone
union_direction_cones a cos_a b cos_b =
    let theta_a = acos (clamp cos_a minus_one onef) in
    let theta_b = acos (clamp cos_b minus_one onef) in
    let theta_d = angle_between a b in
    cond (le (fmin (theta_d ⊕ theta_b) pi) theta_a) (cone a cos_a)
    (cond (le (fmin (theta_d ⊕ theta_a) pi) theta_b) (cone b cos_b)
    (joined a b theta_a ((theta_a ⊕ theta_d ⊕ theta_b) ⊗ half)))
