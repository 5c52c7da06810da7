-- Vectors, step by step as `light_bounds.rs` and `sampling.rs` have them; every operation is f32 and rounded once.
-- Definitions only. Assumes nothing.
use Rattle.std.specs.Prelude.{Bool, cond, not, ◌&&◌, Float}
use Rattle.std.specs.Float.{binary32}
use Rattle.std.specs.Float.Ieee.{eq, lt}
use Rattle.std.specs.Float.Ieee.Scale.{finite}
use Rattle.ieee.specs.Single.{◌⊕◌, ◌⊖◌, ◌⊗◌, ◌⊘◌, zerof, onef, twof, pi}
use Rattle.ieee.specs.Sqrt.{sqrt}
use Rattle.trig.specs.Trig.{cos, sin, asin}
use Rattle.words.specs.Answers.{Answer, given, refused}
use Rattle.light_bounds.specs.declared.vecmath.Vec3.{Vec3}

abbrev pub vec : Float → Float → Float → Vec3
vec x y z = record { x = x; y = y; z = z }

unfoldable pub finite_vec : Vec3 → Bool
finite_vec v = finite v.x && (finite v.y && finite v.z)

unfoldable pub dot : Vec3 → Vec3 → Float
dot a b = a.x ⊗ b.x ⊕ a.y ⊗ b.y ⊕ a.z ⊗ b.z

unfoldable pub plus : Vec3 → Vec3 → Vec3
plus a b = vec (a.x ⊕ b.x) (a.y ⊕ b.y) (a.z ⊕ b.z)

unfoldable pub minus : Vec3 → Vec3 → Vec3
minus a b = vec (a.x ⊖ b.x) (a.y ⊖ b.y) (a.z ⊖ b.z)

unfoldable pub cross : Vec3 → Vec3 → Vec3
cross a b = vec (a.y ⊗ b.z ⊖ a.z ⊗ b.y) (a.z ⊗ b.x ⊖ a.x ⊗ b.z) (a.x ⊗ b.y ⊖ a.y ⊗ b.x)

unfoldable pub scaled : Vec3 → Float → Vec3
scaled v k = vec (v.x ⊗ k) (v.y ⊗ k) (v.z ⊗ k)

unfoldable pub divided : Vec3 → Float → Vec3
divided v k = vec (v.x ⊘ k) (v.y ⊘ k) (v.z ⊘ k)

unfoldable pub vec_length : Vec3 → Float
vec_length v = sqrt binary32 (dot v v)

-- whether a length can be divided by: "a length to divide by is 0 or not finite" is refusal 7
abbrev pub dividing : Float → Bool
dividing l = finite l && not (eq l zerof)

-- the length, where it can be divided by
abbrev pub divisor : Vec3 → Answer Float
divisor v = cond (dividing (vec_length v)) (given (vec_length v)) (refused 7)

unfoldable pub normalize : Vec3 → Answer Vec3
normalize v = cond (dividing (vec_length v)) (given (scaled v (onef ⊘ vec_length v))) (refused 7)

-- the packed file divides by the length; `light_bounds.rs` multiplies by its reciprocal
unfoldable pub normalize_by_division : Vec3 → Answer Vec3
normalize_by_division v = cond (dividing (vec_length v)) (given (divided v (vec_length v))) (refused 7)

unfoldable pub rotate : Vec3 → Vec3 → Float → Vec3
rotate v axis angle =
    plus (plus (scaled v (cos angle)) (scaled (cross axis v) (sin angle)))
    (scaled axis (dot axis v ⊗ (onef ⊖ cos angle)))

unfoldable pub angle_between : Vec3 → Vec3 → Float
angle_between a b =
    cond (lt (dot a b) zerof) (pi ⊖ twof ⊗ asin (vec_length (plus a b) ⊘ twof))
    (twof ⊗ asin (vec_length (minus b a) ⊘ twof))
