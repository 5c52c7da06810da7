-- Bounds records, as `LightBounds` of `light_bounds.rs` has them: the check in Rust's order, and the union. Definitions
-- only. Assumes nothing.
use Rattle.std.specs.Prelude.{Bool, cond, ◌&&◌, ◌||◌, not, Float}
use Rattle.std.specs.Float.Ieee.{lt, le, eq}
use Rattle.std.specs.Float.Ieee.Scale.{finite}
use Rattle.ieee.specs.Choose.{fmin}
use Rattle.ieee.specs.Single.{◌⊕◌, zerof, onef, minus_one}
use Rattle.words.specs.Answers.{Answer, given, refused, ◌then◌}
use Rattle.light_bounds.specs.Bounds.{box_check, box_union}
use Rattle.light_bounds.specs.Cones.{union_direction_cones}
use Rattle.light_bounds.specs.Side.{lamp_side, either}
use Rattle.light_bounds.specs.Vecmath.{finite_vec, dot}
use Rattle.light_bounds.specs.declared.light_bounds.LightBounds.{LightBounds}
use Rattle.light_bounds.specs.declared.bounds.Bounds3.{Bounds3}
use Rattle.light_bounds.specs.declared.cones.Cone.{Cone}
use Rattle.light_bounds.specs.declared.side.Side.{Side}
use Rattle.light_bounds.specs.declared.vecmath.Vec3.{Vec3}

-- the one constructor of a record
abbrev pub light_bounds : Bounds3 → Vec3 → Float → Float → Float → Side → LightBounds
light_bounds bounds direction phi cos_o cosE side =
    record {
      bounds = bounds;
      direction = direction;
      phi = phi;
      cos_theta_o = cos_o;
      cos_theta_e = cosE;
      side = side;
    }

-- of a lamp in a list
abbrev pub lamp_record : Bounds3 → Vec3 → Float → Float → Float → Bool → LightBounds
lamp_record bounds direction phi cos_o cosE side = light_bounds bounds direction phi cos_o cosE (lamp_side side)

-- the cone of the directions that a record's lights face
abbrev pub cone_of : LightBounds → Cone
cone_of r = record { direction = r.direction; cos_theta = r.cos_theta_o }

-- a cosine lies from -1 to 1
unfoldable pub is_cosine : Float → Bool
is_cosine x = le minus_one x && le x onef

abbrev pub are_cosines : Float → Float → Bool
are_cosines x y = is_cosine x && is_cosine y

-- 7, then 8
unfoldable pub range_check : LightBounds → Answer (Unit {0})
range_check r =
    cond (eq (dot r.direction r.direction) zerof) (refused 7)
    (cond (lt r.phi zerof || not (are_cosines r.cos_theta_o r.cos_theta_e)) (refused 8) (given tt))

abbrev pub finite_cone : LightBounds → Bool
finite_cone r = finite_vec r.direction && (finite r.phi && (finite r.cos_theta_o && finite r.cos_theta_e))

-- 5 of what is not the box
unfoldable pub cone_check : LightBounds → Answer (Unit {0})
cone_check r = cond (finite_cone r) (range_check r) (refused 5)

unfoldable pub validate : LightBounds → Answer (Unit {0})
validate r = box_check r.bounds then λ _. cone_check r

-- ---- union

-- an operand that fails its check is refusal 10, whatever failed
abbrev pub operand : Answer (Unit {0}) → Answer (Unit {0})
operand (given u) = given u
operand (refused n) = refused 10

-- the record around two that have power
abbrev pub join_powered : LightBounds → LightBounds → LightBounds
join_powered a b =
    let c = union_direction_cones a.direction a.cos_theta_o b.direction b.cos_theta_o in
    light_bounds (box_union a.bounds b.bounds) c.direction (a.phi ⊕ b.phi) c.cos_theta
    (fmin a.cos_theta_e b.cos_theta_e)
    (either a.side b.side)

-- zero power gives the other record whole, the first operand's tested first; the result is not checked
unfoldable pub join : LightBounds → LightBounds → LightBounds
join a b = cond (eq a.phi zerof) b (cond (eq b.phi zerof) a (join_powered a b))

unfoldable pub union : LightBounds → LightBounds → Answer LightBounds
union a b = operand (validate a) then λ _. operand (validate b) then λ _. given (join a b)
