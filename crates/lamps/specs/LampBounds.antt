-- The bounds of one lamp: `light_bounds_for_input` of `light_bounds.rs`, step by step, its refusals in its order.
-- Definitions only. Assumes nothing.
use Rattle.std.specs.Prelude.{ℕ, zero, suc, ◌+◌, ◌/◌, Bool, false, cond, ◌&&◌, ◌||◌, not, List, Float, length, get_or}
use Rattle.std.specs.Float.Ieee.{lt, le, eq}
use Rattle.std.specs.Float.Ieee.Scale.{finite}
use Rattle.ieee.specs.Single.{◌⊖◌, ◌⊗◌, single, zerof, onef, minus_one, pi}
use Rattle.trig.specs.Trig.{cos, acos}
use Rattle.words.specs.Answers.{Answer, given, refused, ◌then◌}
use Rattle.light_bounds.specs.Bounds.{box_check, least_of, greatest_of}
use Rattle.light_bounds.specs.LightBounds.{lamp_record, are_cosines, validate, union}
use Rattle.light_rows.specs.RecordWords.{vec_at}
use Rattle.light_bounds.specs.Vecmath.{vec, finite_vec, normalize}
use Rattle.light_bounds.specs.declared.bounds.Bounds3.{Bounds3}
use Rattle.light_bounds.specs.declared.light_bounds.LightBounds.{LightBounds}
use Rattle.light_bounds.specs.declared.vecmath.Vec3.{Vec3}
use Rattle.lamps.specs.LampList.{triangle_words}
use Rattle.lamps.specs.declared.lamp_list.Lamp.{Lamp}
use Rattle.lamps.specs.declared.lamp_list.Lamp.TheVariants.{Point, Spot, AreaGroup}
use Rattle.lamps.specs.declared.lamp_bounds.AreaTriangleInput.{AreaTriangleInput}

-- 4, 0.999, and half π as f32 has it
abbrev pub four : Float
four = single 0x4080_0000

abbrev pub nearly_one : Float
nearly_one = single 0x3f7f_be77

abbrev pub half_pi : Float
half_pi = single 0x3fc9_0fdb

abbrev pub emission_bad : Float → Float → Bool
emission_bad value scale = not (finite value) || (not (finite scale) || (lt value zerof || lt scale zerof))

abbrev pub validate_emission : Float → Float → Answer (Unit {0})
validate_emission value scale = cond (emission_bad value scale) (refused 8) (given tt)

-- a record that passes its own check
unfoldable pub checked : LightBounds → Answer LightBounds
checked r = validate r then λ _. given r

-- ---- points and spots

-- the box of one point
abbrev pub point_box : Vec3 → Bounds3
point_box p = record { min = p; max = p }

abbrev pub point_phi : Float → Float → Float
point_phi intensity scale = four ⊗ pi ⊗ scale ⊗ intensity

unfoldable pub point_bounds : Vec3 → Float → Float → Answer LightBounds
point_bounds position intensity scale =
    validate_emission intensity scale then λ _.
    box_check (point_box position) then λ _.
    checked (lamp_record (point_box position) (vec zerof zerof onef) (point_phi intensity scale) minus_one (cos half_pi)
    false)

-- the angle's cosine rounds to 1, and yet there is a falloff
abbrev pub too_narrow : Float → Float → Float → Bool
too_narrow cosE cos_o cos_end = eq cosE onef && not (eq cos_o cos_end)

-- the cosine of the falloff's angle; a falloff too narrow to see is not none
abbrev pub falloff : Float → Float → Float
falloff cos_o cos_end =
    let e = cos (acos cos_end ⊖ acos cos_o) in
    cond (too_narrow e cos_o cos_end) nearly_one e

unfoldable pub spot_record : Vec3 → Vec3 → Float → Float → Float → Answer LightBounds
spot_record position direction phi cos_o cos_end =
    box_check (point_box position) then λ _.
    normalize direction then λ d.
    checked (lamp_record (point_box position) d phi cos_o (falloff cos_o cos_end) false)

unfoldable pub spot_bounds : Vec3 → Vec3 → Float → Float → Float → Float → Answer LightBounds
spot_bounds position direction intensity scale cos_o cos_end =
    validate_emission intensity scale then λ _.
    cond (are_cosines cos_o cos_end)
    (spot_record position direction (point_phi intensity scale) cos_o cos_end)
    (refused 8)

-- ---- groups

-- thirteen words: three vertices, area, normal
abbrev pub triangle_at : List ℕ → ℕ → AreaTriangleInput
triangle_at ts i =
    record {
      a = vec_at ts i;
      b = vec_at ts (i + 3);
      c = vec_at ts (i + 6);
      area = single (get_or ts (i + 9) 0);
      geometric_normal = vec_at ts (i + 10);
    }

-- min and max drop a NaN, so a coordinate is NaN only where all three vertices have it so
abbrev pub triangle_bounds : AreaTriangleInput → Bounds3
triangle_bounds t =
    record { min = least_of (least_of t.a t.b) t.c; max = greatest_of (greatest_of t.a t.b) t.c }

-- NaN and infinite areas are refused with those not above zero
abbrev pub no_area : Float → Bool
no_area area = not (finite area) || le area zerof

abbrev pub group_phi : Float → Float → Float → Float
group_phi emission scale area = emission ⊗ scale ⊗ area ⊗ pi

-- the normal, then the normalised one, then the record
unfoldable pub faced_record : Bounds3 → Vec3 → Float → Bool → Answer LightBounds
faced_record bounds normal phi side =
    normalize normal then λ d.
    cond (finite_vec d) (checked (lamp_record bounds d phi onef (cos half_pi) side)) (refused 7)

-- the box, the area, then the rest
unfoldable pub triangle_record : Float → Float → Bool → AreaTriangleInput → Answer LightBounds
triangle_record emission scale side t =
    box_check (triangle_bounds t) then λ _.
    cond (no_area t.area) (refused 9)
    (faced_record (triangle_bounds t) t.geometric_normal (group_phi emission scale t.area) side)

-- the first record as it is, a later one in a union with what there is
abbrev pub join_next : Answer LightBounds → LightBounds → Answer LightBounds
join_next (given existing) current = union existing current
join_next (refused n) current = given current

-- triangle by triangle, so many from a place on; no triangle at all is 9
unfoldable pub union_from : Float → Float → Bool → List ℕ → ℕ → ℕ → Answer LightBounds → Answer LightBounds
union_from emission scale side ts i zero result = result
union_from emission scale side ts i (suc n) result =
    triangle_record emission scale side (triangle_at ts i) then λ current.
    join_next result current then λ r.
    union_from emission scale side ts (i + triangle_words) n (given r)

unfoldable pub group_bounds : Float → Float → Bool → List ℕ → Answer LightBounds
group_bounds emission scale side ts =
    validate_emission emission scale then λ _.
    union_from emission scale side ts 0 (length ts / triangle_words) (refused 9)

-- ---- a lamp, a group's triangles beside it

abbrev pub light_bounds_for_input : Lamp → List ℕ → Answer LightBounds
light_bounds_for_input (Point h p i s) ts = point_bounds p i s
light_bounds_for_input (Spot h p d i s o e) ts = spot_bounds p d i s o e
light_bounds_for_input (AreaGroup h e s side) ts = group_bounds e s side ts
