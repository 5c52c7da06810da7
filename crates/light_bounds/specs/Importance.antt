-- The importance of a record for a point and a normal, step by step as `importance` of `light_bounds.rs` has it. The
-- steps take the point, whether the query is finite, and what the normal makes of what is seen (`importance_by`), so
-- that a query and one that a walk holds (Weighing) have them in common. The power enters in the last step alone
-- (`finish`). Definitions only. Assumes nothing.
use Rattle.std.specs.Prelude.{Bool, cond, ◌&&◌, Float}
use Rattle.std.specs.Float.Ieee.{le, eq}
use Rattle.ieee.specs.Choose.{fmax, fabs}
use Rattle.ieee.specs.Single.{◌⊖◌, ◌⊗◌, ◌⊘◌, zerof, half, onef}
use Rattle.words.specs.Answers.{Answer, given, refused, ◌then◌}
use Rattle.light_bounds.specs.Bounds.{diagonal, centroid}
use Rattle.light_bounds.specs.Cones.{safe_sqrt, cos_sub_clamped, sin_sub_clamped, bound_subtended_directions}
use Rattle.light_bounds.specs.LightBounds.{validate}
use Rattle.light_bounds.specs.Vecmath.{finite_vec, dot, minus, vec_length, normalize}
use Rattle.light_bounds.specs.declared.vecmath.Vec3.{Vec3}
use Rattle.light_bounds.specs.declared.light_bounds.LightBounds.{LightBounds}
use Rattle.light_bounds.specs.declared.importance.Query.{Query}

-- how a point sees a record: not at all; with the cosine of the cone's nearest direction, over a squared distance; and
-- with the normal's factor
pub data Seen : Type 0 where
  dark : Seen
  lit : Float → Float → Seen
  facing : Float → Float → Float → Seen

-- the sine of an angle by its cosine
unfoldable pub sine : Float → Float
sine c = safe_sqrt (onef ⊖ c ⊗ c)

-- the cosine between the record's direction and the point's, a two-sided lamp's without its sign
unfoldable pub cos_w : LightBounds → Vec3 → Float
cos_w r wi = cond r.side.two_sided (fabs (dot r.direction wi)) (dot r.direction wi)

-- the cosine of the smallest angle between the cone's directions and the box's
unfoldable pub cos_p : LightBounds → Vec3 → Float → Float
cos_p r wi cos_b =
    let w = cos_w r wi in
    let o = r.cos_theta_o in
    cos_sub_clamped (sin_sub_clamped (sine w) w (sine o) o) (cos_sub_clamped (sine w) w (sine o) o) (sine cos_b) cos_b

-- the normal's factor, by the cosine between it and the direction
unfoldable pub normal_factor : Float → Float → Float
normal_factor c cos_b = let i = fabs c in cos_sub_clamped (sine i) i (sine cos_b) cos_b

-- what a normal makes of a direction wi, the box's cosine, the smallest angle's and a squared distance
abbrev pub NormalStep : Type 0
NormalStep = Vec3 → Float → Float → Float → Answer Seen

-- `dot(n, n)` = 0 means no normal
unfoldable pub with_normal : Vec3 → NormalStep
with_normal n wi cos_b p d2 =
    cond (eq (dot n n) zerof) (given (lit p d2))
    (normalize n then λ (u : Vec3). given (facing p d2 (normal_factor (dot wi u) cos_b)))

-- ---- the steps, of a point and what a normal makes of it

unfoldable pub toward : LightBounds → Vec3 → NormalStep → Float → Vec3 → Answer Seen
toward r p normal d2 wi =
    let cos_b = bound_subtended_directions r.bounds p in
    let cos = cos_p r wi cos_b in
    cond (le cos r.cos_theta_e) (given dark) (normal wi cos_b cos d2)

-- the squared distance to the centre, at least half the diagonal's length
unfoldable pub distance2 : LightBounds → Vec3 → Float
distance2 r delta = fmax (dot delta delta) (vec_length (diagonal r.bounds) ⊗ half)

unfoldable pub geometry : LightBounds → Vec3 → NormalStep → Answer Seen
geometry r p normal =
    let delta = minus p (centroid r.bounds) in
    let d2 = distance2 r delta in
    cond (le d2 zerof) (given dark) (normalize delta then λ (wi : Vec3). toward r p normal d2 wi)

unfoldable pub finish : Float → Seen → Float
finish phi dark = zerof
finish phi (lit p d2) = fmax (phi ⊗ p ⊘ d2) zerof
finish phi (facing p d2 i) = fmax (phi ⊗ p ⊘ d2 ⊗ i) zerof

abbrev pub finish_view : Float → Answer Seen → Answer Float
finish_view phi v = v then λ (s : Seen). given (finish phi s)

-- of a record that passed its check; 5 where the query is not finite
unfoldable pub checked_importance : LightBounds → Vec3 → Bool → NormalStep → Answer Float
checked_importance r p finite normal = cond finite (finish_view r.phi (geometry r p normal)) (refused 5)

unfoldable pub importance_by : LightBounds → Vec3 → Bool → NormalStep → Answer Float
importance_by r p finite normal = validate r then λ _. checked_importance r p finite normal

-- ---- of a query

abbrev pub finite_query : Query → Bool
finite_query q = finite_vec q.p && finite_vec q.n

unfoldable pub importance : LightBounds → Query → Answer Float
importance r q = importance_by r q.p (finite_query q) (with_normal q.n)

-- what a walk weighs a record by
unfoldable pub weigh : LightBounds → Query → Answer Float
weigh r q = importance r q
