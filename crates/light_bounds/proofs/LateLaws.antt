-- The checks of boxes, vectors and records refuse by 5 to 10 alone: late refusals, which zero the trays. Assumes
-- nothing.
use mathlib.Core.Bool.{◌||◌, not}
use native.Mathlib.Omega.{arith}
use lib.Ieee.{lt, eq}
use Rattle.ieee.specs.Single.{zerof}
use Rattle.words.proofs.AnswerLaws.{Late, only-given, only-refused, only-cond, only_then}
use Rattle.words.specs.Answers.{Answer, given, refused}
use Rattle.light_bounds.specs.Bounds.{box_check, finite_box, inverted}
use Rattle.light_bounds.specs.LightBounds.{validate, cone_check, finite_cone, range_check}
use Rattle.light_bounds.specs.LightBounds.{are_cosines, operand, union}
use Rattle.light_bounds.specs.Vecmath.{normalize, dividing, dot, vec_length}
use Rattle.light_bounds.specs.declared.bounds.Bounds3.{Bounds3}
use Rattle.light_bounds.specs.declared.light_bounds.LightBounds.{LightBounds}
use Rattle.light_bounds.specs.declared.vecmath.Vec3.{Vec3}

pub late-box : (b : Bounds3) → Late (box_check b)
unfolding box_check
late-box b =
    only-cond (finite_box b) (only-cond (inverted b) (only-refused (omega arith)) only-given)
    (only-refused (omega arith))

pub late-normalize : (v : Vec3) → Late (normalize v)
unfolding normalize
late-normalize v = only-cond (dividing (vec_length v)) only-given (only-refused (omega arith))

pub late-validate : (r : LightBounds) → Late (validate r)
unfolding validate cone_check range_check
late-validate r =
    only_then (late-box r.bounds)
    (λ _. only-cond (finite_cone r)
    (only-cond (eq (dot r.direction r.direction) zerof) (only-refused (omega arith))
    (only-cond (lt r.phi zerof || not (are_cosines r.cos_theta_o r.cos_theta_e))
    (only-refused (omega arith)) only-given))
    (only-refused (omega arith)))

late-operand : (x : Answer (Unit {0})) → Late (operand x)
late-operand (given u) = only-given
late-operand (refused n) = only-refused (omega arith)

pub late-union : (a b : LightBounds) → Late (union a b)
unfolding union
late-union a b = only_then (late-operand (validate a)) (λ _. only_then (late-operand (validate b)) (λ _. only-given))
