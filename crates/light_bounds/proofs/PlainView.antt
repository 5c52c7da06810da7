-- Without a normal, inside a cone whose edge is not at its axis, the box is no matter: the smallest angle is none, so
-- its cosine is 1. Assumes nothing.
use mathlib.Core.Path.{◌≡◌, sym, subst}
use mathlib.Core.Bool.{Bool, true}
use lib.Dec.{T, not_T}
use lib.Ieee.{Float, lt, le}
use lib.Ieee.Bits.{is_true, is_false}
use lib.Ieee.Fits.{and_l, and_r}
use Rattle.std.specs.Prelude.{Option, Some, None}
use Rattle.ieee.specs.Laws.OrderLaws.{not_le_of_lt}
use Rattle.ieee.specs.Single.{onef}
use Rattle.words.specs.Answers.{given}
use Rattle.light_bounds.specs.Importance.{lit, toward, cos_w}
use Rattle.light_bounds.specs.AsCoded.Weighing.{Normal, with_held, is_plain}
use Rattle.light_bounds.proofs.RootLaws.{inside}
use Rattle.light_bounds.specs.declared.vecmath.Vec3.{Vec3}
use Rattle.light_bounds.specs.declared.light_bounds.LightBounds.{LightBounds}

pub plain : (r : LightBounds) (p wi : Vec3) (d2 : Float) (normal : Option Normal) → is_plain r normal wi ≡ true
    → toward r p (with_held normal) d2 wi ≡ given (lit onef d2)
unfolding toward with_held
plain r p wi d2 None t =
    let wide = lt r.cos_theta_e onef in
    let within = lt r.cos_theta_o (cos_w r wi) in
    let told : T (is_plain r None wi) = subst (λ (b : Bool). T b) (sym t) tt in
    let edge = le onef r.cos_theta_e in
    let past = not_T edge (not_le_of_lt r.cos_theta_e onef (and_l wide within told)) in
    rw (inside r wi p (is_true within (and_r wide within told)), is_false edge past)
plain r p wi d2 (Some n) t = absurd (subst (λ (b : Bool). T b) (sym t) tt)
