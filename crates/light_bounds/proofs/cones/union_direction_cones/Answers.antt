-- `light_bounds::cones::union_direction_cones`: the angle of all directions is PI, and the first test's sum is cut to
-- PI. Assumes nothing.
use mathlib.Core.Path.{◌≡◌, refl, sym, ◌∙◌, ap, subst}
use mathlib.Core.Bool.{Bool, true, false}
use lib.Dec.{T}
use lib.Ieee.{Float, of_bits, lt, le, is_nan}
use Rattle.ieee.specs.Choose.{fmin, clamp}
use Rattle.ieee.specs.Laws.ChooseOrder.{fmin-cap}
use Rattle.ieee.specs.Single.{◌⊕◌, onef, minus_one, pi}
use Rattle.trig.specs.Trig.{acos}
use Rattle.trig.proofs.KnownArcs.{acos-minus-one, at-word}
use Rattle.light_bounds.specs.Cones.{union_direction_cones, cone}
use Rattle.light_bounds.specs.Vecmath.{angle_between}
use Rattle.light_bounds.specs.declared.vecmath.Vec3.{Vec3}
use Rattle.light_bounds.proofs.cones.union_direction_cones.Goals as goal

unclamped : clamp minus_one minus_one onef ≡ minus_one
unfolding clamp of_bits lt is_nan
unclamped = refl

whole-turn : acos (clamp minus_one minus_one onef) ≡ pi
whole-turn = ap acos unclamped ∙ sym acos-minus-one

cut : (x : Float) → le (fmin x pi) pi ≡ true
unfolding of_bits is_nan
cut x = go (le (fmin x pi) pi) (fmin-cap x pi tt)
  where
    go : (b : Bool) → T b → b ≡ true
    go true t = refl
    go false t = absurd t

all-directions : (a : Vec3) (b : Vec3) (cos_b : Float) → union_direction_cones a minus_one b cos_b ≡ cone a minus_one
unfolding union_direction_cones
all-directions a b cos_b = rw whole-turn (rw (cut (angle_between a b ⊕ acos (clamp cos_b minus_one onef))) refl)

pub returns-then-word-eq3212836864 : goal.returns-then-word-eq3212836864
returns-then-word-eq3212836864 c =
    let a = c.args.a in
    let b = c.args.b in
    let is : minus_one ≡ a.cos_theta =
    at-word (λ (x : Float). x) a.cos_theta minus_one _ _ c.well_formed.0.1.1.1.0.1 c.word.ensures
    c.if-word-eq3212836864.true refl in
    subst (λ (x : Float). cone a.direction x ≡ union_direction_cones a.direction x b.direction b.cos_theta) is
    (sym (all-directions a.direction b.direction b.cos_theta))
