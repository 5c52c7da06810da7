-- A record's weight for a query as a walk holds it is its weight for the query (`weigh-held`): the normal is taken to
-- length 1 before the walk, and where it has none that is 7, as `normalize` refuses it. Assumes nothing.
use Rattle.std.specs.Prelude.{◌≡◌, refl, Bool, true, false, cond, Float, Some, None, Ok, Err}
use Rattle.std.proofs.Common.{ap, ◌∙◌, arith}
use Rattle.std.specs.Float.Ieee.{eq}
use Rattle.ieee.specs.Single.{◌⊘◌, zerof, onef}
use Rattle.words.proofs.AnswerLaws.{given_injective, refused_injective, not-both}
use Rattle.words.specs.Answers.{Answer, given, refused, ◌then◌, answered}
use Rattle.words.specs.Refusals.{number}
use Rattle.words.specs.declared.refusals.Refusal.{Refusal}
use Rattle.words.specs.declared.refusals.Refusal.TheVariants.{NoDirection}
use Rattle.light_bounds.specs.Importance.{NormalStep, lit, facing, normal_factor, with_normal, importance_by}
use Rattle.light_bounds.specs.Importance.{finite_query, checked_importance, importance, weigh}
use Rattle.light_bounds.specs.LightBounds.{validate}
use Rattle.light_bounds.specs.Vecmath.{dot, normalize, dividing, scaled, vec_length}
use Rattle.light_bounds.specs.AsCoded.Weighing.{Normal, of_length, unit_normal, finite_point, prepared, with_held}
use Rattle.light_bounds.specs.AsCoded.Weighing.{held_importance, weigh_held}
use Rattle.light_bounds.specs.declared.vecmath.Vec3.{Vec3}
use Rattle.light_bounds.specs.declared.light_bounds.LightBounds.{LightBounds}
use Rattle.light_bounds.specs.declared.importance.Query.{Query}
use Rattle.light_bounds.specs.declared.importance.Prepared.{Prepared}

pub with-held : (n wi : Vec3) (cos_b p d2 : Float)
    → with_held (unit_normal n) wi cos_b p d2 ≡ with_normal n wi cos_b p d2
unfolding unit_normal with_held with_normal normalize ◌then◌
with-held n wi cos_b p d2 = go (eq (dot n n) zerof) (dividing (vec_length n)) (scaled n (onef ⊘ vec_length n))
  where
    go : (none divides : Bool) (unit : Vec3)
        → with_held (cond none None (Some (of_length (cond divides (given unit) (refused 7))))) wi cos_b p d2
        ≡ cond none (given (lit p d2))
        (cond divides (given unit) (refused 7) then λ (u : Vec3). given (facing p d2 (normal_factor (dot wi u) cos_b)))
    go true divides unit = refl
    go false true unit = refl
    go false false unit = refl

-- the point that is held says whether the query is finite
point-held : (r : LightBounds) (q : Query) (normal : NormalStep)
    → held_importance r (finite_point q) normal ≡ checked_importance r q.p (finite_query q) normal
unfolding checked_importance
point-held r q normal = go (finite_query q)
  where
    go : (finite : Bool)
        → held_importance r (cond finite (Some q.p) None) normal ≡ checked_importance r q.p finite normal
    go true = refl
    go false = refl

pub weigh-held : (r : LightBounds) (q : Query) → weigh_held r (prepared q) ≡ weigh r q
unfolding weigh_held prepared weigh importance importance_by
weigh-held r q =
    ap (λ (normal : NormalStep). validate r then λ _. held_importance r (finite_point q) normal)
    (λ i wi cos_b p d2. with-held q.n wi cos_b p d2 i)
    ∙ ap (λ (x : Answer Float). validate r then λ _. x) (point-held r q (with_normal q.n))

pub weigh-prepared : (r : LightBounds) (h : Prepared) (q : Query) → h ≡ prepared q → weigh_held r h ≡ weigh r q
weigh-prepared r h q e = ap (λ (x : Prepared). weigh_held r x) e ∙ weigh-held r q

-- ---- a normal that is held

-- the one refusal of number 7
seven : (why : Refusal) → number why ≡ 7 → why ≡ NoDirection
seven why e = grind arith

-- what `normalize` returned is the normal of what it answers
pub held : (r : Normal) (n : Vec3) → answered r ≡ normalize n → r ≡ of_length (normalize n)
unfolding normalize
held r n e = go (dividing (vec_length n)) (scaled n (onef ⊘ vec_length n)) r e
  where
    go : (divides : Bool) (unit : Vec3) (r : Normal) → answered r ≡ cond divides (given unit) (refused 7)
        → r ≡ of_length (cond divides (given unit) (refused 7))
    go true unit (Ok u) e = ap Ok (given_injective e)
    go true unit (Err why) e = absurd (not-both e refl)
    go false unit (Ok u) e = absurd (not-both refl e)
    go false unit (Err why) e = ap Err (seven why (refused_injective e))
