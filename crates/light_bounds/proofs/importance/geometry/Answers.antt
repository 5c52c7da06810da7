-- The distance decides whether anything is seen, then the direction from the centre, which may not be there. Assumes
-- nothing.
use mathlib.Core.Path.{◌≡◌, sym, ◌∙◌, ap}
use Rattle.std.proofs.Common.{rules}
use Rattle.words.specs.Answers.{◌then◌}
use Rattle.light_bounds.specs.Bounds.{centroid}
use Rattle.light_bounds.specs.Importance.{geometry}
use Rattle.light_bounds.specs.Vecmath.{minus}
use Rattle.light_bounds.specs.declared.vecmath.Vec3.{Vec3}
use Rattle.light_bounds.proofs.importance.geometry.Goals as goal
use Rattle.light_bounds.proofs.importance.geometry.Goals.{After-sub-delta}

-- from the centre to the point
delta : (c : After-sub-delta) → (let s = c.args in minus s.p (centroid s.record.bounds)) ≡
    c.sub-delta.result
delta c =
    sym (c.sub-delta.ensures ∙ ap (λ (v : Vec3). minus c.args.p v)
    c.centroid.ensures)

pub returns-then-d2 : goal.returns-then-d2
unfolding geometry
returns-then-d2 c = rw (delta (goal.at.returns-then-d2 c).After-sub-delta, ← c.distance2-d2.ensures, c.if-d2.true)

pub returns : goal.returns
unfolding geometry ◌then◌
returns c = rw (delta (goal.at.returns c).After-sub-delta, ← c.distance2-d2.ensures, c.if-d2.false)
    (rw (← c.in_ok-wi.ensures) c.toward.ensures)

pub returns-in_err-wi : goal.returns-in_err-wi
unfolding geometry ◌then◌
returns-in_err-wi c =
    rw (delta (goal.at.returns-in_err-wi c).After-sub-delta, ← c.distance2-d2.ensures, c.if-d2.false)
    (rw (← c.in_err-wi.ensures) (search rules))
