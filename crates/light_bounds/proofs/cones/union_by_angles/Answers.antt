-- `light_bounds::cones::union_by_angles`: the first cone, the second, or the one around both. Assumes nothing.
use mathlib.Core.Path.{◌≡◌, sym, ◌∙◌, ap}
use lib.Ieee.{neg, of_bits}
use Rattle.ieee.specs.Choose.{fmin, clamp}
use Rattle.ieee.specs.Single.{◌⊕◌, onef, minus_one, pi}
use Rattle.trig.specs.Trig.{acos}
use Rattle.light_bounds.specs.Cones.{union_direction_cones}
use Rattle.light_bounds.specs.Vecmath.{angle_between}
use Rattle.light_bounds.proofs.cones.union_by_angles.Goals as goal
use Rattle.light_bounds.proofs.cones.union_by_angles.Goals.{After-acos-theta_a, After-acos-theta_b}
use Rattle.light_bounds.proofs.cones.union_by_angles.Goals.{After-angle_between-theta_d, After-min, After-min-2}

-- the three angles
theta-a : (c : After-acos-theta_a) → acos (clamp c.args.a.cos_theta minus_one onef) ≡ c.acos-theta_a.result
unfolding neg of_bits
theta-a c = sym (c.acos-theta_a.ensures ∙ ap acos c.clamp.ensures)

theta-b : (c : After-acos-theta_b) →
    acos (clamp c.args.b.cos_theta minus_one onef) ≡ c.acos-theta_b.result
unfolding neg of_bits
theta-b c = sym (c.acos-theta_b.ensures ∙ ap acos c.clamp-2.ensures)

theta-d : (c : After-angle_between-theta_d) → (let s = c.args in angle_between
    s.a.direction s.b.direction) ≡ c.angle_between-theta_d.result
theta-d c = sym c.angle_between-theta_d.ensures

-- the two sums, at most half a turn
first : (c : After-min) →
    fmin (c.angle_between-theta_d.result ⊕ c.acos-theta_b.result) pi ≡ c.min.result
first c = sym c.min.ensures

second : (c : After-min-2) → fmin (c.angle_between-theta_d.result ⊕
    c.acos-theta_a.result) pi ≡ c.min-2.result
second c = sym c.min-2.ensures

pub returns-then-min-theta_a : goal.returns-then-min-theta_a
unfolding union_direction_cones
returns-then-min-theta_a c =
    let at = goal.at.returns-then-min-theta_a c in
    rw (
      theta-a at.After-acos-theta_a,
      theta-b at.After-acos-theta_b,
      theta-d at.After-angle_between-theta_d,
      first at.After-min,
    )
    (rw c.if-min-theta_a.true)

pub returns-then-min-theta_b : goal.returns-then-min-theta_b
unfolding union_direction_cones
returns-then-min-theta_b c =
    let at = goal.at.returns-then-min-theta_b c in
    rw (theta-a at.After-acos-theta_a, theta-b at.After-acos-theta_b)
    (rw (
      theta-d at.After-angle_between-theta_d,
      first at.After-min,
      c.if-min-theta_a.false,
      second at.After-min-2,
    )
    (rw c.if-min-theta_b.true))

pub returns : goal.returns
unfolding union_direction_cones
returns c =
    let at = goal.at.returns c in
    rw (theta-a at.After-acos-theta_a, theta-b at.After-acos-theta_b)
    (rw (
      theta-d at.After-angle_between-theta_d,
      first at.After-min,
      c.if-min-theta_a.false,
    )
    (rw (second at.After-min-2, c.if-min-theta_b.false) c.join.ensures))
