-- A way of holding the normal at a time. Assumes nothing.
use mathlib.Core.Path.{◌∙◌, ap}
use lib.Ieee.{Float}
use Rattle.std.proofs.Common.{rules}
use Rattle.words.specs.Answers.{given, ◌then◌}
use Rattle.light_bounds.specs.Importance.{facing, normal_factor}
use Rattle.light_bounds.specs.AsCoded.Weighing.{with_held}
use Rattle.light_bounds.proofs.importance.with_unit.Goals as goal

pub returns-in-None : goal.returns-in-None
unfolding with_held
returns-in-None c = rw c.in-None.is

pub returns-in_ok-unit-in-Some : goal.returns-in_ok-unit-in-Some
unfolding with_held ◌then◌
returns-in_ok-unit-in-Some c = let a = c.args in
    rw (c.in-Some.is, c.in_ok-unit-in-Some.was)
    (ap (λ (k : Float). given (facing a.cos_p a.d2 k))
    (c.facing-factor.ensures ∙ ap (λ (k : Float). normal_factor k a.cos_b) c.dot.ensures))

pub returns-in_err-unit-in-Some : goal.returns-in_err-unit-in-Some
unfolding with_held ◌then◌
returns-in_err-unit-in-Some c = rw (c.in-Some.is, c.in_err-unit-in-Some.was) (search rules)
