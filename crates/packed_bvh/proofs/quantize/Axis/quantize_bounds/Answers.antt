-- `packed_bvh::quantize::Axis::quantize_bounds`: nothing on an axis without extent, else the steps are cut, and, upwards, one
-- more where they are past that. Assumes nothing.
use Prim.Native.Nat.{◌+◌, ◌^◌, ◌≤◌}
use mathlib.Core.Bool.{true}
use mathlib.Core.Path.{◌≡◌, refl, ◌∙◌, ap}
use native.Mathlib.Omega.{arith}
use borrow.Author.Tests.{le-leb}
use lib.Ieee.{in_float}
use Rattle.ieee.specs.Whole.{to_u32}
use Rattle.packed_bvh.specs.Quantize.{steps_of, quantize_bounds}
use Rattle.packed_bvh.specs.Laws.QuantizeLaws.{quantize-small}
use Rattle.packed_bvh.proofs.QuantizeCuts.{cut_small, down-cut, up-cut}
use Rattle.packed_bvh.proofs.quantize.Axis.quantize_bounds.Goals as goal
use Rattle.packed_bvh.proofs.quantize.Axis.quantize_bounds.Goals.{After-to_u32-n}
use Rattle.packed_bvh.proofs.quantize.Axis.quantize_bounds.Goals.{else-up-via-then-up+else-n-step, else-up-via-else-up}

module _ (c : After-to_u32-n) where
  cut : c.to_u32-n.result ≡ to_u32 (steps_of c.args.value c.args.self.min c.args.self.max)
  cut = c.to_u32-n.ensures ∙ ap to_u32 c.steps-step.ensures

  small : c.to_u32-n.result ≤ 65535
  small = rw cut (cut_small _ _ _ c.if-self.false)

pub returns-then-self : goal.returns-then-self
unfolding quantize_bounds
returns-then-self c = rw c.if-self.true

pub int_to_float-n : goal.int_to_float-n
unfolding in_float
int_to_float-n c =
    rw (le-leb c.to_u32-n.result (2 ^ 24) (omega (arith, small (goal.at.int_to_float-n c).After-to_u32-n))) tt

pub overflow_add-result : goal.overflow_add-result
overflow_add-result c = omega (arith, small (goal.at.overflow_add-result c).After-to_u32-n)

pub overflow_cast-result : goal.overflow_cast-result
overflow_cast-result c =
    let at = cut (goal.at.overflow_cast-result c).After-to_u32-n in
    let is : c.to_u32-n.result + 1 ≡ quantize_bounds true c.args.value c.args.self.min c.args.self.max =
    rw (← up-cut _ _ _ c.if-self.false c.to_u32-n.result at, ← c.steps-step.ensures, c.if-n-step.true) refl in
    record { fits = omega (arith, is, quantize-small true c.args.value c.args.self.min c.args.self.max) }

pub overflow_cast-result-else-up : goal.overflow_cast-result-else-up
overflow_cast-result-else-up c =
    record { fits = omega (arith, small (goal.at.overflow_cast-result-else-up c).After-to_u32-n) }

pub returns-then-n-step : goal.returns-then-n-step
returns-then-n-step c = rw (
  c.if-up.true,
  ← up-cut _ _ _ c.if-self.false c.to_u32-n.result
      (cut (goal.at.returns-then-n-step c).After-to_u32-n),
  ← c.steps-step.ensures,
  c.if-n-step.true,
)

pub returns-else-up : goal.returns-else-up
returns-else-up c =
    let at = cut (goal.at.returns-else-up c).After-to_u32-n in
    elim c.else-up.branch [
      | else-up-via-then-up+else-n-step w ↦ rw (
        w.if-up.true,
        ← up-cut _ _ _ c.if-self.false c.to_u32-n.result at,
        ← c.steps-step.ensures,
        w.if-n-step.false,
      )
      | else-up-via-else-up w ↦ rw (w.if-up.false, ← down-cut _ _ _ c.if-self.false) at
    ]
