-- `packed_bvh::quantize::quantize_axis`: the last step and past it that; else the steps are cut, and one more from a
-- half on. Assumes nothing.
use Rattle.packed_bvh.proofs.QuantizeCuts.{axis-last, axis-cut}
use Rattle.packed_bvh.proofs.quantize.quantize_axis.Goals as goal

pub returns-then-n-ge65535 : goal.returns-then-n-ge65535
returns-then-n-ge65535 c = axis-last c.args.c c.to_u32-n.result c.to_u32-n.ensures c.if-n-ge65535.true

pub returns-then-n-step : goal.returns-then-n-step
returns-then-n-step c = rw (
  ← axis-cut _ c.to_u32-n.result c.to_u32-n.ensures
      c.if-n-ge65535.false,
  c.if-n-step.true,
)

pub returns-else-n-step : goal.returns-else-n-step
returns-else-n-step c = rw (
  ← axis-cut _ c.to_u32-n.result c.to_u32-n.ensures
      c.if-n-ge65535.false,
  c.if-n-step.false,
)
