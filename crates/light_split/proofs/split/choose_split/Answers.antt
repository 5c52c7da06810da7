-- `light_split::split::choose_split`: the axes that are left lead to the same cut at each turn. Assumes nothing.
use mathlib.Core.Path.{◌≡◌}
use native.Mathlib.Omega.{arith}
use lib.Ieee.{of_bits}
use Rattle.light_split.proofs.SplitLaws.{axes, axes_all}
use Rattle.light_split.proofs.split.choose_split.Goals as goal

pub loop-dimension-init : goal.loop-dimension-init
unfolding of_bits
loop-dimension-init c =
    rw (c.centroid_ends-ends.ensures, c.combined_bounds-parent.ensures) (axes_all c.args.block.now c.args.handles.now)

pub returns : goal.returns
unfolding axes
returns c =
    let three : c.loop-dimension.dimension ≡ 3 = omega arith in
    rw three at c.loop-dimension.invariant
