-- `light_split::partition::put_behind`: up to `i` the work's words stand behind the first handles. Assumes nothing.
use native.Mathlib.Omega.{arith}
use Rattle.light_split.proofs.PartitionLaws.{behind-none, behind-next, behind-all}
use Rattle.light_split.proofs.partition.put_behind.Goals as goal

pub loop-i-init : goal.loop-i-init
loop-i-init c =
    behind-none c.args.handles.now c.args.work.now c.args.left c.requires.left_in_bounds c.requires.handles_in_bounds

pub loop-i-preserved : goal.loop-i-preserved
loop-i-preserved c = behind-next c.loop-i.invariant (omega arith)

pub shape_of-handles : goal.shape_of-handles
shape_of-handles c = c.loop-i.invariant.same

pub returns : goal.returns
returns c = behind-all c.loop-i.invariant (omega arith)
