-- `light_split::partition::put_behind`: up to `i` the work's words stand behind the first handles. Assumes nothing.
use Rattle.light_split.proofs.PartitionLaws.{Behind}
use Rattle.light_split.proofs.partition.put_behind.Given as goal

abbrev pub invariant-loop-i : goal.invariant-loop-i
invariant-loop-i l = Behind l.initial.handles l.left l.work l.handles l.i
