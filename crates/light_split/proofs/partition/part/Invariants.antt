-- `light_split::partition::part`: the handles passed are parted, and those to come are as they came. Assumes nothing.
use Rattle.light_split.specs.Partition.{goes_left, goes_right}
use Rattle.light_split.proofs.PartitionLaws.{Parting}
use Rattle.light_split.proofs.partition.part.Given as goal

abbrev pub invariant-loop-i : goal.invariant-loop-i
invariant-loop-i l =
    Parting (goes_left l.block l.ends l.split) (goes_right l.block l.ends l.split) l.initial.handles l.initial.work
    l.handles l.work l.left l.right l.i
