-- `light_split::partition::part`: the handles passed are parted, and those to come are as they came. Assumes nothing.
use mathlib.Core.Path.{sym, ◌∙◌}
use native.Mathlib.Omega.{arith}
use Rattle.light_split.specs.Partition.{goes_left, goes_right}
use Rattle.light_split.proofs.PartitionLaws.{goes-right, parting-none, parting-read}
use Rattle.light_split.proofs.PartitionLaws.{parting-left, parting-right, parting-all}
use Rattle.light_split.proofs.partition.part.Goals as goal
use Rattle.light_split.proofs.partition.part.Goals.{else-goes_left, then-goes_left}

pub loop-i-init : goal.loop-i-init
loop-i-init c =
    let args = c.args in
    parting-none (goes_left args.block.now args.ends args.split)
    (goes_right args.block.now args.ends args.split)
    args.handles.now args.work.now c.requires

pub loop-i-preserved : goal.loop-i-preserved
loop-i-preserved c =
    let args = c.args in
    let complement = goes-right args.block.now args.ends args.split in
    let read = parting-read complement c.loop-i.invariant in
    let told = sym c.goes_left.ensures in
    elim c.if-goes_left.branch [
      | then-goes_left w ↦ rw (w.handles-is, w.work-is, w.left-is, w.right-is)
          (parting-left complement c.loop-i.invariant _ read (omega arith) (told ∙ w.if-goes_left.true))
      | else-goes_left w ↦ rw (w.handles-is, w.work-is, w.left-is, w.right-is)
          (parting-right complement c.loop-i.invariant _ read (omega arith) (told ∙ w.if-goes_left.false))
    ]

pub returns : goal.returns
returns c =
    let args = c.args in
    let all = parting-all (goes-right args.block.now args.ends args.split) c.loop-i.invariant (omega arith) in
    record { value = all.0; handles_after = all.1.0; work_after = all.1.1 }
