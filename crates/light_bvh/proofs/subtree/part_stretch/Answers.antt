-- `light_bvh::subtree::part_stretch`: a work as long as the stretch is never refused. Assumes nothing.
use mathlib.Core.Path.{refl, sym}
use lib.ListN.{length}
use Rattle.words.specs.Answers.{◌then◌}
use Rattle.light_bvh.specs.AsCoded.Stretches.{split_count, split_handles}
use Rattle.light_bvh.proofs.SubtreeLaws.{parted-is}
use Rattle.light_bvh.proofs.subtree.part_stretch.Goals as goal
use Rattle.std.proofs.Common.{rules}

pub returns : goal.returns
returns c =
    let told = c.partition_handles.ensures in
    let h = parted-is c.args.block.now c.args.handles.now _ (length c.args.work.now) (sym c.in_ok-split.ensures)
    c.requires _ _ told.result_value told.handles_after in
    record { result_value = h.0; handles_after = h.1 }

pub returns-in_err-split : goal.returns-in_err-split
unfolding split_count split_handles ◌then◌
returns-in_err-split c = rw (← c.in_err-split.ensures) (record { result_value = search rules; handles_after = refl })
