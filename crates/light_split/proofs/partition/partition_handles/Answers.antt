-- `light_split::partition::partition_handles`: the parted handles and those of the work behind them are both halves.
-- Assumes nothing.
use Prim.Native.Nat.{ℕ, ◌-◌, ◌≤◌}
use mathlib.Core.List.{List, ◌++◌}
use mathlib.Core.Path.{◌≡◌, sym, ◌∙◌}
use mathlib.Core.Logic.{⊎_map}
use native.Mathlib.Omega.{arith}
use lib.ListN.{length, take}
use Rattle.words.specs.Answers.{given}
use Rattle.light_split.specs.declared.split.Split.{Split}
use Rattle.light_split.specs.Partition.{partition_handles}
use Rattle.light_split.specs.AsCoded.Parted.{parted_count, parted_handles, parted_work}
use Rattle.light_split.proofs.PartitionLaws.{Parted, parted-of, parted_rejoined, parted-short}
use Rattle.light_split.proofs.PartitionLaws.{parted-long, partition-half, partition-both}
use Rattle.light_split.proofs.partition.partition_handles.Goals as goal
use Rattle.light_split.proofs.partition.partition_handles.Goals.{After-part-left}

parted : (c : After-part-left)
    → Parted c.args.block.now c.args.handles.now c.args.split
    c.args.work.now c.part-left.result
    c.part-left.new.handles c.part-left.new.work
parted c =
    let args = c.args in
    let told = c.part-left.ensures in
    parted-of args.block.now args.handles.now args.split args.work.now
    c.centroid_ends-ends.ensures told.value
    told.handles_after told.work_after c.part-left.auto.handles c.part-left.auto.work

-- the answer where n handles go left
whole : {ws hs work hs' work' out : List ℕ} {s : Split} {left : ℕ} → Parted ws hs s work left hs' work'
    → length hs ≤ length work → out ≡ take left hs' ++ take (length hs' - left) work'
    → (n : ℕ) → length (partition_handles ws hs s).0 ≡ n
    → (given n ≡ parted_count ws hs s (length work)) ×
    ((out ≡ parted_handles ws hs s (length work)) × (work' ≡ parted_work ws hs s work))
whole {ws} {hs} {work} {hs'} {work'} {out} {s} {left} p room e n is =
    parted-long ws hs s work room n is out work' (e ∙ parted_rejoined p) p.tray

pub returns-then-work-n : goal.returns-then-work-n
returns-then-work-n c =
    let args = c.args in
    let h = parted-short args.block.now args.handles.now args.split args.work.now c.if-work-n.true in
    record { result_value = h.0; handles_after = h.1.0; work_after = h.1.1 }

pub put_behind-requires : goal.put_behind-requires
put_behind-requires c =
    let p = parted (goal.at.put_behind-requires c).After-part-left in
    record { left_in_bounds = omega arith; handles_in_bounds = omega (arith, c.if-work-n.false) }

pub returns-then-left-eq0 : goal.returns-then-left-eq0
returns-then-left-eq0 c =
    let args = c.args in
    let p = parted (goal.at.returns-then-left-eq0 c).After-part-left in
    let count = p.count in
    let h = whole p c.if-work-n.false c.put_behind.ensures _ (partition-half args.block.now args.handles.now args.split
    (⊎_map (λ e. sym count ∙ e) (λ e. sym count ∙ e.1) c.then-left-eq0.either)) in
    record { result_value = h.0; handles_after = h.1.0; work_after = h.1.1 }

pub returns : goal.returns
returns c =
    let args = c.args in
    let p = parted (goal.at.returns c).After-part-left in
    let count = p.count in
    let h = whole p c.if-work-n.false c.put_behind.ensures _ (partition-both args.block.now args.handles.now args.split
    (λ e. c.if-left-eq0.false (count ∙ e))
    (λ e. c.if-left-n.false (count ∙ e)) ∙ sym count) in
    record { result_value = h.0; handles_after = h.1.0; work_after = h.1.1 }
