-- `light_bvh::build::gather_handles`: of the rows up to i the powered ones' handles are at the front. Assumes nothing.
use mathlib.Core.Path.{sym, ◌∙◌}
use Rattle.light_bvh.proofs.BuildLaws.{gathering-none, gathering_in, gathering-out}
use Rattle.light_bvh.proofs.build.gather_handles.Goals as goal
use Rattle.light_bvh.proofs.build.gather_handles.Goals.{else-is_powered, then-is_powered}

pub loop-i-init : goal.loop-i-init
loop-i-init c = gathering-none c.args.block.now _ c.args.handles.now (rw c.row_count-i-end.ensures c.requires)

pub loop-i-preserved : goal.loop-i-preserved
loop-i-preserved c =
    elim c.if-is_powered.branch [
      | then-is_powered w ↦ rw (w.handles-is, w.k-is) (gathering_in c.loop-i.invariant c.loop-i-test.true
          (sym c.is_powered.ensures ∙ w.if-is_powered.true))
      | else-is_powered w ↦ rw (w.handles-is, w.k-is) (gathering-out c.loop-i.invariant c.loop-i-test.true
          (sym c.is_powered.ensures ∙ w.if-is_powered.false))
    ]
