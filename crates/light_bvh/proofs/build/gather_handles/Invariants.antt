-- `light_bvh::build::gather_handles`: of the rows up to i the powered ones' handles are at the front. Assumes nothing.
use Rattle.light_bvh.proofs.BuildLaws.{Gathering}
use Rattle.light_bvh.proofs.build.gather_handles.Given as goal

abbrev pub invariant-loop-i : goal.invariant-loop-i
invariant-loop-i l = Gathering l.block l.i-end l.initial.handles l.handles l.k l.i
