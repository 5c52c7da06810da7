-- `words::fill::fill`: the loop has passed all items of the stretch. Assumes nothing.
use Rattle.std.proofs.Common.{arith}
use borrow.Rule.Slice.PartMut.{mid_len}
use Rattle.words.proofs.FillLaws.{filled-none, filled-part}
use Rattle.words.proofs.fill.fill.Goals as goal

pub returns-after-loop-x : goal.returns-after-loop-x
returns-after-loop-x g c =
    let part = mid_len c.args.from c.min-end.result c.args.s.now (omega arith) in
    filled-part _ _ _ _ _ c.loop-x.x-index _ c.min-end.ensures c.if-from-end.true c.loop-x.invariant (omega arith)
    (omega arith)

pub returns-else-from-end : goal.returns-else-from-end
returns-else-from-end g c = filled-none _ _ _ _ (omega arith)
