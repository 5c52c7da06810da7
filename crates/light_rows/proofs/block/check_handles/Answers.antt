-- `light_rows::block::check_handles`: at a handle that is not its place, not every handle is. Assumes nothing.
use mathlib.Core.Path.{◌∙◌}
use native.Mathlib.Omega.{arith}
use borrow.Author.Tests.{ne_eqb}
use lib.ListN.{get_or}
use Rattle.words.proofs.RowLaws.{below_false}
use Rattle.light_rows.specs.Block.{handle_at, block_handles}
use Rattle.light_rows.proofs.block.check_handles.Goals as goal

pub returns-then-label-i : goal.returns-then-label-i
unfolding block_handles
returns-then-label-i c = let loop = c.loop-i in
    let block = c.args.block.now in
    rw (below_false (handle_at block) (get_or block 0 0) c.loop-i.i (omega (arith, c.loop-i.invariant.0))
    (ne_eqb _ _ (λ e. c.if-label-i.true (c.label.ensures ∙ e))))
