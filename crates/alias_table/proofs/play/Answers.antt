-- `alias_table::play`: each turn is the game's, and where a stack is empty the turns to go change nothing. Assumes
-- nothing.
use mathlib.Core.Logic.{inl, inr}
use borrow.Author.Tests.{ltb-true, ltb-false}
use Rattle.alias_table.proofs.LoopLaws.{going_in, going_next, going-last}
use native.Mathlib.Omega.{arith}
use Rattle.alias_table.proofs.play.Goals as goal

pub settle-requires : goal.settle-requires
settle-requires c = going_in c.loop-heights.invariant c.requires (omega arith) (omega (arith, ltb-true))

pub loop-heights-preserved : goal.loop-heights-preserved
loop-heights-preserved c = let pushed = c.push.ensures in
    going_next c.loop-heights.invariant (omega arith) (omega (arith, ltb-true)) c.joint-excess.ensures
    c.settle.ensures pushed.under_after pushed.over_after pushed.work_after

pub returns-else-heights-gt0 : goal.returns-else-heights-gt0
returns-else-heights-gt0 c = going-last c.loop-heights.invariant (inr (omega (arith, ltb-false)))

pub returns-after-loop-heights : goal.returns-after-loop-heights
returns-after-loop-heights c = going-last c.loop-heights.invariant (inl (omega arith))
