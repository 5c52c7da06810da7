-- `alias_table::play`: each turn is the game's, and where a stack is empty the turns to go change nothing. Assumes
-- nothing.
use Prim.Native.Nat.{◌+◌}
use Rattle.alias_table.proofs.LoopLaws.{Going}
use Rattle.alias_table.proofs.play.Given as goal

abbrev pub invariant-loop-heights : goal.invariant-loop-heights
invariant-loop-heights l =
    Going l.m l.initial.bins l.initial.work l.fn.first.under l.fn.first.over l.bins l.work l.heights.under
    l.heights.over

abbrev pub decreases-loop-heights : goal.decreases-loop-heights
decreases-loop-heights l = l.heights.under + l.heights.over
