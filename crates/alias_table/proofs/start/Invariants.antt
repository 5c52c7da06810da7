-- `alias_table::start`: the bins passed are written and pushed, and pushing the others leads to the start's state.
-- Assumes nothing.
use Rattle.alias_table.specs.AsCoded.Stacks.{weighted}
use Rattle.alias_table.proofs.LoopLaws.{Starting}
use Rattle.alias_table.proofs.start.Given as goal

abbrev pub invariant-loop-i : goal.invariant-loop-i
invariant-loop-i l =
    Starting l.m (weighted l.flat l.weights) l.sum l.initial.bins l.initial.work l.bins l.work l.heights.under
    l.heights.over l.i
