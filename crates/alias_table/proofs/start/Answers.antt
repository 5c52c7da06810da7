-- `alias_table::start`: the bins passed are written and pushed, and pushing the others leads to the start's state.
-- Assumes nothing.
use Rattle.alias_table.proofs.LoopLaws.{starting-none, starting-next, starting-all}
use Rattle.alias_table.proofs.WeightLaws.{weighted-length, weighted-at}
use mathlib.Core.Path.{◌∙◌}
use native.Mathlib.Omega.{arith}
use Rattle.alias_table.proofs.start.Goals as goal

pub loop-i-init : goal.loop-i-init
loop-i-init c = starting-none _ c.args.sum (weighted-length c.args.flat c.args.weights.now)
    c.requires.room

pub loop-i-preserved : goal.loop-i-preserved
loop-i-preserved c = let pushed = c.push.ensures in
    let weight = weighted-at c.args.flat c.args.weights.now c.loop-i.i (omega arith) in
    starting-next c.loop-i.invariant (omega arith) (c.played_weight.ensures ∙ weight) c.put_bin.ensures
    pushed.under_after pushed.over_after pushed.work_after

pub returns : goal.returns
returns c = starting-all c.loop-i.invariant (omega arith) c.requires.sum_value
