-- `alias_table::add_up`: the sums of the weights passed go on to the sums of all, and a bad weight ends the pass.
-- Assumes nothing.
use Rattle.alias_table.proofs.WeightLaws.{Summing}
use Rattle.alias_table.proofs.add_up.Given as goal

abbrev pub invariant-loop-word : goal.invariant-loop-word
invariant-loop-word l = Summing l.weights l.word-index l.single l.double
