-- `words::fill::fill`: the items that the loop has passed hold the value. Assumes nothing.
use Rattle.std.proofs.Common.{◌≡◌, take}
use Rattle.std.proofs.Math.ListN.{replicate}
use Rattle.words.proofs.fill.fill.Given as goal

abbrev pub invariant-loop-x : goal.invariant-loop-x
invariant-loop-x g l = take l.x-index l.x-items ≡ replicate l.x-index l.v
