-- `light_rows::block::check_sides`: up to `i` every side is known. Assumes nothing.
use Prim.Native.Nat.{◌≤◌}
use mathlib.Core.Path.{◌≡◌}
use mathlib.Core.Bool.{true}
use lib.ListN.{length}
use Rattle.words.specs.Rows.{below}
use Rattle.light_rows.specs.Block.{block_words, side_at}
use Rattle.light_rows.proofs.block.check_sides.Given as goal

abbrev pub invariant-loop-i : goal.invariant-loop-i
invariant-loop-i l = (length l.block ≡ block_words l.m) × (l.i ≤ l.m) × (below (side_at l.block) l.i ≡ true)
