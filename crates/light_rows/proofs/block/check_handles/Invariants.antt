-- `light_rows::block::check_handles`: up to `i` every handle is its place. Assumes nothing.
use Prim.Native.Nat.{◌≤◌}
use mathlib.Core.Path.{◌≡◌}
use mathlib.Core.Bool.{true}
use lib.ListN.{get_or}
use Rattle.words.specs.Rows.{below}
use Rattle.light_rows.specs.Block.{handle_at}
use Rattle.light_rows.proofs.block.check_handles.Given as goal

abbrev pub invariant-loop-i : goal.invariant-loop-i
invariant-loop-i l = (l.m ≡ get_or l.block 0 0) × (l.i ≤ l.m) × (below (handle_at l.block) l.i ≡ true)
