-- `light_rows::block::check_sides`: at an unknown side not every side is known. Assumes nothing.
use Prim.Native.Nat.{ℕ}
use mathlib.Core.Path.{sym, ap, ◌∙◌}
use native.Mathlib.Omega.{arith}
use lib.ListN.{get_or}
use Rattle.words.proofs.RowLaws.{below_false}
use Rattle.light_bounds.specs.Side.{side_known}
use Rattle.light_rows.specs.Block.{side_at}
use Rattle.light_rows.specs.RecordWords.{side_place}
use Rattle.light_rows.proofs.block.check_sides.Goals as goal

pub returns-then-not-is_side : goal.returns-then-not-is_side
returns-then-not-is_side c = let args = c.args in
    let block = args.block.now in
    let known = c.is_side.ensures
    ∙ ap (λ (k : ℕ). side_known (get_or block (side_place k) 0)) c.record_place.ensures in
    rw (below_false (side_at block) args.m c.loop-i.i (omega arith) (sym known ∙ c.if-not-is_side.true))
