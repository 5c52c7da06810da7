-- The block's words stand at its front, and there is room for the bytes of any answer. Assumes nothing.
use Prim.Native.Nat.{◌+◌, ◌≤◌}
use mathlib.Core.Path.{◌≡◌}
use native.Mathlib.Omega.{arith}
use lib.ListN.{length, take}
use Rattle.words.specs.LittleEndian.{bytes_of}
use Rattle.words.specs.Limits.{max_lamps}
use Rattle.light_rows.specs.Block.{block_words}
use Rattle.text.proofs.PutLaws.{fitting-all}
use Rattle.list_to_block.specs.ListToBlock.{converted}
use Rattle.list_to_block.proofs.AnswerBytes.{converted-room, block-bytes, block_refused}
use Rattle.list_to_block.proofs.answer.Goals as goal
use Rattle.list_to_block.proofs.answer.Goals.{After-build, In-Ok}

room : (c : After-build) → 0 + length (converted c.args.input.words.now c.args.input.stray) ≤ length c.args.out.now
room c = omega (arith, converted-room c.args.input.words.now c.args.input.stray, c.told-out)

block : (c : In-Ok)
    → (c.in-Ok.m ≤ max_lamps)
    × (bytes_of (take (block_words c.in-Ok.m) c.build.new.block) ≡ converted c.args.input.words.now c.args.input.stray)
block c =
    let found = c.in-Ok.ensures.result_value in
    block-bytes c.args.input.words.now c.args.input.stray _ _ c.in-Ok.m found c.build.ensures.block_after

pub overflow_cast-m : goal.overflow_cast-m
overflow_cast-m c = record { fits = omega (arith, (block (goal.at.overflow_cast-m c).In-Ok).0) }

pub shared_ref_as_front-put_words : goal.shared_ref_as_front-put_words
shared_ref_as_front-put_words c =
    omega (arith, (block (goal.at.shared_ref_as_front-put_words c).In-Ok).0, c.block_words-end.ensures)

pub returns-in-Ok : goal.returns-in-Ok
returns-in-Ok c =
    let at = goal.at.returns-in-Ok c in
    rw (c.block_words-end.ensures, (block at.In-Ok).1, fitting-all _ 0 _ (room at.After-build)) at c.put_words.ensures

pub returns-in-Err : goal.returns-in-Err
returns-in-Err c =
    rw (
      block_refused c.args.input.words.now c.args.input.stray _ c.in-Err.ensures.result_value,
      fitting-all _ 0 _ (room (goal.at.returns-in-Err c).After-build),
    ) at
    c.put_refused.ensures
