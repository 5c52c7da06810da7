-- What is handed to the write is the answer of the very words that were read. Assumes nothing.
use Prim.Native.Nat.{ℕ, ◌≤◌}
use mathlib.Core.List.{List}
use native.Mathlib.Omega.{arith}
use lib.ListN.{length, take}
use Rattle.text.proofs.PutLaws.{handed_front}
use Rattle.list_to_block.specs.ListToBlock.{converted}
use Rattle.list_to_block.proofs.AnswerBytes.{converted-room}
use Rattle.list_to_block.proofs.run.Goals as goal
use Rattle.list_to_block.proofs.run.Goals.{After-answer-end}

module _ (c : After-answer-end) where
  -- of the words and the stray bytes that were read
  abbrev text : List ℕ
  text = converted (take c.read_list-words.result.words c.read_list-words.new.list) c.read_list-words.result.stray

  room : length text ≤ 229380
  room = converted-room (take c.read_list-words.result.words c.read_list-words.new.list) c.read_list-words.result.stray

pub shared_ref_as_front-write : goal.shared_ref_as_front-write
shared_ref_as_front-write c =
    omega (arith, room (goal.at.shared_ref_as_front-write c).After-answer-end, c.answer-end.ensures.value)

pub write-requires : goal.write-requires
write-requires c =
    let at = (goal.at.write-requires c).After-answer-end in
    handed_front c.args.out.now (text at) c.answer-end.result (omega (arith, room at, c.told-out))
    c.answer-end.ensures.out_after c.answer-end.ensures.value
