-- The bytes of an answer: they have room, and a block's are those of the words that the call has left. Assumes nothing.
use Prim.Native.Nat.{ℕ, ◌*◌, ◌≤◌}
use mathlib.Core.Path.{◌≡◌, refl, sym, ap, ◌∙◌}
use mathlib.Core.Bool.{Bool, true, false, cond}
use mathlib.Core.List.{List}
use native.Mathlib.Omega.{arith}
use lib.Dec.{eqb}
use lib.ListN.{length, get_or, take}
use Rattle.words.specs.Answers.{Answer, given, refused, count}
use Rattle.words.specs.Limits.{max_lamps, crowded}
use Rattle.words.specs.LittleEndian.{bytes_of}
use Rattle.words.specs.Tray.{tray}
use Rattle.words.proofs.AnswerLaws.{count-given, count-refused}
use Rattle.words.proofs.LittleEndianLaws.{length-bytes_of}
use Rattle.light_bounds.specs.declared.light_bounds.LightBounds.{LightBounds}
use Rattle.light_rows.specs.Block.{block_words, pack_exhaustive_bounds}
use Rattle.lamps.specs.BuildBounds.{build_light_bounds}
use Rattle.lamps.proofs.BuildLaws.{length-block}
use Rattle.lamp_laws.specs.Laws.ListLaws.{built-few}
use Rattle.text.specs.Text.{refusal_line}
use Rattle.text.proofs.PutLaws.{refusal-short}
use Rattle.words.specs.Laws.TrayLaws.{tray-front}
use Rattle.list_to_block.specs.ListToBlock.{block_room, answered, answer_bytes, converted}

-- ---- room

refusal-room : (n : ℕ) → length (answer_bytes (refused n)) ≤ 4 * block_room
unfolding answer_bytes
refusal-room n = omega (arith, refusal-short n)

pub block_room_lem : (list : List ℕ) (room : ℕ) → length (answer_bytes (build_light_bounds list room)) ≤ 4 * block_room
unfolding answer_bytes
block_room_lem list room = go (build_light_bounds list room) refl
  where
    go : (x : Answer (List LightBounds)) → build_light_bounds list room ≡ x → length (answer_bytes x) ≤ 4 * block_room
    go (given bs) is =
        rw (length-bytes_of (pack_exhaustive_bounds bs), length-block bs) (omega (arith, built-few list room bs is))
    go (refused n) is = refusal-room n

pub converted-room : (list : List ℕ) (stray : ℕ) → length (converted list stray) ≤ 4 * block_room
unfolding converted answered
converted-room list stray = go (crowded list) (eqb stray 0)
  where
    go : (a b : Bool) → length (answer_bytes
        (cond a (refused 2) (cond b (build_light_bounds list block_room) (refused 1)))) ≤ 4 * block_room
    go true b = refusal-room 2
    go false true = block_room_lem list block_room
    go false false = refusal-room 1

-- ---- the block

module _ (list : List ℕ) (stray : ℕ) where
  answered-built : (bs : List LightBounds) → answered list stray ≡ given bs
      → build_light_bounds list block_room ≡ given bs
  unfolding answered
  answered-built bs = go (crowded list) (eqb stray 0)
    where
      go : (a b : Bool) → cond a (refused 2) (cond b (build_light_bounds list block_room) (refused 1)) ≡ given bs
          → build_light_bounds list block_room ≡ given bs
      go true b e = cc
      go false true e = e
      go false false e = cc

  -- the words at its front
  pub block-bytes : (before after : List ℕ) (m : ℕ) → given m ≡ count (answered list stray)
      → after ≡ tray pack_exhaustive_bounds (block_words (get_or list 0 0)) (answered list stray) before
      → (m ≤ max_lamps) × (bytes_of (take (block_words m) after) ≡ converted list stray)
  unfolding converted answer_bytes
  block-bytes before after m counted is =
      let (bs, accepted, long) = count-given (answered list stray) m (sym counted) in
      let words : length (pack_exhaustive_bounds bs) ≡ block_words m = length-block bs ∙ rw long in (
        omega (arith, built-few list block_room bs (answered-built bs accepted), long),
        rw (is, accepted) (ap bytes_of
            (tray-front pack_exhaustive_bounds (block_words (get_or list 0 0)) (block_words m) bs before words)),
      )

  pub block_refused : (n : ℕ) → refused n ≡ count (answered list stray) → refusal_line n ≡ converted list stray
  unfolding converted answer_bytes
  block_refused n e = rw (count-refused (answered list stray) n (sym e))
