-- The lamp list to its bounds block (R4), as bytes: `lamps_to_block` says what the program writes for what
-- it reads, little-endian words in and out, or a refusal's line. Definitions only. Assumes nothing.
use Rattle.std.specs.Prelude.{ℕ, ◌%◌, cond, List, eqb, length}
use Rattle.words.specs.Answers.{Answer, given, refused}
use Rattle.words.specs.Limits.{max_lamps, crowded}
use Rattle.words.specs.LittleEndian.{words_of, bytes_of}
use Rattle.light_bounds.specs.declared.light_bounds.LightBounds.{LightBounds}
use Rattle.light_rows.specs.Block.{block_words, pack_exhaustive_bounds}
use Rattle.lamps.specs.BuildBounds.{build_light_bounds}
use Rattle.text.specs.Text.{refusal_line}

-- room is lent for the block of as many lamps as a list may have
abbrev pub block_room : ℕ
block_room = block_words max_lamps

-- The list of these words, and as many stray bytes behind the last: over the limits is 2, stray bytes are 1,
-- the rest is the list's own.
unfoldable pub answered : List ℕ → ℕ → Answer (List LightBounds)
answered list stray =
    cond (crowded list) (refused 2) (cond (eqb stray 0) (build_light_bounds list block_room) (refused 1))

unfoldable pub answer_bytes : Answer (List LightBounds) → List ℕ
answer_bytes (given bs) = bytes_of (pack_exhaustive_bounds bs)
answer_bytes (refused n) = refusal_line n

unfoldable pub converted : List ℕ → ℕ → List ℕ
converted list stray = answer_bytes (answered list stray)

unfoldable pub lamps_to_block : List ℕ → List ℕ
lamps_to_block bytes = converted (words_of bytes) (length bytes % 4)
