-- `words::little_endian::words_of_bytes`: the words that the loop has passed are those of the bytes. Assumes nothing.
use Rattle.std.proofs.Common.{◌≡◌, take}
use Rattle.words.specs.LittleEndian.{words_of}
use Rattle.words.proofs.little_endian.words_of_bytes.Given as goal

abbrev pub invariant-loop-i : goal.invariant-loop-i
invariant-loop-i l = take l.i l.word-items ≡ take l.i (words_of l.bytes)
