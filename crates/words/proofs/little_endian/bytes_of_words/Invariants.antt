-- `words::little_endian::bytes_of_words`: the bytes before `4 * i` are those of the words, and the others are as they
-- came. Assumes nothing.
use Rattle.std.proofs.Common.{◌*◌}
use Rattle.words.specs.LittleEndian.{bytes_of}
use Rattle.words.proofs.Stores.{Copied}
use Rattle.words.proofs.little_endian.bytes_of_words.Given as goal

abbrev pub invariant-loop-i : goal.invariant-loop-i
invariant-loop-i l = Copied (bytes_of l.words) l.initial.bytes (4 * l.i) l.bytes
