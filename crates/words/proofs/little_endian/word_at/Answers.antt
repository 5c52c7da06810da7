-- `words::little_endian::word_at`: past the last whole word there is none. Assumes nothing.
use mathlib.Core.Path.{sym}
use lib.ListN.{get_or-eq_default}
use Rattle.words.specs.LittleEndian.{words_of}
use Rattle.words.proofs.LittleEndianLaws.{length-words_of}
use Rattle.words.proofs.little_endian.word_at.Goals as goal

pub returns-else-place-bytes : goal.returns-else-place-bytes
returns-else-place-bytes c =
    sym (get_or-eq_default (words_of c.args.bytes.now) 0 (rw length-words_of c.if-place-bytes.false))
