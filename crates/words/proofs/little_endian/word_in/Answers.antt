-- `words::little_endian::word_in`: the word of four bytes. Assumes nothing.
use Rattle.std.proofs.Common.{arith}
use Rattle.words.proofs.LittleEndianLaws.{words_of-at}
use Rattle.words.proofs.little_endian.word_in.Goals as goal

pub returns : goal.returns
returns c = omega (arith, words_of-at c.args.bytes.now c.args.place c.requires)
