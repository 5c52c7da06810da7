-- Of bytes: whole words alone. Assumes nothing.
use mathlib.Core.Path.{sym}
use Rattle.words.proofs.LittleEndianLaws.{length-words_of}
use Rattle.light_rows.proofs.record_words.RefSliceU8Words.count.Goals as goal

pub returns-clause-value : goal.returns-clause-value
returns-clause-value c = sym (length-words_of c.args.self.now)
