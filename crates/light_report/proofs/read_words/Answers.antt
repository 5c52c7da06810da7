-- There is room, so the words stand at the front. Assumes nothing.
use Rattle.light_report.proofs.TreeBytes.{words-read}
use Rattle.light_report.proofs.read_words.Goals as goal

pub returns : goal.returns
returns c = rw c.words_of_bytes.ensures.words_after (words-read _ c.args.words.now c.requires)
