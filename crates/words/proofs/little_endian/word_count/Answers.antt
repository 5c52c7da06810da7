-- `words::little_endian::word_count`: its test is the definition's. Assumes nothing.
use borrow.Author.Tests.{eq-eqb, ne_eqb}
use Rattle.words.specs.AsCoded.WordSlices.{word_count}
use Rattle.words.proofs.little_endian.word_count.Goals as goal

pub returns-then-bytes-eq0 : goal.returns-then-bytes-eq0
unfolding word_count
returns-then-bytes-eq0 c = simp (eq-eqb _ _ c.if-bytes-eq0.true)

pub returns-else-bytes-eq0 : goal.returns-else-bytes-eq0
unfolding word_count
returns-else-bytes-eq0 c = simp (ne_eqb _ _ c.if-bytes-eq0.false)
