-- `words::limits::crowded`: word 0, and if that is within its limit the length. Assumes nothing.
use borrow.Author.Tests.{lt-ltb, le-ltb}
use Rattle.words.specs.Limits.{crowded}
use Rattle.words.proofs.limits.crowded.Goals as goal

pub returns-then-word_or_zero-gt-MAX_LAMPS : goal.returns-then-word_or_zero-gt-MAX_LAMPS
unfolding crowded
returns-then-word_or_zero-gt-MAX_LAMPS c = rw (← c.word_or_zero.ensures, lt-ltb _ _ c.if-word_or_zero-gt-MAX_LAMPS.true)

pub returns-else-word_or_zero-gt-MAX_LAMPS : goal.returns-else-word_or_zero-gt-MAX_LAMPS
unfolding crowded
returns-else-word_or_zero-gt-MAX_LAMPS c = rw (
  ← c.word_or_zero.ensures,
  le-ltb _ _ c.if-word_or_zero-gt-MAX_LAMPS.false,
)
