-- `floats::whole::to_usize_word`: the tests part the words into the ranges of CastWords, here at 64 bits. Assumes
-- nothing.
use mathlib.Core.Logic.{⊎_elim}
use native.Mathlib.Omega.{arith}
use lib.Dec.{lit≤}
use Rattle.ieee.specs.Whole.{to_usize}
use Rattle.ieee.specs.Laws.CastWords.{cast-below, cast-out, cast-above, cast-part, cast-shift}
use Rattle.floats.proofs.whole.to_usize_word.Goals as goal

pub returns-then-w-lt1065353216 : goal.returns-then-w-lt1065353216
unfolding to_usize
returns-then-w-lt1065353216 c =
    let w = c.args.w in
    ⊎_elim (cast-below w 64) (λ l. cast-out w 64 l.1) c.then-w-lt1065353216.either

pub returns-then-w-ge1602224128 : goal.returns-then-w-ge1602224128
unfolding to_usize
returns-then-w-ge1602224128 c =
    let w = c.args.w in
    cast-above w 64 c.if-w-ge1602224128.true c.if-w-gt2139095040.false

pub returns-then-field-lt150 : goal.returns-then-field-lt150
unfolding to_usize
returns-then-field-lt150 c = cast-part c.args.w 64 (lit≤ tt) c.if-w-lt1065353216.false
    (omega arith)

pub returns-else-field-lt150 : goal.returns-else-field-lt150
unfolding to_usize
returns-else-field-lt150 c = cast-shift c.args.w 64 (lit≤ tt) (omega arith) c.if-w-ge1602224128.false
    (omega arith)
