-- `of_word` of `f64`: what is not a NaN's pattern is read as it stands. Assumes nothing.
use Rattle.std.proofs.Common.{sym}
use Rattle.std.specs.Float.{binary64}
use Rattle.std.specs.Float.Ieee.{of_bits}
use Rattle.ieee.specs.Laws.Nans.{no-nan-bits, nan-bits}
use Rattle.words.proofs.floats.F64Float.of_word.Goals as goal

pub float_from_bits-result : goal.float_from_bits-result
float_from_bits-result c = no-nan-bits binary64 c.args.w c.if-w-gt9218868437227405312.false

pub returns-then-w-gt9218868437227405312 : goal.returns-then-w-gt9218868437227405312
unfolding of_bits
returns-then-w-gt9218868437227405312 c = sym (nan-bits binary64 c.args.w c.if-w-gt9218868437227405312.true)
