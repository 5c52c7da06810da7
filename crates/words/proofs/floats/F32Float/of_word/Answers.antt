-- `of_word` of `f32`: what is not a NaN's pattern is read as it stands. Assumes nothing.
use Rattle.std.proofs.Common.{sym}
use Rattle.std.specs.Float.{binary32}
use Rattle.std.specs.Float.Ieee.{of_bits}
use Rattle.ieee.specs.Laws.Nans.{no-nan-bits, nan-bits}
use Rattle.words.proofs.floats.F32Float.of_word.Goals as goal

pub float_from_bits-result : goal.float_from_bits-result
float_from_bits-result c = no-nan-bits binary32 c.args.w c.if-w-gt2139095040.false

pub returns-then-w-gt2139095040 : goal.returns-then-w-gt2139095040
unfolding of_bits
returns-then-w-gt2139095040 c = sym (nan-bits binary32 c.args.w c.if-w-gt2139095040.true)
