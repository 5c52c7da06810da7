-- `word` of `f64`: there is one NaN. Assumes nothing.
use Rattle.std.proofs.Common.{sym, ap, subst, T}
use Rattle.std.specs.Float.{binary64}
use Rattle.std.specs.Float.Ieee.{to_bits}
use Rattle.ieee.specs.Laws.Nans.{only_nan}
use Rattle.words.proofs.floats.F64Float.word.Goals as goal

pub returns-then-is_nan : goal.returns-then-is_nan
unfolding to_bits
returns-then-is_nan c = sym (ap (to_bits binary64) (only_nan c.args.self (subst T c.if-is_nan.ensures.value tt)))
