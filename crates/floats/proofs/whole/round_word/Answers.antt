-- `floats::whole::round_word`: adding half the weight of a one and cutting the fraction off rounds halves away from
-- zero; each range of magnitudes is a case of WholeWords. Assumes nothing.
use Prim.Native.Nat.{◌+◌, ◌-◌, ◌%◌, ◌/◌, ◌^◌, ◌≤◌}
use native.Mathlib.Nat.{mod-le}
use native.Mathlib.Omega.{arith}
use lib.Pow.{pow_pos, pow_mono}
use lib.Ieee.{binary32, to_bits}
use Rattle.ieee.specs.Laws.Nans.{nan-bits}
use Rattle.ieee.specs.Whole.{round_away}
use Rattle.ieee.specs.Laws.WholeWords.{round_away-whole, round_away-none, round_away-one, round_away-part}
use Rattle.floats.proofs.whole.round_word.Goals as goal
use Rattle.floats.proofs.whole.round_word.Goals.{After-power-part}

-- the weight of a one among the digits
part : (c : After-power-part) → (1 ≤ c.power-part.result) × (c.power-part.result ≤ 2 ^ 23)
part c =
    let x = c.args.w % 2 ^ 31 / 2 ^ 23 in (
      rw c.power-part.ensures (pow_pos (150 - x)),
      rw c.power-part.ensures (pow_mono {i = 150 - x} {j = 23} (omega arith)),
    )

pub returns-then-a-gt2139095040 : goal.returns-then-a-gt2139095040
unfolding round_away to_bits
returns-then-a-gt2139095040 c = rw (nan-bits binary32 c.args.w c.if-a-gt2139095040.true)

pub returns-then-a-ge1258291200 : goal.returns-then-a-ge1258291200
returns-then-a-ge1258291200 c =
    round_away-whole c.args.w (omega arith) c.if-a-ge1258291200.true c.if-a-gt2139095040.false

pub returns-then-a-lt1056964608 : goal.returns-then-a-lt1056964608
returns-then-a-lt1056964608 c = round_away-none c.args.w (omega arith) c.if-a-lt1065353216.true c.if-a-lt1056964608.true

pub returns-then-a-lt1065353216 : goal.returns-then-a-lt1065353216
returns-then-a-lt1065353216 c = round_away-one c.args.w (omega arith) c.if-a-lt1065353216.true c.if-a-lt1056964608.false

pub nonzero_rem-result : goal.nonzero_rem-result
nonzero_rem-result c = (part c).0

pub overflow_sub-result : goal.overflow_sub-result
overflow_sub-result c = mod-le (c.args.w % 2 ^ 31 + c.power-part.result / 2) c.power-part.result

pub overflow_add-result-2 : goal.overflow_add-result-2
overflow_add-result-2 c = omega (arith, part c)

pub returns : goal.returns
returns c = rw c.power-part.ensures (round_away-part c.args.w (omega arith)
    c.if-a-lt1065353216.false c.if-a-ge1258291200.false)
