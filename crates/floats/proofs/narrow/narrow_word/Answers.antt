-- `floats::narrow::narrow_word`: the tests part the magnitudes into too large, normal, too small and subnormal;
-- NarrowLaws says which digits each keeps. Assumes nothing.
use Prim.Native.Nat.{◌%◌, ◌^◌, ◌≤◌}
use native.Mathlib.Omega.{arith}
use lib.Ieee.{binary64, to_bits}
use Rattle.ieee.specs.Laws.Nans.{nan-bits}
use Rattle.ieee.specs.Narrow.{narrow}
use Rattle.ieee.specs.Laws.NarrowLaws.{narrow-large, narrow-normal, narrow-small}
use Rattle.ieee.specs.Laws.NarrowLaws.{narrow_subnormal, subnormal-room}
use Rattle.floats.proofs.narrow.narrow_word.Goals as goal
use Rattle.floats.proofs.narrow.narrow_word.Goals.{After-shifted_to_even, After-shifted_to_even-2}

subnormal-kept : (c : After-shifted_to_even-2) → c.shifted_to_even-2.result ≤ 2 ^ 23
subnormal-kept c =
    rw c.shifted_to_even-2.ensures
    (subnormal-room (c.args.w % 2 ^ 63) c.if-a-ge4039728865751334912.false)

pub returns-then-a-gt9218868437227405312 : goal.returns-then-a-gt9218868437227405312
unfolding narrow to_bits
returns-then-a-gt9218868437227405312 c = rw (nan-bits binary64 c.args.w c.if-a-gt9218868437227405312.true)

pub returns-then-a-ge5183643171103440896 : goal.returns-then-a-ge5183643171103440896
returns-then-a-ge5183643171103440896 c =
    narrow-large c.args.w (omega arith) c.if-a-ge5183643171103440896.true c.if-a-gt9218868437227405312.false

pub returns-then-a-ge4039728865751334912 : goal.returns-then-a-ge4039728865751334912
returns-then-a-ge4039728865751334912 c = rw c.shifted_to_even.ensures
    (narrow-normal c.args.w (omega arith) c.if-a-ge4039728865751334912.true c.if-a-ge5183643171103440896.false)

pub returns-then-a-lt3931642474694443008 : goal.returns-then-a-lt3931642474694443008
returns-then-a-lt3931642474694443008 c = narrow-small c.args.w (omega arith) c.if-a-lt3931642474694443008.true

pub overflow_cast-result-2 : goal.overflow_cast-result-2
overflow_cast-result-2 c = omega (arith, subnormal-kept c)

pub overflow_add-result-2 : goal.overflow_add-result-2
overflow_add-result-2 c = omega (arith, subnormal-kept c)

pub returns : goal.returns
returns c = rw c.shifted_to_even-2.ensures
    (narrow_subnormal c.args.w (omega arith) c.if-a-lt3931642474694443008.false c.if-a-ge4039728865751334912.false)
