-- `floats::shift::shifted_to_even`: half a unit less one, and one more where the last digit kept is odd, carries
-- exactly where it should. Assumes nothing.
use Prim.Native.Nat.{◌-◌, ◌*◌, ◌%◌, ◌^◌}
use mathlib.Core.Path.{◌≡◌}
use native.Mathlib.Omega.{arith}
use Rattle.ieee.specs.Laws.Patterns.{one_shifted}
use Rattle.ieee.specs.Laws.Rounding.{closest-gone}
use Rattle.floats.proofs.shift.shifted_to_even.Goals as goal
use Rattle.floats.proofs.shift.shifted_to_even.Goals.{Start}

-- the half unit, as the shift makes it
half : (c : Start) → 1 * 2 ^ (c.args.gone - 1) % 2 ^ 64 ≡ 2 ^ (c.args.gone - 1)
half c = one_shifted (c.args.gone - 1) 64 (omega arith)

pub returns : goal.returns
returns c = rw (half c) (closest-gone c.args.a c.args.gone (omega arith))
