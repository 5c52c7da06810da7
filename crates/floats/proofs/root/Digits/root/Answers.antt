-- `Digits::root`: a number whose square is at most n, and whose next number's is above n, is the root, wherever it came
-- from. Assumes nothing.
use Prim.Native.Nat.{ℕ, zero, suc, ◌-◌, ◌*◌, ◌≤◌, ◌<◌}
use mathlib.Core.Path.{◌≡◌}
use native.Mathlib.Omega.{arith}
use borrow.Author.Tests.{leb-true}
use Rattle.ieee.specs.Laws.SqrtLaws.{root_unique}
use Rattle.floats.proofs.root.Digits.root.Goals as goal
use Rattle.floats.proofs.root.Digits.root.Goals.{Then-square-n-2}

-- a square above n is not 0's
positive : (k n : ℕ) → n < k * k → 1 ≤ k
positive zero n h = absurd (omega arith)
positive (suc k) n h = omega arith

above : (c : Then-square-n-2) → 1 ≤ c.guess-q.result
above c = positive c.guess-q.result c.args.self.n c.if-square-n-2.true

pub returns-then-n-square : goal.returns-then-n-square
returns-then-n-square c = root_unique c.args.self.n c.guess-q.result
    (record { at_most = c.if-square-n.true; below = omega (arith, leb-true) })

pub returns-then-q-n : goal.returns-then-q-n
returns-then-q-n c =
    let e : suc (c.guess-q.result - 1) ≡ c.guess-q.result =
    omega (arith, above (goal.at.returns-then-q-n c).Then-square-n-2) in
    root_unique c.args.self.n (c.guess-q.result - 1)
    (record { at_most = c.if-q-n.true; below = rw e c.if-square-n-2.true })
