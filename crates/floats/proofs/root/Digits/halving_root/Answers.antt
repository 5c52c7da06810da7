-- `Digits::halving_root`: the root lies from `low` up to `low + range`, and the range falls to 1. Assumes nothing.
use Prim.Native.Nat.{ℕ, suc, ◌+◌, ◌-◌, ◌*◌, ◌/◌, ◌<◌}
use mathlib.Core.Path.{◌≡◌, subst}
use native.Mathlib.Omega.{arith}
use Rattle.ieee.specs.Laws.SqrtLaws.{root_unique}
use Rattle.floats.proofs.root.Digits.halving_root.Goals as goal

-- what is left of the range above the middle ends where it did
same_end : (n low range : ℕ) → n < (low + range) * (low + range) →
    n < (low + range / 2 + (range - range / 2)) * (low + range / 2 + (range - range / 2))
same_end n low range h =
    let e : low + range ≡ low + range / 2 + (range - range / 2) = omega arith in
    subst (λ (z : ℕ). n < z * z) e h

pub loop-range-preserved-then-middle-self : goal.loop-range-preserved-then-middle-self
loop-range-preserved-then-middle-self c = let at = c.loop-range in (
  c.if-middle-self.true,
  same_end c.args.self.n c.loop-range.low c.loop-range.range
      c.loop-range.invariant.1,
  omega arith,
  omega arith,
)

pub loop-range-preserved : goal.loop-range-preserved
loop-range-preserved c = (c.loop-range.invariant.0, c.if-middle-self.false, omega arith, omega arith)

pub returns : goal.returns
returns c =
    let at = c.loop-range in
    let one : c.loop-range.low + c.loop-range.range ≡ suc c.loop-range.low = omega arith in
    let n = c.args.self.n in
    root_unique n c.loop-range.low
    (record { at_most = c.loop-range.invariant.0; below = subst (λ (z : ℕ). n < z * z) one c.loop-range.invariant.1 })
