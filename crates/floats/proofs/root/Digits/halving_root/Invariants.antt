-- `Digits::halving_root`: the root lies from `low` up to `low + range`, and the range falls to 1. Assumes nothing.
use Prim.Native.Nat.{◌+◌, ◌*◌, ◌^◌, ◌≤◌, ◌<◌}
use Rattle.floats.proofs.root.Digits.halving_root.Given as goal

abbrev pub invariant-loop-range : goal.invariant-loop-range
invariant-loop-range l =
    (l.low * l.low ≤ l.self.n) × (l.self.n < (l.low + l.range) * (l.low + l.range)) × (1 ≤ l.range)
    × (l.low + l.range ≤ 2 ^ 27)

abbrev pub decreases-loop-range : goal.decreases-loop-range
decreases-loop-range l = l.range
