-- `Digits::wide_sticky_root`: what the upper half leaves, over twice the upper half, is the lower half or one more, and
-- the rest of that division says which. Assumes nothing.
use Prim.Native.Nat.{ℕ, ◌-◌, ◌*◌, ◌/◌, ◌%◌, ◌^◌, ◌≤◌, ◌<◌}
use native.Mathlib.Nat.{mul-le-mul}
use native.Mathlib.Omega.{arith}
use lib.Dec.{lit<}
use Rattle.ieee.specs.Laws.SqrtLaws.{Root, root-of, root_below, root-from}
use Rattle.ieee.specs.Laws.SqrtWords.{lower, over, whole-root, lower-le, over-lt, wide_exact, wide-above, wide_below}
use Rattle.floats.proofs.root.Digits.wide_sticky_root.Goals as goal
use Rattle.floats.proofs.root.Digits.wide_sticky_root.Goals.{After-root-upper}

-- what is known of the upper half, and of the numbers that are made with it
record Halves (n s : ℕ) : Type 0 where
  upper : Root n s
  from : 2 ^ 26 ≤ s
  to : s < 2 ^ 27
  rest : n - s * s ≤ 2 * s
  lower-to : (n - s * s) * 2 ^ 27 / (2 * s) ≤ 2 ^ 27
  square-to : (n - s * s) * 2 ^ 27 / (2 * s) * ((n - s * s) * 2 ^ 27 / (2 * s)) ≤ 2 ^ 54
  over-to : (n - s * s) * 2 ^ 27 % (2 * s) * 2 ^ 27 < 2 * s * 2 ^ 27

halves : (c : After-root-upper) → Halves c.args.self.n c.root-upper.result
unfolding lower over
halves c =
    let n = c.args.self.n in
    let s = c.root-upper.result in
    let r : Root n s = root-of n s c.root-upper.ensures in
    let f : 2 ^ 26 ≤ s = root-from n s (2 ^ 26) r c.args.self.n_from in
    let w : 2 ^ 27 ≤ 2 * s = omega arith in
    let l : (n - s * s) * 2 ^ 27 / (2 * s) ≤ 2 ^ 27 = lower-le n s (2 ^ 27) r w (lit< tt) in
    record {
      upper = r;
      from = f;
      to = root_below n s (2 ^ 27) r c.args.self.n_bound;
      rest = omega (arith, r.below);
      lower-to = l;
      square-to = mul-le-mul l l;
      over-to = over-lt n s (2 ^ 27) r w (lit< tt);
    }

wide : (c : After-root-upper) → 2 ^ 27 ≤ 2 * c.root-upper.result
wide c = omega (arith, (halves c).from)

pub overflow_mul-rest : goal.overflow_mul-rest
overflow_mul-rest c = omega (arith, (halves c).upper.at_most)

pub overflow_sub-rest : goal.overflow_sub-rest
overflow_sub-rest c = (halves c).upper.at_most

pub overflow_mul-rest-2 : goal.overflow_mul-rest-2
overflow_mul-rest-2 c = omega (arith, (halves c).rest, (halves c).to)

pub overflow_mul-lower : goal.overflow_mul-lower
overflow_mul-lower c = omega (arith, (halves c).to)

pub nonzero_div-lower : goal.nonzero_div-lower
nonzero_div-lower c = omega (arith, (halves c).from)

pub overflow_mul-over : goal.overflow_mul-over
overflow_mul-over c = omega (arith, (halves c).to)

pub nonzero_rem-over : goal.nonzero_rem-over
nonzero_rem-over c = omega (arith, (halves c).from)

pub overflow_mul-over-2 : goal.overflow_mul-over-2
overflow_mul-over-2 c = omega (arith, (halves c).over-to, (halves c).to)

pub overflow_mul-whole : goal.overflow_mul-whole
overflow_mul-whole c = omega (arith, (halves c).to)

pub overflow_add-whole : goal.overflow_add-whole
overflow_add-whole c = omega (arith, (halves c).to, (halves c).lower-to)

pub overflow_mul-square : goal.overflow_mul-square
overflow_mul-square c = omega (arith, (halves c).square-to)

pub overflow_mul-result : goal.overflow_mul-result
overflow_mul-result c =
    let h = halves (goal.at.overflow_mul-result c).After-root-upper in
    omega (arith, h.to, h.lower-to)

pub overflow_mul-result-then-over-square-2 : goal.overflow_mul-result-then-over-square-2
overflow_mul-result-then-over-square-2 c =
    let h = halves (goal.at.overflow_mul-result-then-over-square-2 c).After-root-upper in
    omega (arith, h.to, h.lower-to)

pub returns-then-over-square : goal.returns-then-over-square
unfolding lower over whole-root
returns-then-over-square c =
    wide_exact c.args.self.n c.root-upper.result (2 ^ 27)
    (halves (goal.at.returns-then-over-square c).After-root-upper).upper
    (wide (goal.at.returns-then-over-square c).After-root-upper) (lit< tt) c.if-over-square.true

pub returns-then-over-square-2 : goal.returns-then-over-square-2
unfolding lower over whole-root
returns-then-over-square-2 c =
    wide_below c.args.self.n c.root-upper.result (2 ^ 27)
    (halves (goal.at.returns-then-over-square-2 c).After-root-upper).upper
    (wide (goal.at.returns-then-over-square-2 c).After-root-upper) (lit< tt) c.if-over-square-2.true

pub returns-else-over-square-2 : goal.returns-else-over-square-2
unfolding lower over whole-root
returns-else-over-square-2 c =
    let n = c.args.self.n in
    let s = c.root-upper.result in
    let more : lower n s (2 ^ 27) * lower n s (2 ^ 27) < over n s (2 ^ 27) =
    omega (arith, c.if-over-square-2.false, c.if-over-square.false) in
    wide-above n s (2 ^ 27) (halves (goal.at.returns-else-over-square-2 c).After-root-upper).upper
    (wide (goal.at.returns-else-over-square-2 c).After-root-upper) (lit< tt) more
