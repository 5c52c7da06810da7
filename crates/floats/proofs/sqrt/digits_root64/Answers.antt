-- `floats::sqrt::digits_root64`: with 54 zeros behind the normalised digits the root has one digit more than f64 keeps,
-- and one rounding drops it. Assumes nothing.
use Prim.Native.Nat.{ℕ, ◌+◌, ◌-◌, ◌*◌, ◌^◌, ◌≤◌, ◌<◌}
use mathlib.Core.Path.{◌≡◌, ap, ◌∙◌, sym}
use native.Mathlib.Nat.{mul-le-mul_right, mul-lt-mul_of_pos_right, mul_assoc, zero-add}
use native.Mathlib.Omega.{arith}
use lib.Dec.{lit≤, lit<}
use lib.Pow.{pow-add}
use lib.Ieee.{binary64, to_bits}
use lib.Ieee.Nearest.{closest}
use Rattle.ieee.specs.Sqrt.{root_of}
use Rattle.ieee.specs.Laws.SqrtWords.{sticky, sticky-lt, root-pattern}
use Rattle.floats.proofs.sqrt.digits_root64.Goals as goal
use Rattle.floats.proofs.sqrt.digits_root64.Goals.{After-shifted_to_even-kept}

-- the digits with 54 zeros behind them
from : (n : ℕ) → 2 ^ 52 ≤ n → 2 ^ 106 ≤ n * 2 ^ 54
from n h = mul-le-mul_right (2 ^ 54) h

to : (n : ℕ) → n < 2 ^ 54 → n * 2 ^ 54 < 2 ^ 108
to n h = mul-lt-mul_of_pos_right h (lit< tt)

-- what is kept of the root's digits
kept : (c : After-shifted_to_even-kept) →
    c.shifted_to_even-kept.result ≡ closest (sticky (c.normalised-s.result.digits.n * 2 ^ 54)) (2 ^ 2)
kept c = c.shifted_to_even-kept.ensures ∙ ap (λ (z : ℕ). closest z (2 ^ 2)) c.wide_sticky_root.ensures

pub shifted_to_even-kept-requires : goal.shifted_to_even-kept-requires
shifted_to_even-kept-requires c =
    let n = c.normalised-s.result.digits.n in
    let l : sticky (n * 2 ^ 54) < 2 ^ 55 =
    sticky-lt (n * 2 ^ 54) (2 ^ 54) (to n c.normalised-s.result.digits.n_bound) in
    record { a_bound = omega (arith, c.wide_sticky_root.ensures); le_gone = lit≤ tt; gone_bound = lit≤ tt }

pub returns : goal.returns
returns c =
    let s = c.normalised-s.result in
    let b = c.normalised-s.ensures in
    let t = s.half - 27 in
    let n = s.digits.n in
    let h : 27 + t ≡ s.half = omega arith in
    let e : n * 2 ^ 54 * 4 ^ t ≡ c.args.d * 2 ^ c.args.e =
    mul_assoc n (2 ^ 54) (4 ^ t) ∙ ap (λ (z : ℕ). n * z) (sym (pow-add 4 27 t) ∙ ap (λ (z : ℕ). 4 ^ z) h) ∙
    b.half_value in
    ap (λ (z : ℕ). t * 2 ^ 52 + z) (kept c)
    ∙ ap (λ (z : ℕ). z * 2 ^ 52 + closest (sticky (n * 2 ^ 54)) (2 ^ 2)) (sym (zero-add t))
    ∙ root-pattern binary64 0 t (n * 2 ^ 54) (from n s.digits.n_from) (to n s.digits.n_bound) (omega arith)
    ∙ ap (λ (z : ℕ). to_bits binary64 (root_of binary64 1075 z)) e
