-- Integer roots of `Digits`, as grind takes them: how large they are, and what is kept of them. Assumes nothing.
use Rattle.std.proofs.Common.{◌≡◌, ℕ, sym, arith, ◌+◌, ◌*◌, ◌^◌, ◌<◌, ◌≤◌}
use Rattle.std.specs.Float.{binary32}
use Rattle.std.specs.Float.Ieee.{to_bits}
use Rattle.std.specs.Float.Ieee.Nearest.{closest}
use Rattle.ieee.specs.Sqrt.{isqrt, root_of}
use Rattle.ieee.specs.Laws.SqrtLaws.{isqrt-law, root_below}
use Rattle.ieee.specs.Laws.SqrtNear.{nearest-kept}
use Rattle.ieee.specs.Laws.SqrtWords.{sticky, sticky-lt, root_kept, root-pattern}
use native.Mathlib.Nat.{mul-le-mul}

pub square_le : (n : ℕ) → isqrt n * isqrt n ≤ n
square_le n = (isqrt-law n).at_most

pub short_root : (n : ℕ) → n < 2 ^ 54 → isqrt n < 2 ^ 27
short_root n h = root_below n (isqrt n) (2 ^ 27) (isqrt-law n) h

pub short_sticky : (n : ℕ) → n < 2 ^ 54 → sticky n < 2 ^ 28
short_sticky n h = sticky-lt n (2 ^ 27) h

pub short_kept : (n : ℕ) → 2 ^ 52 ≤ n → n < 2 ^ 54 → closest (sticky n) (2 ^ 4) ≤ 2 ^ 24
short_kept n l h = root_kept binary32 2 0 n l h

pub short_square : (q : ℕ) → q ≤ 2 ^ 25 → q * q ≤ 2 ^ 50
short_square q h = mul-le-mul h h

-- a root's pattern, by what is kept of the root of its digits
pub kept_pattern : (n t : ℕ) → 2 ^ 52 ≤ n → n < 2 ^ 54 → t ≤ 202
    → to_bits binary32 (root_of binary32 150 (n * 4 ^ t)) ≡ (2 + t) * 2 ^ 23 + closest (sticky n) (2 ^ 4)
kept_pattern n t l h b = sym (root-pattern binary32 2 t n l h (omega arith))

pub ruleset digits = (square_le, short_root, short_sticky, short_kept, short_square, kept_pattern)

-- a number that passes the test is what is kept, wherever it came from
pub ruleset nearest = (nearest-kept)
