-- `floats::sqrt::normalised`: the leading zeros say how far the digits can be shifted. Assumes nothing.
use Prim.Native.Nat.{ℕ, ◌-◌, ◌*◌, ◌%◌, ◌^◌, ◌≤◌, ◌<◌}
use mathlib.Core.Path.{◌≡◌, subst, sym}
use mathlib.Core.Logic.{⊎_elim}
use native.Mathlib.Nat.{mod-eq_of_lt, lt_of_lt_of_le}
use native.Mathlib.Omega.{arith}
use lib.Dec.{lit≤}
use lib.Count.{count_leading_zeros}
use Rattle.ieee.specs.Laws.SqrtWords.{Normal, normal, normal-same, once_more}
use Rattle.floats.proofs.sqrt.normalised.Goals as goal
use Rattle.floats.proofs.sqrt.normalised.Goals.{Start}

found : (c : Start) → Normal c.args.d
found c = normal c.args.d c.requires.d_nonzero c.requires.d_bound

-- the shift, the digits after it, and the exponent that is left
abbrev shift : Start → ℕ
shift c = count_leading_zeros 64 c.args.d - 11

abbrev digits : Start → ℕ
digits c = c.args.d * 2 ^ shift c

abbrev last : Start → ℕ
last c = digits c * 2 ^ ((c.args.e - shift c) % 2)

-- neither shift loses anything
shifted : (c : Start) → digits c % 2 ^ 64 ≡ digits c
shifted c = mod-eq_of_lt (lt_of_lt_of_le (found c).to (lit≤ tt))

record Bounds (n : ℕ) : Type 0 where
  from : 2 ^ 52 ≤ n
  to : n < 2 ^ 54

bounds : (c : Start) → Bounds (last c)
bounds c =
    let n = found c in
    ⊎_elim (λ e. subst Bounds (sym e) (record { from = n.from; to = omega arith }))
    (λ e. subst Bounds (sym e) (record { from = omega arith; to = omega arith }))
    (once_more (digits c) (c.args.e - shift c))

twice-shifted : (c : Start) → last c % 2 ^ 64 ≡ last c
twice-shifted c = mod-eq_of_lt (lt_of_lt_of_le (bounds c).to (lit≤ tt))

pub overflow_sub-d : goal.overflow_sub-d
overflow_sub-d c = (found c).enough

pub invariant_of-result : goal.invariant_of-result
invariant_of-result c =
    let s = (goal.at.invariant_of-result c).Start in
    let n = found s in
    let b = bounds s in
    record {
      n_from = rw (c.from-shift.ensures, shifted s, twice-shifted s) b.from;
      n_bound = rw (c.from-shift.ensures, shifted s, twice-shifted s) b.to;
      normal_bound = rw (c.from-shift.ensures, shifted s) n.to;
      odd_bound = omega arith;
    }

pub returns : goal.returns
returns c =
    let s = (goal.at.returns c).Start in
    let n = found s in
    let l : shift s ≤ s.args.e = omega arith in
    record {
      half_value = rw (c.from-shift.ensures, shifted s, twice-shifted s) (normal-same s.args.d (shift s) s.args.e l);
      half_bound = omega arith;
      e_bound = omega arith;
    }
