-- The value without its sign is the greater of x and 0 - x: of two zeros 0 - x, which is +0. Assumes nothing.
use Rattle.std.specs.Prelude.{ℕ, zero, suc, ◌+◌, ◌*◌, ◌-◌, ◌<◌, ◌≡◌, Bool, cond, T, ℤ, pos, Float}
use Rattle.std.proofs.Math.Path.{refl}
use Rattle.std.proofs.Math.Bool.{true, false}
use Rattle.std.proofs.Math.Nat.{zero-add, sub-zero, one-mul}
use Rattle.std.proofs.Common.{zero-mul, mul-one, mul-pos, zero-lt-suc}
use native.Mathlib.Omega.{arith}
use borrow.Author.Tests.{lt-ltb, le-ltb}
use Rattle.std.specs.Float.{nan, inf, fin, Format}
use Rattle.std.specs.Float.Ieee.{up, down, sum, add, sub, neg, lt, fits}
use Rattle.std.specs.Float.Ieee.Fits.{up_pos, down_pos, neg-fits}
use Rattle.ieee.specs.Choose.{fabs}
use Rattle.ieee.specs.Laws.FormatLaws.{fabs-fits, round_self}

module _ (f : Format) (m : ℕ) (e : ℤ) where
  -- the two magnitudes that 0 - x adds
  none : 0 * 1 * down e ≡ 0
  none = zero-mul (down e)

  itself : m * up e * 1 ≡ m * up e
  itself = mul-one (m * up e)

  below : T (fits f (fin true m e)) → sub f (fin false 0 (pos 0)) (fin true m e) ≡ fin false m e
  unfolding sub add neg sum fabs
  below F =
      rw (none, itself, one-mul (down e), zero-add (m * up e)) (round_self f false m e (fabs-fits f (fin true m e) F))

  above : 0 < m * up e → T (fits f (fin false m e)) → sub f (fin false 0 (pos 0)) (fin false m e) ≡ fin true m e
  unfolding sub add neg sum
  above h F =
      rw (none, itself, one-mul (down e), lt-ltb 0 (m * up e) h, sub-zero (m * up e))
      (round_self f true m e (neg-fits f (fin false m e) F))

  at : m * up e ≡ 0 → T (fits f (fin false m e)) → sub f (fin false 0 (pos 0)) (fin false m e) ≡ fin false m e
  unfolding sub add neg sum
  at z F =
      let k : 0 - m * up e ≡ m * up e = omega arith in
      rw (none, itself, one-mul (down e), le-ltb 0 (m * up e) (omega arith), k) (round_self f false m e F)

pub abs_greater : (f : Format) (x : Float) → T (fits f x)
    → cond (lt (sub f (fin false 0 (pos 0)) x) x) x (sub f (fin false 0 (pos 0)) x) ≡ fabs x
unfolding fabs lt
abs_greater f nan F = unfold sub add neg in refl
abs_greater f (inf true) F = unfold sub add neg in refl
abs_greater f (inf false) F = unfold sub add neg in refl
abs_greater f (fin true m e) F = rw (below f m e F)
abs_greater f (fin false zero e) F = rw (at f 0 e (zero-mul (up e)) F) (go (lt (fin false 0 e) (fin false 0 e)))
  where
    go : (b : Bool) → cond b (fin false 0 e) (fin false 0 e) ≡ fin false 0 e
    go true = refl
    go false = refl
abs_greater f (fin false (suc m) e) F =
    let p : 0 < suc m * up e = mul-pos (zero-lt-suc m) (up_pos e) in
    let q : 0 < suc m * up e * down e = mul-pos p (down_pos e) in
    rw (above f (suc m) e p F, lt-ltb 0 (suc m * up e * down e + suc m * up e * down e) (omega arith))
