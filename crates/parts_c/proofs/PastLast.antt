-- A number that is none of the places of a list gives what stands past its end. Assumes nothing.
use Prim.Native.Nat.{ℕ, zero, suc, ◌≤◌}
use mathlib.Core.List.{List}
use mathlib.Core.Path.{◌≡◌, sym}
use native.Mathlib.Omega.{arith}
use lib.ListN.{length, get_or, get_or-eq_default}

-- what a match of k arms says of the number that none of them took
abbrev pub Passed : ℕ → ℕ → Type 0
Passed zero n = Unit {0}
Passed (suc k) n = Passed k n × (n ≡ k → ⊥)

passed : (k n : ℕ) → Passed k n → k ≤ n
passed zero n p = omega arith
passed (suc k) n p = let least = passed k n p.0 in let other = p.1 in omega arith

module _ {A : Type 0} where
  pub past-last : (xs : List A) (d : A) (n : ℕ) → Passed (length xs) n → d ≡ get_or xs n d
  past-last xs d n p = sym (get_or-eq_default xs d (passed (length xs) n p))
