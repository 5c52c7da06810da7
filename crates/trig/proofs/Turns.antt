-- A countdown from n, as a loop makes it: what the turns that are left give is what all n turns give. Assumes nothing.
use Prim.Native.Nat.{ℕ, zero, suc, ◌-◌, ◌≤◌}
use mathlib.Core.Path.{◌≡◌, refl, sym, ◌∙◌, ap}
use native.Mathlib.Nat.{le_refl}
use native.Mathlib.Omega.{arith}
use lib.Ieee.{Float}
use Rattle.trig.specs.Series.{turns}

pub record Turning (step : ℕ → Float → Float) (n : ℕ) (first : Float) (m : ℕ) (q : Float) : Type 0 where
  pub left : turns step m q ≡ turns step n first
  pub most : m ≤ n

pub turning-start : (step : ℕ → Float → Float) (n : ℕ) (first : Float) → Turning step n first n first
turning-start step n first = record { left = refl; most = le_refl n }

module _ {step : ℕ → Float → Float} {n : ℕ} {first : Float} {m : ℕ} {q : Float} (t : Turning step n first m q) where
  pub turning-next : {r : Float} → 1 ≤ m → r ≡ step m q → Turning step n first (m - 1) r
  turning-next h e = record { left = ap (turns step (m - 1)) e ∙ sym (turn m h) ∙ t.left; most = omega arith }
    where
      less : (k : ℕ) → k ≡ suc k - 1
      less k = omega arith

      turn : (k : ℕ) → 1 ≤ k → turns step k q ≡ turns step (k - 1) (step k q)
      turn zero h = absurd (omega arith)
      turn (suc k) h = unfold turns in ap (λ (i : ℕ). turns step i (step (suc k) q)) (less k)

  pub turning-end : m ≤ 0 → q ≡ turns step n first
  turning-end h = sym (spent m h) ∙ t.left
    where
      spent : (k : ℕ) → k ≤ 0 → turns step k q ≡ q
      spent zero h = unfold turns in refl
      spent (suc k) h = absurd (omega arith)

pub ruleset turning = (turning-start, turning-next, turning-end)
