-- The library's `floor`, `ceil` and `round` are those of Whole.antt: a magnitude of n / d goes up to (n + d - 1) / d,
-- which is the whole part, and one more where there is a rest. Assumes nothing.
use Rattle.std.proofs.Common.{◌≡◌, ℕ, ◌+◌, ◌-◌, ◌*◌, ◌/◌, ◌∙◌, sym, ap, refl, subst, arith}
use Rattle.std.specs.Prelude.{T, Float, Bool, true, false, ℤ}
use Rattle.std.specs.Float.{Format, binary32, nan, inf, fin, round_with}
use Rattle.std.specs.Float.{floor as library_floor, ceil as library_ceil, float_round}
use Rattle.std.specs.Float.Ieee.{up, down, round, of_bits, is_nan}
use Rattle.std.specs.Float.Ieee.Fits.{down_pos}
use Rattle.ieee.specs.Whole.{next_whole, floor, ceil, round_away}
use Rattle.ieee.specs.Laws.WholeLaws.{next_whole-units}
use Rattle.ieee.specs.Laws.Nans.{only_nan}

module _ (f : Format) (s : Bool) (m : ℕ) (e : ℤ) where
  cut : next_whole f false (fin s m e) ≡ round f s (m * up e / down e) 1
  cut = next_whole-units f false (fin s m e) s (m * up e) (down e) (down_pos e) (refl, refl) ∙
      ap (λ (z : ℕ). round f s (z / down e) 1) (omega arith)

  raised : next_whole f true (fin s m e) ≡ round f s ((m * up e + down e - 1) / down e) 1
  raised = next_whole-units f true (fin s m e) s (m * up e) (down e) (down_pos e) (refl, refl) ∙
      ap (λ (z : ℕ). round f s (z / down e) 1) (omega (arith, down_pos e))

pub library_floors : (f : Format) (x : Float) → library_floor f x ≡ floor f x
unfolding round_with floor next_whole
library_floors f nan = refl
library_floors f (inf s) = refl
library_floors f (fin false m e) = sym (cut f false m e)
library_floors f (fin true m e) = sym (raised f true m e)

pub library_ceils : (f : Format) (x : Float) → library_ceil f x ≡ ceil f x
unfolding round_with ceil next_whole
library_ceils f nan = refl
library_ceils f (inf s) = refl
library_ceils f (fin false m e) = sym (raised f false m e)
library_ceils f (fin true m e) = sym (cut f true m e)

pub library_rounds : (f : Format) (x : Float) → float_round f x ≡ round_away f x
unfolding round_with round_away
library_rounds f nan = refl
library_rounds f (inf s) = refl
library_rounds f (fin false m e) = refl
library_rounds f (fin true m e) = refl

-- the one NaN is given back as such
pub nan_floors : (x : Float) → is_nan x ≡ true → of_bits binary32 0x7fc0_0000 ≡ floor binary32 x
unfolding of_bits floor next_whole
nan_floors x h = subst (λ (y : Float). of_bits binary32 0x7fc0_0000 ≡ floor binary32 y)
    (sym (only_nan x (subst T (sym h) tt))) refl

pub nan_ceils : (x : Float) → is_nan x ≡ true → of_bits binary32 0x7fc0_0000 ≡ ceil binary32 x
unfolding of_bits ceil next_whole
nan_ceils x h = subst (λ (y : Float). of_bits binary32 0x7fc0_0000 ≡ ceil binary32 y)
    (sym (only_nan x (subst T (sym h) tt))) refl

pub ruleset library = (library_floors, library_ceils, library_rounds, nan_floors, nan_ceils)
