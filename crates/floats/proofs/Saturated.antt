-- A number that is cast to fewer bits, or else the largest number of these. Assumes nothing.
use Rattle.std.proofs.Common.{◌≡◌, ℕ, ◌-◌, ◌^◌, ◌≤◌, ◌<◌, ◌∙◌, arith, pow_pos, lit≤, refl}
use Rattle.std.specs.Prelude.{Result, Ok, Err}
use Rattle.std.specs.Result.{OkIff, result_unwrap_or}
use Rattle.ieee.specs.Whole.{to_u16, to_u32, to_usize}
use Rattle.ieee.specs.Laws.CastWords.{cast-kept, cast-most}
use Rattle.std.specs.Float.Ieee.{Float, to_unsigned}

pub saturated : {E : Type 0} (k j : ℕ) → k ≤ j → (x : Float) (n : ℕ) → n ≡ to_unsigned j x → (r : Result ℕ E)
    → OkIff r (n < 2 ^ k) n → result_unwrap_or r (2 ^ k - 1) ≡ to_unsigned k x
saturated k j l x n e (Ok m) h = h.1 ∙ cast-kept k j l x n e (omega (arith, h.0, pow_pos k))
saturated k j l x n e (Err _) h = cast-most k j l x n e (omega (arith, h, pow_pos k))

pub to_u32_saturated : {E : Type 0} (x : Float) (r : Result ℕ E)
    → OkIff r (to_usize x < 2 ^ 32) (to_usize x) → result_unwrap_or r (2 ^ 32 - 1) ≡ to_u32 x
unfolding to_u32 to_usize
to_u32_saturated x r h = saturated 32 64 (lit≤ tt) x (to_unsigned 64 x) refl r h

pub to_u16_saturated : {E : Type 0} (x : Float) (r : Result ℕ E)
    → OkIff r (to_usize x < 2 ^ 16) (to_usize x) → result_unwrap_or r (2 ^ 16 - 1) ≡ to_u16 x
unfolding to_u16 to_usize
to_u16_saturated x r h = saturated 16 64 (lit≤ tt) x (to_unsigned 64 x) refl r h

pub ruleset casts = (to_u32_saturated, to_u16_saturated)
