-- The functions to whole numbers (R2.6, R2.14): floor, ceil and round are exact, round's halves away from zero; casts
-- saturate, NaN to 0". Each is taken of the magnitude m * 2 ^ e, and the result keeps the sign, a zero's too.
-- Definitions only. Assumes nothing.
use Rattle.std.specs.Prelude.{ℕ, ◌+◌, ◌*◌, ◌/◌, ◌%◌, Bool, false, cond, not, ◌&&◌, ℤ, eqb, Float}
use Rattle.std.specs.Float.{nan, inf, fin, Format}
use Rattle.std.specs.Float.Ieee.{up, down, round, to_unsigned}

-- the whole part of a magnitude, and one more where `away` says so and it has a fraction
abbrev pub outward : Bool → ℕ → ℤ → ℕ
outward away m e = m * up e / down e + cond (away && not (eqb (m * up e % down e) 0)) 1 0

-- the next whole number, away from zero or toward it
unfoldable pub next_whole : Format → Bool → Float → Float
unfolding round
next_whole f away nan = nan
next_whole f away (inf s) = inf s
next_whole f away (fin s m e) = round f s (outward away m e) 1

abbrev pub negative : Float → Bool
negative nan = false
negative (inf s) = s
negative (fin s m e) = s

-- floor goes away from zero below zero, ceil above it
unfoldable pub floor : Format → Float → Float
unfolding next_whole
floor f x = next_whole f (negative x) x

unfoldable pub ceil : Format → Float → Float
unfolding next_whole
ceil f x = next_whole f (not (negative x)) x

-- the nearest whole number, a half away from zero: the whole part of the magnitude and a half
abbrev pub half_up : ℕ → ℤ → ℕ
half_up m e = (2 * (m * up e) + down e) / (2 * down e)

unfoldable pub round_away : Format → Float → Float
unfolding round
round_away f nan = nan
round_away f (inf s) = inf s
round_away f (fin s m e) = round f s (half_up m e) 1

-- the casts to u16, u32 and usize
unfoldable pub to_u16 : Float → ℕ
unfolding to_unsigned
to_u16 x = to_unsigned 16 x

unfoldable pub to_u32 : Float → ℕ
unfolding to_unsigned
to_u32 x = to_unsigned 32 x

unfoldable pub to_usize : Float → ℕ
unfolding to_unsigned
to_usize x = to_unsigned 64 x
