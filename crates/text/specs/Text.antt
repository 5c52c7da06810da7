-- What the programs write, in ASCII: a word in decimal, without leading zeros, and in eight hexadecimal digits;
-- and a refusal, which has a line of its own. Definitions only. Assumes nothing.
use Rattle.std.specs.Prelude.{ℕ, zero, suc, ◌+◌, ◌/◌, cond, List, [], ◌∷◌, ◌++◌, ltb}
use Rattle.io.specs.Digits.{last_digits}

-- how many decimal digits n has, where they are no more than one and as many again as the first number says
unfoldable pub places_in : ℕ → ℕ → ℕ
places_in zero n = 1
places_in (suc more) n = cond (ltb n 10) 1 (1 + places_in more (n / 10))

-- a word has at most ten
abbrev pub places : ℕ → ℕ
places = places_in 9

unfoldable pub decimal_bytes : ℕ → List ℕ
decimal_bytes n = last_digits 10 (places n) n

unfoldable pub hex_bytes : ℕ → List ℕ
hex_bytes n = last_digits 16 8 n

abbrev pub newline : List ℕ
newline = 10 ∷ []

-- `refused `
abbrev pub refused_bytes : List ℕ
refused_bytes = 114 ∷ 101 ∷ 102 ∷ 117 ∷ 115 ∷ 101 ∷ 100 ∷ 32 ∷ []

-- a refusal's line, by its number
unfoldable pub refusal_line : ℕ → List ℕ
refusal_line n = refused_bytes ++ decimal_bytes n ++ newline
