-- f32 arithmetic, one rounding each, as infix operators, and constants by their bits. Definitions only. Assumes
-- nothing.
use Rattle.std.specs.Prelude.{ℕ, Float}
use Rattle.std.specs.Float.{binary32}
use Rattle.std.specs.Float.Ieee.{of_bits, add, sub, mul, div}

infixl 60 ◌⊕◌ ◌⊖◌
infixl 70 ◌⊗◌ ◌⊘◌
abbrev pub ◌⊕◌ : Float → Float → Float
◌⊕◌ x y = add binary32 x y

abbrev pub ◌⊖◌ : Float → Float → Float
◌⊖◌ x y = sub binary32 x y

abbrev pub ◌⊗◌ : Float → Float → Float
◌⊗◌ x y = mul binary32 x y

abbrev pub ◌⊘◌ : Float → Float → Float
◌⊘◌ x y = div binary32 x y

-- the value of a word
abbrev pub single : ℕ → Float
single w = of_bits binary32 w

-- 0, 0.5, 1, -1, 2 and Rust's PI
abbrev pub zerof : Float
zerof = single 0

abbrev pub half : Float
half = single 0x3f00_0000

abbrev pub onef : Float
onef = single 0x3f80_0000

abbrev pub minus_one : Float
minus_one = single 0xbf80_0000

abbrev pub twof : Float
twof = single 0x4000_0000

abbrev pub pi : Float
pi = single 0x4049_0fdb
