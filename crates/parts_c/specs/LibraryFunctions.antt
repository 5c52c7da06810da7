-- The library functions of floats by numbers, for C: a function's number is its place in a list. Definitions only.
-- Assumes nothing.
use Rattle.std.specs.Prelude.{ℕ, List, [], ◌∷◌, Float, get_or}
use Rattle.std.specs.Float.{binary32}
use Rattle.std.specs.Float.Ieee.{to_bits}
use Rattle.ieee.specs.Choose.{fmin, fmax, fabs}
use Rattle.ieee.specs.Sqrt.{sqrt}
use Rattle.ieee.specs.Whole.{floor, ceil, round_away, to_u16, to_u32, to_usize}
use Rattle.trig.specs.Trig.{cos, sin, acos, asin}

abbrev pub ones : Float → List Float
ones x =
    fabs x ∷ floor binary32 x ∷ ceil binary32 x ∷ round_away binary32 x ∷ sqrt binary32 x ∷ []

-- past the last, the number itself
abbrev pub of_one : ℕ → Float → Float
of_one which x = get_or (ones x) which x

abbrev pub angles : Float → List Float
angles x = cos x ∷ sin x ∷ acos x ∷ asin x ∷ []

-- past the last, the number itself
abbrev pub angle_of : ℕ → Float → Float
angle_of which x = get_or (angles x) which x

abbrev pub twos : Float → Float → List Float
twos x y = fmin x y ∷ fmax x y ∷ []

-- past the last, the first of the two
abbrev pub of_two : ℕ → Float → Float → Float
of_two which x y = get_or (twos x y) which x

abbrev pub wholes : Float → List ℕ
wholes x = to_u16 x ∷ to_u32 x ∷ to_usize x ∷ to_bits binary32 x ∷ []

-- past the last, 0
abbrev pub to_whole : ℕ → Float → ℕ
to_whole which x = get_or (wholes x) which 0
