-- The side of a record: what its last word says, 0 one-sided, 1 two-sided. Definitions only. Assumes nothing.
use Rattle.std.specs.Prelude.{ℕ, Bool, cond, ◌||◌, leb, eqb}
use Rattle.light_bounds.specs.declared.side.Side.{Side}

abbrev pub side_known : ℕ → Bool
side_known w = leb w 1

abbrev pub side_of : ℕ → Side
side_of w = record { two_sided = eqb w 1 }

abbrev pub side_word : Side → ℕ
side_word s = cond s.two_sided 1 0

-- of a lamp in a list
abbrev pub lamp_side : Bool → Side
lamp_side b = record { two_sided = b }

-- of a union
abbrev pub either : Side → Side → Side
either a b = record { two_sided = a.two_sided || b.two_sided }
