-- A side's word is known, and is read back as the side. Assumes nothing.
use Rattle.std.specs.Prelude.{◌≡◌, refl, Bool, true, false}
use Rattle.light_bounds.specs.Side.{side_known, side_of, side_word, lamp_side}
use Rattle.light_bounds.specs.declared.side.Side.{Side}

pub side-known : (s : Side) → side_known (side_word s) ≡ true
side-known s = go s.two_sided
  where
    go : (b : Bool) → side_known (side_word (lamp_side b)) ≡ true
    go true = refl
    go false = refl

pub side-back : (s : Side) → side_of (side_word s) ≡ s
side-back s = go s.two_sided
  where
    go : (b : Bool) → side_of (side_word (lamp_side b)) ≡ lamp_side b
    go true = refl
    go false = refl
