-- Arcs that are known by their arguments' words, each seen by computing its steps. Assumes nothing.
use Prim.Native.Nat.{ℕ}
use mathlib.Core.Path.{◌≡◌, refl, sym, ◌∙◌, ap, subst}
use mathlib.Core.Bool.{true}
use lib.Dec.{T}
use lib.Ieee.{Float, binary32, fits, of_bits, to_bits, of_int, span, climb, size, odd, units}
use lib.Ieee.{round, neg, sum, add, sub, mul, div, lt, eq, le}
use lib.Ieee.Bits.{of_bits-to_bits}
use Rattle.ieee.specs.Choose.{fabs}
use Rattle.ieee.specs.Narrow.{narrow}
use Rattle.ieee.specs.Sqrt.{root, isqrt, root_of, sqrt}
use Rattle.trig.specs.Series.{turns, arc_step, arc}
use Rattle.trig.specs.Trig.{acos, asin, twice_arc}

-- a function at an argument whose word is known
pub at-word : (f : Float → Float) (x r : Float) (w v : ℕ) → fits binary32 x ≡ true → v ≡ to_bits binary32 x → v ≡ w →
    r ≡ f (of_bits binary32 w) → r ≡ f x
at-word f x r w v h a b e =
    e ∙ ap f (ap (of_bits binary32) (sym b ∙ a) ∙ of_bits-to_bits binary32 x (subst T (sym h) tt))

pub acos-one : of_bits binary32 0 ≡ acos (of_bits binary32 0x3f80_0000)
unfolding of_bits to_bits of_int span climb size odd units round neg sum add sub mul div lt eq le fabs narrow root isqrt
    root_of sqrt turns arc_step arc acos twice_arc
acos-one = refl

pub acos-minus-one : of_bits binary32 0x4049_0fdb ≡ acos (of_bits binary32 0xbf80_0000)
unfolding of_bits to_bits of_int span climb size odd units round neg sum add sub mul div lt eq le fabs narrow root isqrt
    root_of sqrt turns arc_step arc acos twice_arc
acos-minus-one = refl

pub acos-zero : of_bits binary32 0x3fc9_0fdb ≡ acos (of_bits binary32 0)
unfolding of_bits to_bits of_int span climb size odd units round neg sum add sub mul div lt eq le fabs narrow root isqrt
    root_of sqrt turns arc_step arc acos twice_arc
acos-zero = refl

-- a quarter turn's cosine as it is rounded
pub acos-quarter : of_bits binary32 0x3fc9_0fdb ≡ acos (of_bits binary32 0xb33b_bd2e)
unfolding of_bits to_bits of_int span climb size odd units round neg sum add sub mul div lt eq le fabs narrow turns
    arc_step arc acos
acos-quarter = refl

pub asin-zero : of_bits binary32 0 ≡ asin (of_bits binary32 0)
unfolding of_bits to_bits of_int span climb size odd units round neg sum add sub mul div lt eq le fabs narrow root isqrt
    root_of sqrt turns arc_step arc asin twice_arc
asin-zero = refl

-- the same as grind takes them, at an argument whose word is known
module _ (x : Float) (h : fits binary32 x ≡ true) where
  pub acos_one : to_bits binary32 x ≡ 0x3f80_0000 → acos x ≡ of_bits binary32 0
  acos_one e = sym (at-word acos x _ _ _ h refl e acos-one)

  pub acos_minus_one : to_bits binary32 x ≡ 0xbf80_0000 → acos x ≡ of_bits binary32 0x4049_0fdb
  acos_minus_one e = sym (at-word acos x _ _ _ h refl e acos-minus-one)

  pub acos_zero : to_bits binary32 x ≡ 0 → acos x ≡ of_bits binary32 0x3fc9_0fdb
  acos_zero e = sym (at-word acos x _ _ _ h refl e acos-zero)

  pub acos_quarter : to_bits binary32 x ≡ 0xb33b_bd2e → acos x ≡ of_bits binary32 0x3fc9_0fdb
  acos_quarter e = sym (at-word acos x _ _ _ h refl e acos-quarter)

  pub asin_zero : to_bits binary32 x ≡ 0 → asin x ≡ of_bits binary32 0
  asin_zero e = sym (at-word asin x _ _ _ h refl e asin-zero)

pub ruleset known = (acos_one, acos_minus_one, acos_zero, acos_quarter, asin_zero)
