-- Functions on floats that are taken by their words, as grind takes them: a word is read back as the value that it was
-- made of, and the root of a word goes by the tests that part the words. Assumes nothing.
use Rattle.std.proofs.Common.{◌≡◌, ℕ, refl, sym, subst, inl, inr, cond, suc}
use Rattle.std.proofs.Common.{◌+◌, ◌*◌, ◌/◌, ◌%◌, ◌^◌, ◌<◌, ◌≤◌, ◌≢◌}
use Rattle.std.specs.Prelude.{T, Float, true}
use Rattle.std.specs.Float.{Format, binary32, binary64}
use Rattle.std.specs.Float.Ieee.{of_bits, to_bits, fits, lt, sub}
use Rattle.std.specs.Float.Ieee.Bits.{of_bits-to_bits}
use Rattle.ieee.specs.Choose.{fabs}
use Rattle.ieee.specs.Narrow.{narrow}
use Rattle.ieee.specs.Sqrt.{sqrt, root_of}
use Rattle.ieee.specs.Whole.{round_away}
use Rattle.ieee.specs.Laws.AbsLaws.{abs_greater}
use Rattle.ieee.specs.Laws.FormatLaws.{sqrt-fits}
use Rattle.ieee.specs.Laws.NarrowLaws.{narrow-fits}
use Rattle.ieee.specs.Laws.WholeLaws.{round_away-fits}
use Rattle.ieee.specs.Laws.SqrtWords.{sqrt-own, sqrt-none, sqrt_subnormal, sqrt-normal}
use lib.Ieee.{top, hid, ones, low}

-- ---- words read back

pub read_back : (f : Format) (x : Float) → fits f x ≡ true → of_bits f (to_bits f x) ≡ x
read_back f x h = of_bits-to_bits f x (subst T (sym h) tt)

pub narrow_back : (x : Float) → of_bits binary32 (to_bits binary32 (narrow x)) ≡ narrow x
narrow_back x = of_bits-to_bits binary32 _ (narrow-fits x)

pub root_back : (f : Format) (x : Float) → fits f x ≡ true → of_bits f (to_bits f (sqrt f x)) ≡ sqrt f x
root_back f x h = of_bits-to_bits f (sqrt f x) (sqrt-fits f x (subst T (sym h) tt))

pub round_back : (x : Float) → of_bits binary32 (to_bits binary32 (round_away binary32 x)) ≡ round_away binary32 x
round_back x = of_bits-to_bits binary32 _ (round_away-fits binary32 x)

pub ruleset backs = (read_back, narrow_back, root_back, round_back)

-- ---- the size of a float, as `abs` takes it

pub larger : (x : Float) → fits binary32 x ≡ true
    → fabs x ≡ cond (lt (sub binary32 (of_bits binary32 0) x) x) x (sub binary32 (of_bits binary32 0) x)
unfolding of_bits
larger x h = sym (abs_greater binary32 x (subst T (sym h) tt))

-- ---- the roots of words

module _ (f : Format) (w : ℕ) where
  pub zero_root : w % top f ≡ 0 → w < 2 * top f → to_bits f (sqrt f (of_bits f w)) ≡ w
  zero_root z W = sym (sqrt-own f w W (inl z))

  pub infinity_root : w ≡ ones f * hid f → w < 2 * top f → to_bits f (sqrt f (of_bits f w)) ≡ w
  infinity_root z W = sym (sqrt-own f w W (inr z))

  pub subnormal_root : w % top f ≢ 0 → w < ones f * hid f → w < hid f
      → to_bits f (sqrt f (of_bits f w)) ≡ to_bits f (root_of f (suc (low f)) (w * 2 ^ (low f + 2)))
  subnormal_root z F h = sym (sqrt_subnormal f w z F h)

  pub normal_root : w % top f ≢ 0 → w < ones f * hid f → hid f ≤ w
      → to_bits f (sqrt f (of_bits f w))
      ≡ to_bits f (root_of f (suc (low f)) ((hid f + w % hid f) * 2 ^ (w / hid f + (low f + 1))))
  normal_root z F h = sym (sqrt-normal f w z F h)

pub no_root : (w : ℕ) → w % 2 ^ 31 ≢ 0 → 0x7f80_0000 < w → w < 2 ^ 32
    → to_bits binary32 (sqrt binary32 (of_bits binary32 w)) ≡ 0x7fc0_0000
no_root w z h W = unfold to_bits in sym (sqrt-none binary32 w W z h)

pub no_root64 : (w : ℕ) → w % 2 ^ 63 ≢ 0 → 0x7ff0_0000_0000_0000 < w → w < 2 ^ 64
    → to_bits binary64 (sqrt binary64 (of_bits binary64 w)) ≡ 0x7ff8_0000_0000_0000
no_root64 w z h W = unfold to_bits in sym (sqrt-none binary64 w W z h)

-- 1 is its own root
pub one_root : to_bits binary32 (sqrt binary32 (of_bits binary32 0x3f80_0000)) ≡ 0x3f80_0000
unfolding sqrt of_bits to_bits
one_root = refl

pub ruleset roots = (one_root, zero_root, infinity_root, no_root, no_root64, subnormal_root, normal_root)
