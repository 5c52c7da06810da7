-- The quantised numbers by casts without floor, ceil and round (CutLaws.antt). Assumes nothing.
use Prim.Native.Nat.{ℕ, ◌+◌, ◌≤◌, ◌<◌}
use mathlib.Core.Path.{◌≡◌, refl, sym}
use mathlib.Core.Bool.{Bool, true, false, cond}
use native.Mathlib.Omega.{arith}
use borrow.Author.Tests.{le-ltb, ltb-false}
use lib.Dec.{ltb}
use lib.IntN.{pos}
use lib.Ieee.{Float, binary32, eq, lt, le, of_int}
use lib.Ieee.Fits.{mul-fits}
use Rattle.ieee.specs.Single.{◌⊕◌, ◌⊗◌, ◌⊘◌, half, onef, twof}
use Rattle.ieee.specs.Whole.{round_away, to_u16, to_u32}
use Rattle.packed_bvh.specs.Quantize.{last_step, last_cos_step, steps_of, quantize_bounds, quantize_cos, quantize_axis}
use Rattle.packed_bvh.specs.Laws.QuantizeLaws.{steps-fit, quantize-small, quantize-axis-small}
use Rattle.ieee.specs.Laws.CutLaws.{cut-floor, cut-ceil, cut-round, cut-least}

-- ---- coordinates, on an axis with extent

module _ (value lo hi : Float) (extent : eq lo hi ≡ false) where
  pub down-cut : to_u32 (steps_of value lo hi) ≡ quantize_bounds false value lo hi
  unfolding quantize_bounds to_u32
  down-cut = rw extent (sym (cut-floor binary32 32 (steps_of value lo hi) (steps-fit value lo hi)))

  pub cut_small : to_u32 (steps_of value lo hi) ≤ 65535
  cut_small = rw down-cut (quantize-small false value lo hi)

  pub up-cut : (n : ℕ) → n ≡ to_u32 (steps_of value lo hi)
      → cond (lt (of_int binary32 (pos n)) (steps_of value lo hi)) (n + 1) n ≡ quantize_bounds true value lo hi
  unfolding quantize_bounds to_u32
  up-cut n is =
      let small : n ≤ 65535 = rw is cut_small in
      rw extent (sym (cut-ceil 32 (steps_of value lo hi) (steps-fit value lo hi) n is (omega arith) (omega arith)))

-- ---- cosines

pub cut_cos : (c : Float) → to_u16 (last_cos_step ⊗ ((c ⊕ onef) ⊘ twof)) ≡ quantize_cos c
unfolding quantize_cos to_u16
cut_cos c =
    let s = last_cos_step ⊗ ((c ⊕ onef) ⊘ twof) in
    sym (cut-floor binary32 16 s (mul-fits binary32 last_cos_step ((c ⊕ onef) ⊘ twof)))

-- ---- directions

module _ (c : Float) (n : ℕ) (is : n ≡ to_u32 ((c ⊕ onef) ⊗ half ⊗ last_step)) where
  pub axis-last : 65535 ≤ n → 65535 ≡ quantize_axis c
  unfolding quantize_axis to_u32
  axis-last h =
      let x = (c ⊕ onef) ⊗ half ⊗ last_step in
      let l = cut-least 32 x (mul-fits binary32 ((c ⊕ onef) ⊗ half) last_step) in
      go (to_u32 (round_away binary32 x)) (omega arith) (ltb 65535 (to_u32 (round_away binary32 x))) refl
    where
      go : (step : ℕ) → 65535 ≤ step → (b : Bool) → ltb 65535 step ≡ b → 65535 ≡ cond b 65535 step
      go step l true e = refl
      go step l false e = omega (arith, ltb-false 65535 step e)

  pub axis-cut : n < 65535
      → cond (le (of_int binary32 (pos n) ⊕ half) ((c ⊕ onef) ⊗ half ⊗ last_step)) (n + 1) n ≡ quantize_axis c
  unfolding quantize_axis to_u32
  axis-cut h =
      let x = (c ⊕ onef) ⊗ half ⊗ last_step in
      let step = cut-round 32 x (mul-fits binary32 ((c ⊕ onef) ⊗ half) last_step) n is (omega arith) (omega arith) in
      rw step (go (le (of_int binary32 (pos n) ⊕ half) x))
    where
      go : (b : Bool) → cond b (n + 1) n ≡ cond (ltb 65535 (cond b (n + 1) n)) 65535 (cond b (n + 1) n)
      go true = rw (le-ltb 65535 (n + 1) (omega arith))
      go false = rw (le-ltb 65535 n (omega arith))

-- a step takes sixteen bits
pub ruleset small_steps = (quantize-small, quantize-axis-small)
