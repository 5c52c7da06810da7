-- The two clamped differences of angles, by the test of their cosines. Assumes nothing.
use mathlib.Core.Path.{◌≡◌}
use mathlib.Core.Bool.{true, false}
use lib.Ieee.{Float, lt}
use Rattle.ieee.specs.Single.{◌⊕◌, ◌⊖◌, ◌⊗◌, zerof, onef}
use Rattle.light_bounds.specs.Cones.{cos_sub_clamped, sin_sub_clamped}

module _ (sin_a cos_a sin_b cos_b : Float) where
  pub cut-cos : lt cos_b cos_a ≡ true → cos_sub_clamped sin_a cos_a sin_b cos_b ≡ onef
  unfolding cos_sub_clamped
  cut-cos h = rw h

  pub cut-sin : lt cos_b cos_a ≡ true → sin_sub_clamped sin_a cos_a sin_b cos_b ≡ zerof
  unfolding sin_sub_clamped
  cut-sin h = rw h

  pub kept-cos : lt cos_b cos_a ≡ false → cos_sub_clamped sin_a cos_a sin_b cos_b ≡ cos_a ⊗ cos_b ⊕ sin_a ⊗ sin_b
  unfolding cos_sub_clamped
  kept-cos h = rw h

  pub kept-sin : lt cos_b cos_a ≡ false → sin_sub_clamped sin_a cos_a sin_b cos_b ≡ sin_a ⊗ cos_b ⊖ cos_a ⊗ sin_b
  unfolding sin_sub_clamped
  kept-sin h = rw h
