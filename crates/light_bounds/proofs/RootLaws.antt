-- The root and the order: a value below the root of x has a square that is at most x. So where x is below the square of
-- a value, its root is at most that value; and the root of what is at most 1 is at most 1. Assumes nothing.
use mathlib.Core.Path.{◌≡◌, refl, sym, ◌∙◌, ap, subst}
use mathlib.Core.Bool.{Bool, true, false, not, cond, ◌||◌}
use mathlib.Core.Logic.{◌⊎◌}
use lib.Dec.{T}
use lib.Ieee.{binary32, Float, nan, add, sub, mul, lt, le, fits, is_nan, of_bits, eq, neg}
use lib.Ieee.Back.{whole_unique}
use lib.Ieee.Bits.{of_bits-fits}
use lib.Ieee.Fits.{add-fits, sub-fits, cond-fits}
use Rattle.ieee.specs.Choose.{fmax}
use Rattle.ieee.specs.Laws.ChooseOrder.{fmax-nonneg}
use Rattle.ieee.specs.Laws.FormatLaws.{sqrt-fits, fmax-fits}
use Rattle.ieee.specs.Laws.OrderLaws.{or_left, or_right, nonneg, le_left, le_of_not_lt}
use Rattle.ieee.specs.Laws.RootOrder.{square-nonneg, sum_nonneg, above-half-root, unit-root}
use Rattle.ieee.specs.Laws.RootOrder.{share-any, rest_le, one_value}
use Rattle.ieee.specs.Single.{◌⊕◌, ◌⊖◌, ◌⊗◌, ◌⊘◌, zerof, half, onef, minus_one}
use Rattle.ieee.specs.Sqrt.{sqrt}
use Rattle.light_bounds.specs.Bounds.{diagonal, centroid}
use Rattle.light_bounds.specs.Cones.{safe_sqrt, cos_sub_clamped, bound_subtended_directions}
use Rattle.light_bounds.specs.Importance.{sine, cos_w, cos_p, distance2}
use Rattle.light_bounds.specs.Vecmath.{dot, minus, vec_length}
use Rattle.light_bounds.proofs.Clamped.{cut-cos, cut-sin}
use Rattle.light_bounds.specs.declared.bounds.Bounds3.{Bounds3}
use Rattle.light_bounds.specs.declared.vecmath.Vec3.{Vec3}
use Rattle.light_bounds.specs.declared.light_bounds.LightBounds.{LightBounds}

-- ---- a vector's dot with itself

dot-nonneg : (v : Vec3) → (dot v v ≡ nan) ⊎ T (nonneg (dot v v))
unfolding dot
dot-nonneg v = sum_nonneg (sum_nonneg (square-nonneg v.x) (square-nonneg v.y)) (square-nonneg v.z)

dot-fits : (v w : Vec3) → T (fits binary32 (dot v w))
unfolding dot
dot-fits v w = add-fits binary32 (v.x ⊗ w.x ⊕ v.y ⊗ w.y) (v.z ⊗ w.z)

-- ---- the distance

-- where the squared diagonal is below the squared distance's square, the distance stays as it is
pub far : (r : LightBounds) (delta : Vec3)
    → lt (dot (diagonal r.bounds) (diagonal r.bounds)) (dot delta delta ⊗ dot delta delta) ≡ true
    → distance2 r delta ≡ dot delta delta
unfolding distance2 vec_length
far r delta l =
    let d = diagonal r.bounds in
    above-half-root (dot d d) (dot delta delta) (dot-fits d d) (dot-fits delta delta) (dot-nonneg delta)
    (subst (λ (b : Bool). T b) (sym l) tt)

-- ---- the box's cosine

-- the box's cosine is at most 1
module _ (b : Bounds3) (p : Vec3) where
  abbrev radius2 : Float
  radius2 = (half ⊗ vec_length (diagonal b)) ⊗ (half ⊗ vec_length (diagonal b))

  abbrev distance : Float
  distance = dot (minus (centroid b) p) (minus (centroid b) p)

  abbrev rest : Float
  rest = fmax (onef ⊖ radius2 ⊘ distance) zerof

  rest-fits : T (fits binary32 rest)
  rest-fits =
      fmax-fits binary32 (onef ⊖ radius2 ⊘ distance) zerof (sub-fits binary32 onef (radius2 ⊘ distance))
      (of_bits-fits binary32 0)

  box-fits : T (fits binary32 (bound_subtended_directions b p))
  unfolding bound_subtended_directions safe_sqrt
  box-fits =
      cond-fits binary32 (lt distance radius2 || eq distance zerof) minus_one (sqrt binary32 rest)
      (of_bits-fits binary32 0xbf80_0000) (sqrt-fits binary32 rest rest-fits)

  box-le : T (le (bound_subtended_directions b p) onef)
  unfolding bound_subtended_directions safe_sqrt
  box-le = go (lt distance radius2 || eq distance zerof) refl
    where
      go : (t : Bool) → (lt distance radius2 || eq distance zerof) ≡ t
          → T (le (cond t minus_one (sqrt binary32 rest)) onef)
      go true e = unfold le of_bits in tt
      go false e =
          let no : T (lt distance radius2 || eq distance zerof) → ⊥ = λ k. subst (λ (x : Bool). T x) e k in
          unit-root rest rest-fits (unfold of_bits in fmax-nonneg (onef ⊖ radius2 ⊘ distance))
          (rest_le (radius2 ⊘ distance) (share-any radius2 distance (square-nonneg (half ⊗ vec_length (diagonal b)))
          (dot-nonneg (minus (centroid b) p))
          (λ k. no (or_left (lt distance radius2) (eq distance zerof) k))
          (λ k. no (or_right (lt distance radius2) (eq distance zerof) k))))

-- ---- inside the cone

at_one : onef ⊗ onef ⊕ zerof ⊗ sine onef ≡ onef
unfolding sine safe_sqrt sqrt fmax add sub neg mul of_bits is_nan lt
at_one = refl

-- no angle less the box's is none, whatever the box's cosine
no_angle : (c : Float) → T (fits binary32 c) → T (le c onef) → cos_sub_clamped zerof onef (sine c) c ≡ onef
unfolding cos_sub_clamped
no_angle c F l = go (lt c onef) refl
  where
    go : (b : Bool) → lt c onef ≡ b → cond b onef (onef ⊗ c ⊕ zerof ⊗ sine c) ≡ onef
    go true e = refl
    go false e =
        let back : T (le onef c) =
        le_of_not_lt onef c (unfold is_nan of_bits in tt) (le_left c onef l)
        (subst (λ (b : Bool). T (not b)) (sym e) tt) in
        let one : c ≡ onef =
        whole_unique binary32 c onef false 1 F (of_bits-fits binary32 0x3f80_0000) (one_value c l back)
        (unfold of_bits in (refl, refl)) in
        ap (λ (x : Float). onef ⊗ x ⊕ zerof ⊗ sine x) one ∙ at_one

-- inside the cone the smallest angle is none, so its cosine is 1 and the box's is not needed
pub inside : (r : LightBounds) (wi p : Vec3) → lt r.cos_theta_o (cos_w r wi) ≡ true
    → cos_p r wi (bound_subtended_directions r.bounds p) ≡ onef
unfolding cos_p
inside r wi p h =
    let w = cos_w r wi in
    let o = r.cos_theta_o in
    rw (cut-sin (sine w) w (sine o) o h, cut-cos (sine w) w (sine o) o h)
    (no_angle (bound_subtended_directions r.bounds p) (box-fits r.bounds p) (box-le r.bounds p))
