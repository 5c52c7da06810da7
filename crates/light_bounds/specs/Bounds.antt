-- Boxes, as `Bounds3` of `light_bounds.rs` has them. Definitions only. Assumes nothing.
use Rattle.std.specs.Prelude.{Bool, cond, ◌&&◌, ◌||◌, T, Float}
use Rattle.std.specs.Float.Ieee.{lt, le}
use Rattle.ieee.specs.Choose.{fmin, fmax}
use Rattle.ieee.specs.Single.{◌⊕◌, ◌⊖◌, ◌⊗◌, half, twof}
use Rattle.words.specs.Answers.{Answer, given, refused}
use Rattle.light_bounds.specs.Vecmath.{vec, finite_vec}
use Rattle.light_bounds.specs.declared.vecmath.Vec3.{Vec3}
use Rattle.light_bounds.specs.declared.bounds.Bounds3.{Bounds3}

abbrev pub finite_box : Bounds3 → Bool
finite_box b = finite_vec b.min && finite_vec b.max

-- some min above its max
abbrev pub inverted : Bounds3 → Bool
inverted b = lt b.max.x b.min.x || (lt b.max.y b.min.y || lt b.max.z b.min.z)

unfoldable pub box_check : Bounds3 → Answer (Unit {0})
box_check b = cond (finite_box b) (cond (inverted b) (refused 6) (given tt)) (refused 5)

unfoldable pub least_of : Vec3 → Vec3 → Vec3
least_of a b = vec (fmin a.x b.x) (fmin a.y b.y) (fmin a.z b.z)

unfoldable pub greatest_of : Vec3 → Vec3 → Vec3
greatest_of a b = vec (fmax a.x b.x) (fmax a.y b.y) (fmax a.z b.z)

unfoldable pub box_union : Bounds3 → Bounds3 → Bounds3
box_union a b = record { min = least_of a.min b.min; max = greatest_of a.max b.max }

-- "One box holds another where on each axis its min is at most the other's and its max at least"
pub record Holds (outer inner : Bounds3) : Type 0 where
  pub min-x : T (le outer.min.x inner.min.x)
  pub min-y : T (le outer.min.y inner.min.y)
  pub min-z : T (le outer.min.z inner.min.z)
  pub max-x : T (le inner.max.x outer.max.x)
  pub max-y : T (le inner.max.y outer.max.y)
  pub max-z : T (le inner.max.z outer.max.z)

unfoldable pub diagonal : Bounds3 → Vec3
diagonal b = vec (b.max.x ⊖ b.min.x) (b.max.y ⊖ b.min.y) (b.max.z ⊖ b.min.z)

unfoldable pub centroid : Bounds3 → Vec3
centroid b = vec ((b.min.x ⊕ b.max.x) ⊗ half) ((b.min.y ⊕ b.max.y) ⊗ half) ((b.min.z ⊕ b.max.z) ⊗ half)

unfoldable pub surface_area : Bounds3 → Float
surface_area b = let d = diagonal b in twof ⊗ (d.x ⊗ d.y ⊕ d.y ⊗ d.z ⊕ d.z ⊗ d.x)
