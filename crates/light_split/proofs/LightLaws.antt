-- Laws on a vector's figures and on buckets. Assumes nothing.
use Prim.Native.Nat.{ℕ, zero, suc, ◌≤◌, ◌<◌, min}
use mathlib.Core.Path.{◌≡◌, refl}
use mathlib.Core.Bool.{Bool, true, false, cond}
use native.Mathlib.Omega.{arith}
use lib.Ieee.{Float, eq}
use Rattle.light_bounds.specs.declared.vecmath.Vec3.{Vec3}
use Rattle.light_split.specs.Lights.{component, bucket_index, n_buckets}

-- behind the first two axes there is one figure
pub component-last : (d : ℕ) (v : Vec3) → 2 ≤ d → component d v ≡ v.z
unfolding component
component-last zero v h = absurd (omega arith)
component-last (suc zero) v h = absurd (omega arith)
component-last (suc (suc d)) v h = refl

-- every bucket is one of the twelve
below : (none : Bool) (n : ℕ) → cond none 0 (min n 11) < n_buckets
below true n = omega arith
below false n = omega arith

pub bucket_index-below : (value lo hi : Float) → bucket_index value lo hi < n_buckets
unfolding bucket_index
bucket_index-below value lo hi = below (eq lo hi) _
