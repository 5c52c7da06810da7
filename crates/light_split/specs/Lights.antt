-- The records that a stretch of handles names, as `choose_split` and `partition_handles` of `light_bvh.rs` read them: a
-- stretch is a list of rows of a block. A row past the block's end is read as zeros. Definitions only. Assumes nothing.
use Rattle.std.specs.Prelude.{ℕ, zero, suc, ◌-◌, min, true, false, cond, List, Float, fold}
use Rattle.std.specs.Float.{inf}
use Rattle.std.specs.Float.Ieee.{eq}
use Rattle.ieee.specs.Single.{◌⊖◌, ◌⊗◌, ◌⊘◌, single}
use Rattle.ieee.specs.Whole.{to_usize}
use Rattle.light_bounds.specs.Bounds.{box_union, centroid}
use Rattle.light_rows.specs.RecordWords.{read_record}
use Rattle.light_bounds.specs.Vecmath.{vec}
use Rattle.light_bounds.specs.declared.bounds.Bounds3.{Bounds3}
use Rattle.light_bounds.specs.declared.light_bounds.LightBounds.{LightBounds}
use Rattle.light_bounds.specs.declared.vecmath.Vec3.{Vec3}
use Rattle.light_rows.specs.Block.{record_place}

-- `light_bounds[handle]`
abbrev pub light_of : List ℕ → ℕ → LightBounds
light_of ws h = read_record ws (record_place h)

-- `v[dimension]`; there are three
unfoldable pub component : ℕ → Vec3 → Float
component zero v = v.x
component (suc zero) v = v.y
component (suc (suc d)) v = v.z

abbrev pub centroid_of : List ℕ → ℕ → Vec3
centroid_of ws h = centroid (light_of ws h).bounds

-- `centroid_min` and `centroid_max`: the folds of all three axes at once
unfoldable pub widen : List ℕ → Bounds3 → ℕ → Bounds3
widen ws b h = box_union b (record { min = centroid_of ws h; max = centroid_of ws h })

abbrev pub no_ends : Bounds3
no_ends = record { min = vec (inf false) (inf false) (inf false); max = vec (inf true) (inf true) (inf true) }

unfoldable pub centroid_ends : List ℕ → List ℕ → Bounds3
centroid_ends ws hs = fold (widen ws) no_ends hs

-- `N_BUCKETS`, and as a float
abbrev pub n_buckets : ℕ
n_buckets = 12

abbrev pub n_bucketsf : Float
n_bucketsf = single 0x4140_0000

unfoldable pub bucket_index : Float → Float → Float → ℕ
bucket_index value lo hi = cond (eq lo hi) 0 (min (to_usize ((value ⊖ lo) ⊘ (hi ⊖ lo) ⊗ n_bucketsf)) (n_buckets - 1))

-- the bucket of a handle between the ends of an axis
unfoldable pub bucket_of : List ℕ → Bounds3 → ℕ → ℕ → ℕ
bucket_of ws ends d h = bucket_index (component d (centroid_of ws h)) (component d ends.min) (component d ends.max)
