-- `partition_handles` of `light_bvh.rs`: a stretch parted by the bucket of each centroid, in its order; where one side
-- is empty, cut at the middle. The Rust sorts the handles before that cut; they ascend in every stretch of a build, so
-- the sort changes nothing (tree_laws SortLaws `build_sorting_lem`). Definitions only. Assumes nothing.
use Rattle.std.specs.Prelude.{ℕ, ◌/◌, Bool, cond, not, ◌||◌, List, ◌++◌, leb, eqb, length, take, drop}
use Rattle.words.specs.Lists.{kept}
use Rattle.light_bounds.specs.declared.bounds.Bounds3.{Bounds3}
use Rattle.light_split.specs.Lights.{centroid_ends, bucket_of}
use Rattle.light_split.specs.declared.split.Split.{Split}

unfoldable pub goes_left : List ℕ → Bounds3 → Split → ℕ → Bool
goes_left ws ends s h = leb (bucket_of ws ends s.dimension h) s.bucket

unfoldable pub goes_right : List ℕ → Bounds3 → Split → ℕ → Bool
goes_right ws ends s h = not (goes_left ws ends s h)

-- by the buckets alone
unfoldable pub lefts : List ℕ → List ℕ → Split → List ℕ
lefts ws hs s = kept (goes_left ws (centroid_ends ws hs) s) hs

unfoldable pub rights : List ℕ → List ℕ → Split → List ℕ
rights ws hs s = kept (goes_right ws (centroid_ends ws hs) s) hs

-- the left half and the right half
unfoldable pub partition_handles : List ℕ → List ℕ → Split → List ℕ × List ℕ
partition_handles ws hs s =
    let l = lefts ws hs s in
    let r = rights ws hs s in
    let middle = length (l ++ r) / 2 in
    cond (eqb (length l) 0 || eqb (length r) 0) (take middle (l ++ r), drop middle (l ++ r)) (l, r)
