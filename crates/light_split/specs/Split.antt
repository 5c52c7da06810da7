-- `choose_split` of `light_bvh.rs`: of all eleven cuts of every axis whose centroids differ, the first of the least
-- cost above 0; without one, axis 0 behind bucket 5. Definitions only. Assumes nothing.
use Rattle.std.specs.Prelude.{ℕ, zero, suc, ◌-◌, ◌/◌, false, cond, ◌&&◌, List, [], ◌∷◌, Float, fold}
use Rattle.std.specs.Float.{inf}
use Rattle.std.specs.Float.Ieee.{lt, eq}
use Rattle.ieee.specs.Single.{zerof}
use Rattle.words.specs.Answers.{Answer, given, ◌then◌}
use Rattle.light_bounds.specs.Bounds.{box_union}
use Rattle.light_bounds.specs.declared.bounds.Bounds3.{Bounds3}
use Rattle.light_split.specs.Lights.{light_of, component, centroid_ends, n_buckets}
use Rattle.light_split.specs.Buckets.{Bucket, fill_buckets, empty_buckets, cut_cost}
use Rattle.light_split.specs.declared.split.Split.{Split}
use Rattle.light_split.specs.declared.split.Best.{Best}

abbrev pub split : ℕ → ℕ → Split
split d k = record { dimension = d; bucket = k }

-- the box of all that the stretch names, in its order
unfoldable pub combined_bounds : List ℕ → List ℕ → Bounds3
combined_bounds ws [] = (light_of ws 0).bounds
combined_bounds ws (h ∷ hs) =
    fold (λ (b : Bounds3) (h : ℕ). box_union b (light_of ws h).bounds) (light_of ws h).bounds hs

-- `min_cost` and `best`; where no cut wins, `best` is the default from the start
abbrev pub no_best : Best
no_best = record { min_cost = inf false; best = split 0 (n_buckets / 2 - 1) }

unfoldable pub better : Best → Split → Float → Best
better b s cost = cond (lt zerof cost && lt cost b.min_cost) (record { min_cost = cost; best = s }) b

-- the first n cuts of an axis
unfoldable pub cuts : List Bucket → Bounds3 → ℕ → Best → ℕ → Answer Best
cuts bs parent d b zero = given b
cuts bs parent d b (suc n) =
    cuts bs parent d b n then λ (b : Best). cut_cost bs parent d n then λ (c : Float). given (better b (split d n) c)

-- an axis; it is left out where its centroids are equal
unfoldable pub axis : List ℕ → List ℕ → Bounds3 → Bounds3 → ℕ → Best → Answer Best
axis ws hs ends parent d b =
    cond (eq (component d ends.min) (component d ends.max)) (given b)
    (fill_buckets ws ends d empty_buckets hs then λ (bs : List Bucket). cuts bs parent d b (n_buckets - 1))

unfoldable pub choose_split : List ℕ → List ℕ → Answer Split
choose_split ws hs =
    let ends = centroid_ends ws hs in
    let parent = combined_bounds ws hs in
    axis ws hs ends parent 0 no_best then λ (b : Best). axis ws hs ends parent 1 b then λ (b : Best). axis ws hs ends
    parent 2 b then λ (b : Best).
    given b.best
