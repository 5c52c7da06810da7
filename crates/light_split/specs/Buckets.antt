-- The twelve buckets of an axis, as `choose_split` of `light_bvh.rs` fills them and `union_bucket_range` joins them,
-- and the cost of a cut. Where the Rust's `unwrap` of a union panics, the answer is refusal 10, whichever cut the union
-- belongs to. Definitions only. Assumes nothing.
use Rattle.std.specs.Prelude.{ℕ, suc, ◌-◌, cond, List, [], ◌∷◌, Float, get_or, set, take, drop, replicate}
use Rattle.std.specs.Prelude.{Option, None, Some}
use Rattle.std.specs.Float.Ieee.{eq}
use Rattle.ieee.specs.Choose.{fmin, fmax}
use Rattle.ieee.specs.Single.{◌⊕◌, ◌⊖◌, ◌⊗◌, ◌⊘◌, zerof, onef, twof, pi}
use Rattle.trig.specs.Trig.{cos, acos}
use Rattle.words.specs.Answers.{Answer, given, ◌then◌}
use Rattle.light_bounds.specs.Bounds.{diagonal, surface_area}
use Rattle.light_bounds.specs.Cones.{safe_sqrt}
use Rattle.light_bounds.specs.LightBounds.{union}
use Rattle.light_bounds.specs.declared.bounds.Bounds3.{Bounds3}
use Rattle.light_bounds.specs.declared.light_bounds.LightBounds.{LightBounds}
use Rattle.light_bounds.specs.declared.vecmath.Vec3.{Vec3}
use Rattle.light_split.specs.Lights.{light_of, component, n_buckets, bucket_of}

-- what a bucket holds
abbrev pub Bucket : Type 0
Bucket = Option LightBounds

-- `Some(existing) => existing.union(bounds).unwrap(), None => bounds`
unfoldable pub join_to : Bucket → LightBounds → Answer Bucket
join_to None b = given (Some b)
join_to (Some a) b = union a b then λ (r : LightBounds). given (Some r)

-- each handle's record into the bucket of its centroid, in the stretch's order
unfoldable pub fill_buckets : List ℕ → Bounds3 → ℕ → List Bucket → List ℕ → Answer (List Bucket)
fill_buckets ws ends d bs [] = given bs
fill_buckets ws ends d bs (h ∷ hs) =
    let k = bucket_of ws ends d h in
    join_to (get_or bs k None) (light_of ws h) then λ (b : Bucket). fill_buckets ws ends d (set bs k b) hs

abbrev pub empty_buckets : List Bucket
empty_buckets = replicate n_buckets None

-- buckets joined from left to right, the empty ones left out
unfoldable pub union_range : Bucket → List Bucket → Answer Bucket
union_range result [] = given result
union_range result (None ∷ bs) = union_range result bs
union_range result (Some b ∷ bs) = join_to result b then λ (r : Bucket). union_range r bs

-- `union_bucket_range`, both ends within
unfoldable pub union_bucket_range : List Bucket → ℕ → ℕ → Answer Bucket
union_bucket_range bs start end = union_range None (drop start (take (suc end) bs))

-- ---- the cost

unfoldable pub m_omega : Float → Float → Float
m_omega cos_o cosE =
    let theta_o = acos cos_o in
    let theta_e = acos cosE in
    let theta_w = fmin (theta_o ⊕ theta_e) pi in
    let sin_o = safe_sqrt (onef ⊖ cos_o ⊗ cos_o) in
    twof ⊗ pi ⊗ (onef ⊖ cos_o)
    ⊕ pi ⊘ twof ⊗ (twof ⊗ theta_w ⊗ sin_o ⊖ cos (theta_o ⊖ twof ⊗ theta_w) ⊖ twof ⊗ theta_o ⊗ sin_o ⊕ cos_o)

-- the longest side over the one that is cut
unfoldable pub kr : Vec3 → ℕ → Float
kr diag d = fmax (fmax (fmax zerof diag.x) diag.y) diag.z ⊘ component d diag

unfoldable pub evaluate_cost : LightBounds → Bounds3 → ℕ → Float
evaluate_cost b parent d =
    let diag = diagonal parent in
    cond (eq (component d diag) zerof) zerof
    (b.phi ⊗ m_omega b.cos_theta_o b.cos_theta_e ⊗ kr diag d ⊗ surface_area b.bounds)

unfoldable pub side_cost : Bounds3 → ℕ → Bucket → Float
side_cost parent d None = zerof
side_cost parent d (Some b) = evaluate_cost b parent d

-- of the cut behind a bucket
unfoldable pub cut_cost : List Bucket → Bounds3 → ℕ → ℕ → Answer Float
cut_cost bs parent d bucket =
    union_bucket_range bs 0 bucket then λ (l : Bucket). union_bucket_range bs (suc bucket) (n_buckets - 1) then λ
    (r : Bucket).
    given (side_cost parent d l ⊕ side_cost parent d r)
