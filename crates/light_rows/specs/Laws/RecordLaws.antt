-- Records of floats of the format: what is read from words is of them, and so is a union of such records; and such a
-- record is read back from its words as it is. Assumes nothing.
use Rattle.std.specs.Prelude.{ℕ, ◌+◌, ◌≡◌, refl, Bool, true, false, cond, ◌||◌, List, ◌++◌, T, Float, get_or}
use Rattle.std.proofs.Common.{ap, ◌∙◌, arith}
use Rattle.std.specs.Float.{binary32}
use Rattle.std.specs.Float.Ieee.{to_bits, fits, le, eq}
use Rattle.std.specs.Float.Ieee.Bits.{of_bits-to_bits}
use Rattle.std.specs.Float.Ieee.Fits.{add-fits, mul-fits}
use Rattle.ieee.specs.Choose.{fmin, fmax, clamp}
use Rattle.ieee.specs.Laws.FormatLaws.{single-fits, fmin-fits, fmax-fits}
use Rattle.ieee.specs.Single.{◌⊕◌, ◌⊗◌, single, zerof, half, onef, minus_one, pi}
use Rattle.trig.specs.Trig.{acos}
use Rattle.trig.specs.Laws.TrigLaws.{cos-fits}
use Rattle.words.proofs.AnswerLaws.{Gives, gives, gives_none, gives-cond}
use Rattle.light_bounds.specs.Bounds.{least_of, greatest_of, box_union}
use Rattle.light_bounds.specs.Cones.{joined, union_direction_cones}
use Rattle.light_bounds.specs.LightBounds.{join}
use Rattle.light_rows.specs.RecordWords.{read_record, vec_at, record_list}
use Rattle.light_bounds.specs.Side.{side_of}
use Rattle.light_bounds.specs.Laws.SideLaws.{side-back}
use Rattle.light_bounds.specs.Vecmath.{vec, dot, cross, plus, scaled}
use Rattle.light_bounds.specs.Vecmath.{vec_length, dividing, normalize, rotate, angle_between}
use Rattle.light_bounds.specs.declared.bounds.Bounds3.{Bounds3}
use Rattle.light_bounds.specs.declared.cones.Cone.{Cone}
use Rattle.light_bounds.specs.declared.light_bounds.LightBounds.{LightBounds}
use Rattle.light_bounds.specs.declared.vecmath.Vec3.{Vec3}

pub record VecFits (v : Vec3) : Type 0 where
  pub x : T (fits binary32 v.x)
  pub y : T (fits binary32 v.y)
  pub z : T (fits binary32 v.z)

pub record BoxFits (b : Bounds3) : Type 0 where
  pub min : VecFits b.min
  pub max : VecFits b.max

pub record RecordFits (r : LightBounds) : Type 0 where
  pub bounds : BoxFits r.bounds
  pub direction : VecFits r.direction
  pub phi : T (fits binary32 r.phi)
  pub cos-o : T (fits binary32 r.cos_theta_o)
  pub cos-e : T (fits binary32 r.cos_theta_e)

-- ---- read from words

pub vec-fits-read : (ws : List ℕ) (at : ℕ) → VecFits (vec_at ws at)
unfolding vec_at
vec-fits-read ws at =
    record {
      x = single-fits (get_or ws at 0);
      y = single-fits (get_or ws (at + 1) 0);
      z = single-fits (get_or ws (at + 2) 0);
    }

pub record-fits-read : (ws : List ℕ) (at : ℕ) → RecordFits (read_record ws at)
record-fits-read ws at =
    record {
      bounds = record { min = vec-fits-read ws at; max = vec-fits-read ws (at + 3) };
      direction = vec-fits-read ws (at + 6);
      phi = single-fits (get_or ws (at + 9) 0);
      cos-o = single-fits (get_or ws (at + 10) 0);
      cos-e = single-fits (get_or ws (at + 11) 0);
    }

-- ---- computed

scaled_fits : (v : Vec3) (k : Float) → VecFits (scaled v k)
unfolding scaled
scaled_fits v k =
    record { x = mul-fits binary32 v.x k; y = mul-fits binary32 v.y k; z = mul-fits binary32 v.z k }

plus-fits : (a b : Vec3) → VecFits (plus a b)
unfolding plus
plus-fits a b =
    record {
      x = add-fits binary32 a.x b.x;
      y = add-fits binary32 a.y b.y;
      z = add-fits binary32 a.z
          b.z;
    }

-- a choice between two, axis by axis
choice-fits : (choose : Float → Float → Float) →
    ((x y : Float) → T (fits binary32 x) → T (fits binary32 y) → T (fits binary32 (choose x y)))
    → (a b : Vec3) → VecFits a → VecFits b → VecFits
    (vec (choose a.x b.x) (choose a.y b.y) (choose a.z b.z))
choice-fits choose each a b h k =
    record {
      x = each a.x b.x h.x k.x;
      y = each a.y b.y h.y k.y;
      z = each a.z b.z h.z k.z;
    }

pub least_fits : (a b : Vec3) → VecFits a → VecFits b → VecFits (least_of a b)
unfolding least_of
least_fits = choice-fits fmin (fmin-fits binary32)

pub greatest-fits : (a b : Vec3) → VecFits a → VecFits b → VecFits (greatest_of a b)
unfolding greatest_of
greatest-fits = choice-fits fmax (fmax-fits binary32)

pub normalize-fits : (v : Vec3) → Gives VecFits (normalize v)
unfolding normalize
normalize-fits v = gives-cond (dividing (vec_length v)) (gives (scaled_fits v _)) gives_none

-- (0, 0, 1)
pub z-fits : VecFits (vec zerof zerof onef)
z-fits = record { x = single-fits 0; y = single-fits 0; z = single-fits 0x3f80_0000 }

record ConeFits (c : Cone) : Type 0 where
  direction : VecFits c.direction
  cosine : T (fits binary32 c.cos_theta)

cond-cone : (b : Bool) {c d : Cone} → ConeFits c → ConeFits d → ConeFits (cond b c d)
cond-cone true h k = h
cond-cone false h k = k

joined-fits : (a b : Vec3) (theta_a theta_o : Float) → ConeFits (joined a b theta_a theta_o)
unfolding joined rotate
joined-fits a b theta_a theta_o =
    cond-cone (le pi theta_o || eq (dot (cross a b) (cross a b)) zerof)
    (record { direction = z-fits; cosine = single-fits 0xbf80_0000 })
    (record { direction = plus-fits _ _; cosine = cos-fits theta_o })

cones-fit : (a : Vec3) (cos_a : Float) (b : Vec3) (cos_b : Float) → VecFits a → T (fits binary32 cos_a) → VecFits b →
    T (fits binary32 cos_b)
    → ConeFits (union_direction_cones a cos_a b cos_b)
unfolding union_direction_cones
cones-fit a cos_a b cos_b ha hcosA hb hcosB =
    let theta_a = acos (clamp cos_a minus_one onef) in
    let theta_b = acos (clamp cos_b minus_one onef) in
    let theta_d = angle_between a b in
    cond-cone (le (fmin (theta_d ⊕ theta_b) pi) theta_a) (record { direction = ha; cosine = hcosA })
    (cond-cone (le (fmin (theta_d ⊕ theta_a) pi) theta_b) (record { direction = hb; cosine = hcosB })
    (joined-fits a b theta_a ((theta_a ⊕ theta_d ⊕ theta_b) ⊗ half)))

cond_record : (b : Bool) {r s : LightBounds} → RecordFits r → RecordFits s → RecordFits (cond b r s)
cond_record true h k = h
cond_record false h k = k

pub join-fits : (a b : LightBounds) → RecordFits a → RecordFits b → RecordFits (join a b)
unfolding join box_union
join-fits a b h k =
    let c = cones-fit a.direction a.cos_theta_o b.direction b.cos_theta_o h.direction h.cos-o
    k.direction k.cos-o in
    cond_record (eq a.phi zerof) k
    (cond_record (eq b.phi zerof) h
    (record {
      bounds = record {
        min = least_fits a.bounds.min b.bounds.min h.bounds.min k.bounds.min;
        max = greatest-fits a.bounds.max b.bounds.max h.bounds.max k.bounds.max;
      };
      direction = c.direction;
      phi = add-fits binary32 a.phi b.phi;
      cos-o = c.cosine;
      cos-e = fmin-fits binary32 a.cos_theta_e b.cos_theta_e h.cos-e k.cos-e;
    }))

-- ---- read back

pub reread : (r : LightBounds) → RecordFits r → read_record (record_list r) 0 ≡ r
unfolding vec_at record_list
reread r h =
    let back : (x : Float) → T (fits binary32 x) → single (to_bits binary32 x) ≡ x = of_bits-to_bits binary32 in
    let vector : (v : Vec3) → VecFits v
    → vec (single (to_bits binary32 v.x)) (single (to_bits binary32 v.y)) (single
    (to_bits binary32 v.z)) ≡ v
    =
    λ v k. λ j. record { x = back v.x k.x j; y = back v.y k.y j; z = back v.z k.z j } in
    λ j. record {
      bounds =
          record { min = vector r.bounds.min h.bounds.min j; max = vector r.bounds.max h.bounds.max j };
      direction = vector r.direction h.direction j;
      phi = back r.phi h.phi j;
      cos_theta_o = back r.cos_theta_o h.cos-o j;
      cos_theta_e = back r.cos_theta_e h.cos-e j;
      side = side-back r.side j;
    }

-- a record is read from its words alone
pub read-words : (ws vs : List ℕ) (at : ℕ) → ((k : ℕ) → get_or ws (at + k) 0 ≡ get_or vs k 0) →
    read_record ws at ≡ read_record vs 0
unfolding vec_at
read-words ws vs at h =
    let word : (n k : ℕ) → n ≡ at + k
    → get_or ws n 0 ≡ get_or vs k 0 = λ n k e. ap (λ (m : ℕ). get_or ws m 0) e
    ∙ h k in
    let value : (n k : ℕ) → n ≡ at + k → single (get_or ws n 0) ≡
    single (get_or vs k 0) = λ n k e. ap single (word n k e) in
    λ j. record {
      bounds = record {
        min = record { x = value at 0 (omega arith) j; y = value (at + 1) 1 refl j; z = value (at + 2) 2 refl j };
        max =
            record {
              x = value (at + 3) 3 refl j;
              y = value (at + 3 + 1) 4 (omega arith) j;
              z = value (at + 3 + 2) 5
                  (omega arith) j;
            };
      };
      direction =
          record {
            x = value (at + 6) 6 refl j;
            y = value (at + 6 + 1) 7 (omega arith) j;
            z = value (at + 6 + 2) 8
                (omega arith) j;
          };
      phi = value (at + 9) 9 refl j;
      cos_theta_o = value (at + 10) 10 refl j;
      cos_theta_e = value (at + 11) 11 refl j;
      side = ap side_of (word (at + 12) 12 refl) j;
    }

-- and of none behind them
pub behind_record : (b : LightBounds) (rest : List ℕ) →
    read_record (record_list b ++ rest) 0 ≡ read_record (record_list b) 0
unfolding vec_at record_list
behind_record b rest = refl
