-- A record as thirteen words: box min 3 and max 3, direction 3, phi, `cos_theta_o`, `cos_theta_e`, side. The layout of
-- a record is said here alone. Definitions only. Assumes nothing.
use Rattle.std.specs.Prelude.{ℕ, ◌+◌, cond, ◌&&◌, List, [], ◌∷◌, ◌++◌, leb, length, get_or}
use Rattle.std.specs.Float.{binary32}
use Rattle.std.specs.Float.Ieee.{to_bits}
use Rattle.ieee.specs.Single.{single}
use Rattle.words.specs.Answers.{Answer, given, refused}
use Rattle.light_bounds.specs.LightBounds.{light_bounds}
use Rattle.light_bounds.specs.Side.{side_known, side_of, side_word}
use Rattle.light_bounds.specs.Vecmath.{vec}
use Rattle.light_bounds.specs.declared.bounds.Bounds3.{Bounds3}
use Rattle.light_bounds.specs.declared.light_bounds.LightBounds.{LightBounds}
use Rattle.light_bounds.specs.declared.vecmath.Vec3.{Vec3}

-- `RECORD_WORDS`
abbrev pub record_words : ℕ
record_words = 13

-- the places of its parts in a record that starts at a place, with its box's min
abbrev pub max_place : ℕ → ℕ
max_place at = at + 3

abbrev pub direction_place : ℕ → ℕ
direction_place at = at + 6

abbrev pub phi_place : ℕ → ℕ
phi_place at = at + 9

abbrev pub cos_o_place : ℕ → ℕ
cos_o_place at = at + 10

abbrev pub cos_e_place : ℕ → ℕ
cos_e_place at = at + 11

abbrev pub side_place : ℕ → ℕ
side_place at = at + 12

-- ---- read, words past the end as 0

unfoldable pub vec_at : List ℕ → ℕ → Vec3
vec_at ws at = vec (single (get_or ws at 0)) (single (get_or ws (at + 1) 0)) (single (get_or ws (at + 2) 0))

-- the box alone
abbrev pub box_at : List ℕ → ℕ → Bounds3
box_at ws at = record { min = vec_at ws at; max = vec_at ws (max_place at) }

abbrev pub read_record : List ℕ → ℕ → LightBounds
read_record ws at =
    light_bounds (box_at ws at) (vec_at ws (direction_place at)) (single (get_or ws (phi_place at) 0))
    (single (get_or ws (cos_o_place at) 0)) (single (get_or ws (cos_e_place at) 0)) (side_of (get_or ws
    (side_place at) 0))

-- the record at a place; too few words, and a side that is unknown, are refusal n: 1 in a list or a block, 12 in a tree
unfoldable pub record_at : ℕ → List ℕ → ℕ → Answer LightBounds
record_at n ws at =
    cond (leb (at + record_words) (length ws) && side_known (get_or ws (side_place at) 0)) (given (read_record ws at))
    (refused n)

-- ---- written

abbrev pub vec_words : Vec3 → List ℕ
vec_words v = to_bits binary32 v.x ∷ to_bits binary32 v.y ∷ to_bits binary32 v.z ∷ []

-- what stands behind the vectors
abbrev pub rest_words : LightBounds → List ℕ
rest_words r =
    to_bits binary32 r.phi ∷ to_bits binary32 r.cos_theta_o ∷ to_bits binary32 r.cos_theta_e ∷ side_word
    r.side ∷ []

unfoldable pub record_list : LightBounds → List ℕ
record_list r = vec_words r.bounds.min ++ vec_words r.bounds.max ++ vec_words r.direction ++ rest_words r
