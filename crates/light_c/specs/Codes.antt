-- Answers as numbers, for C and Rust. Definitions only. Assumes nothing.
use Rattle.std.specs.Prelude.{ℕ, ◌+◌, ◌*◌, cond, List, ◌∷◌, ◌++◌, eqb, ltb, Float, replicate}
use Rattle.std.proofs.Math.Option.{Option, none, some}
use Rattle.std.specs.Float.{binary32}
use Rattle.std.specs.Float.Ieee.{to_bits}
use Rattle.words.specs.Answers.{Answer, given, refused, ◌then◌}
use Rattle.light_rows.specs.RecordWords.{vec_words}
use Rattle.light_bounds.specs.Vecmath.{vec}
use Rattle.light_bounds.specs.declared.bounds.Bounds3.{Bounds3}
use Rattle.light_bounds.specs.declared.importance.Query.{Query}
use Rattle.light_bvh.specs.Build.{LightBVH, validated, built_bvh, build_check}
use Rattle.light_sampler.specs.Walks.{Draw}

-- ---- the tree

-- the words of build's answer
abbrev pub answer_reserve : ℕ
answer_reserve = 7

-- zeros for a box that is absent
abbrev pub box_words : Option Bounds3 → List ℕ
box_words (some b) = vec_words b.min ++ vec_words b.max
box_words none = replicate 6 0

-- k and the box
abbrev pub summary_list : LightBVH → List ℕ
summary_list b = b.k ∷ box_words b.all-bounds

-- `build_light_bvh`, which gives 3 also where the answer's slice is short
unfoldable pub build_answered : ℕ → List ℕ → ℕ → ℕ → ℕ → ℕ → Answer LightBVH
build_answered lights ws nodes table work answer =
    build_check lights ws nodes table work then λ (m : ℕ).
    cond (ltb answer answer_reserve) (refused 3) (given m) then λ (m : ℕ). validated ws m then λ _. built_bvh ws m

-- ---- draws and chances

-- point, normal
abbrev pub query_at : Float → Float → Float → Float → Float → Float → Query
query_at px py pz nx ny nz = record { p = vec px py pz; n = vec nx ny nz }

-- the light above its chance's bits; 2^62 where none is drawn, 2^63 and the refusal's number
abbrev pub draw_code : Answer Draw → ℕ
draw_code (given (some (h, p))) = h * 0x1_0000_0000 + to_bits binary32 p
draw_code (given none) = 0x4000_0000_0000_0000
draw_code (refused n) = 0x8000_0000_0000_0000 + n

-- a value's bits, or 2^32 and the refusal's number
abbrev pub value_code : Answer Float → ℕ
value_code (given x) = to_bits binary32 x
value_code (refused n) = 0x1_0000_0000 + n

-- ---- the packed tree

-- how many words were packed, 2^32 where there is no tree, or 2^33 and the refusal's number
abbrev pub packed_code : Answer (Option ℕ) → ℕ
packed_code (given (some n)) = n
packed_code (given none) = 0x1_0000_0000
packed_code (refused n) = 0x2_0000_0000 + n

-- the box of two corners; `present` is 0 where there is none
unfoldable pub box_of : ℕ → Float → Float → Float → Float → Float → Float → Option Bounds3
box_of present ax ay az bx by bz = cond (eqb present 0) none (some (record { min = vec ax ay az; max = vec bx by bz }))
