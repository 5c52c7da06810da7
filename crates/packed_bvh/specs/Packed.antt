-- `pack_light_bvh` of `webgpu/light_bvh.rs`, in R9's order: 2, 1, 3, then the Rust's. A header, the overall
-- box's corners, and so many words a node. Definitions only. Assumes nothing.
use Rattle.std.specs.Prelude.{ℕ, zero, suc, ◌+◌, ◌*◌, ◌/◌, true, false, cond, ◌&&◌, ◌||◌}
use Rattle.std.specs.Prelude.{List, [], ◌∷◌, ◌++◌, eqb, ltb, length}
use Rattle.std.proofs.Math.Option.{Option, none, some}
use Rattle.std.specs.Float.{binary32}
use Rattle.std.specs.Float.Ieee.{to_bits}
use Rattle.words.specs.Answers.{Answer, given, refused, ◌then◌}
use Rattle.words.specs.LittleEndian.{words_of, bytes_of}
use Rattle.words.specs.Refusals.{number}
use Rattle.light_bounds.specs.Bounds.{box_check}
use Rattle.light_bounds.specs.LightBounds.{validate}
use Rattle.light_rows.specs.RecordWords.{vec_words}
use Rattle.light_bounds.specs.Vecmath.{normalize_by_division}
use Rattle.light_bounds.specs.declared.bounds.Bounds3.{Bounds3}
use Rattle.light_bounds.specs.declared.light_bounds.LightBounds.{LightBounds}
use Rattle.light_bounds.specs.declared.vecmath.Vec3.{Vec3}
use Rattle.light_rows.specs.Nodes.{LightBVHNode, leaf, interior, invalid_index, parent}
use Rattle.light_rows.specs.Nodes.{node_bytes, node_count, node_at, bounds_at}
use Rattle.packed_bvh.specs.Quantize.{quantize_bounds, quantize_cos, encode_octahedral}
use Rattle.std.specs.Prelude.{Option as Option-of-std, Result, Ok, Err}
use Rattle.words.specs.Answers.{optional}
use Rattle.words.specs.declared.refusals.Refusal.{Refusal}

-- ---- the layout's numbers, which pack.rt and include/light_tree.h name too

-- the words of the header and of a node
abbrev pub header_words : ℕ
header_words = 8

abbrev pub packed_node_words : ℕ
packed_node_words = 8

-- the place of a node's words, behind the header
abbrev pub packed_place : ℕ → ℕ
packed_place i = header_words + packed_node_words * i

-- `LIGHT_BVH_INDEX_MAX`, and the bit above it, which a leaf's payload has
abbrev pub index_max : ℕ
index_max = 0x7fff_ffff

abbrev pub leaf_bit : ℕ
leaf_bit = 0x8000_0000

-- ---- a node's words

-- two numbers of sixteen bits as a word, the first one below
abbrev pub paired : ℕ → ℕ → ℕ
paired low high = low + 0x1_0000 * high

-- both cosines and the side: 15, 15 and 1 bits
abbrev pub cone_word : LightBounds → ℕ
cone_word b =
    quantize_cos b.cos_theta_o + 0x8000 * quantize_cos b.cos_theta_e + cond b.side.two_sided 0x4000_0000 0

-- the handle of a leaf, the right child of an interior node; and as a word, with bit 31 at a leaf
abbrev pub payload : LightBVHNode → ℕ
payload (leaf h p) = h
payload (interior l r p) = r

abbrev pub payload_word : LightBVHNode → ℕ
payload_word (leaf h p) = leaf_bit + h
payload_word (interior l r p) = r

-- `to_words`: within the overall box, with the direction at unit length, the payload's word and the parent
unfoldable pub compact_words : Bounds3 → LightBounds → Vec3 → ℕ → ℕ → List ℕ
compact_words all b d payload parent =
    let min = b.bounds.min in
    let max = b.bounds.max in
    let lo = all.min in
    let hi = all.max in
    paired (quantize_bounds false min.x lo.x hi.x) (quantize_bounds false min.y lo.y hi.y) ∷
    paired (quantize_bounds false min.z lo.z hi.z) (quantize_bounds true max.x lo.x hi.x) ∷
    paired (quantize_bounds true max.y lo.y hi.y) (quantize_bounds true max.z lo.z hi.z) ∷
    paired (encode_octahedral d).0 (encode_octahedral d).1 ∷ to_bits binary32
    b.phi ∷ cone_word b ∷ payload ∷ parent ∷ []

-- ---- a node's checks, behind its record's

-- 13 where the payload is too wide
unfoldable pub payload_check : LightBVHNode → Answer (Unit {0})
payload_check n = cond (ltb index_max (payload n)) (refused 13) (given tt)

-- 12 where the parent is none of the nodes, the root's apart
unfoldable pub parent_check : ℕ → LightBVHNode → Answer (Unit {0})
parent_check count n = cond (eqb (parent n) invalid_index || ltb (parent n) count) (given tt) (refused 12)

-- 12 where the left child is not the next node
unfoldable pub left_check : ℕ → LightBVHNode → Answer (Unit {0})
left_check i (leaf h p) = given tt
left_check i (interior l r p) = cond (eqb l (i + 1)) (given tt) (refused 12)

-- kind, side, the record's check, its direction's length, then these
unfoldable pub pack_node : ℕ → Bounds3 → List ℕ → ℕ → Answer (List ℕ)
pack_node count all ws i =
    node_at ws i then λ (n : LightBVHNode). bounds_at ws i then λ (b : LightBounds). validate b
    then λ _. normalize_by_division b.direction then λ (d : Vec3).
    payload_check n then λ _. parent_check count n then λ _. left_check i n then λ _. given
    (compact_words all b d (payload_word n) (parent n))

-- the first n nodes, in order
unfoldable pub pack_nodes : ℕ → Bounds3 → List ℕ → ℕ → Answer (List ℕ)
pack_nodes count all ws zero = given []
pack_nodes count all ws (suc n) =
    pack_nodes count all ws n then λ (before : List ℕ). pack_node count all ws n then λ (node : List ℕ). given
    (before ++ node)

-- ---- the tree

-- the overall box's corners, a zero behind each
abbrev pub header : Bounds3 → List ℕ
header all = vec_words all.min ++ (0 ∷ []) ++ vec_words all.max ++ (0 ∷ [])

-- the words of n nodes; none without nodes
abbrev pub packed_reserve : ℕ → ℕ
packed_reserve zero = 0
packed_reserve (suc n) = packed_place (suc n)

-- `room` bytes are lent
unfoldable pub pack_check : List ℕ → ℕ → Answer ℕ
pack_check nodes room = node_count nodes then λ (n : ℕ). cond (ltb room (4 * packed_reserve n)) (refused 3) (given n)

-- without a box there are no nodes and no lamps, and nothing is packed; with one there are both: else 12. The box's own
-- check
unfoldable pub agreed : ℕ → ℕ → Option Bounds3 → Answer (Option Bounds3)
agreed n k none = cond (eqb n 0 && eqb k 0) (given none) (refused 12)
agreed n k (some all) = cond (eqb n 0 || eqb k 0) (refused 12) (box_check all then λ _. given (some all))

unfoldable pub packed_tree : List ℕ → ℕ → Option Bounds3 → Answer (Option (List ℕ))
packed_tree ws n none = given none
packed_tree ws n (some all) = pack_nodes n all ws n then λ (nodes : List ℕ). given (some (header all ++ nodes))

-- node words as bytes, k, the overall box or its absence
unfoldable pub pack_light_bvh : List ℕ → ℕ → Option Bounds3 → ℕ → Answer (Option (List ℕ))
pack_light_bvh nodes k all room =
    pack_check nodes room then λ (n : ℕ). agreed n k all then λ (box : Option Bounds3).
    packed_tree (words_of nodes) n box

-- ---- what is written and answered

abbrev pub packed_bytes : Option (List ℕ) → List ℕ
packed_bytes none = []
packed_bytes (some ws) = bytes_of ws

-- the bytes that a call may write
abbrev pub bytes_reserve : List ℕ → ℕ
bytes_reserve nodes = 4 * packed_reserve (length nodes / node_bytes)

-- how many words are packed, or that there is no tree
abbrev pub words_packed : Answer (Option (List ℕ)) → Answer (Option ℕ)
words_packed (given none) = given none
words_packed (given (some ws)) = given (some (length ws))
words_packed (refused n) = refused n

abbrev pub packed : Result (Option-of-std ℕ) Refusal → Answer (Option ℕ)
packed (Ok n) = given (optional n)
packed (Err why) = refused (number why)
