-- The cases that are marked for proof (docs/REQUIREMENTS.md R14.1 to R14.9), as one statement, in their order. Each is
-- seen by computing the definitions. Assumes nothing.
use Rattle.std.specs.Prelude.{ℕ, ◌≡◌, refl, true, false, List, [], ◌∷◌, ◌++◌, Float, drop}
use Rattle.std.proofs.Math.Option.{Option, none, some}
use Rattle.std.specs.Float.{binary32}
use Rattle.std.specs.Float.Ieee.{to_bits, of_bits, of_int, span, climb, size, odd, units, round, neg, sum, add, sub}
use Rattle.std.specs.Float.Ieee.{mul, div, lt, eq, le, is_nan, to_unsigned}
use Rattle.ieee.specs.Single.{single, zerof, half, onef, minus_one}
use Rattle.ieee.specs.Choose.{fmin, fmax, clamp, fabs, is_sign_negative}
use Rattle.ieee.specs.Narrow.{narrow}
use Rattle.ieee.specs.Sqrt.{root, isqrt, root_of, sqrt}
use Rattle.ieee.specs.Whole.{next_whole, floor, ceil, round_away, to_u16, to_u32, to_usize}
use Rattle.words.specs.Answers.{Answer, given, refused, ◌then◌}
use Rattle.words.specs.LittleEndian.{words_of, bytes_of}
use Rattle.words.specs.Limits.{crowded}
use Rattle.words.specs.Rows.{rows_from, below}
use Rattle.words.specs.AsCoded.Walks.{gathered}
use Rattle.words.specs.Tray.{tray}
use Rattle.trig.specs.Series.{turns, series_step, series, arc_step, arc}
use Rattle.trig.specs.Trig.{cos, twice_arc, acos, asin}
use Rattle.light_bounds.specs.Vecmath.{vec, finite_vec, dot, plus, minus, cross, scaled, divided, vec_length, normalize}
use Rattle.light_bounds.specs.Vecmath.{normalize_by_division, rotate, angle_between}
use Rattle.light_bounds.specs.Bounds.{box_check, least_of, greatest_of, box_union, diagonal, centroid, surface_area}
use Rattle.light_bounds.specs.Cones.{safe_sqrt, cos_sub_clamped, sin_sub_clamped, bound_subtended_directions, joined}
use Rattle.light_bounds.specs.Cones.{union_direction_cones}
use Rattle.light_bounds.specs.LightBounds.{is_cosine, range_check, cone_check, validate, join, union}
use Rattle.light_bounds.specs.Importance.{sine, cos_w, cos_p, normal_factor, with_normal, toward, distance2, geometry}
use Rattle.light_bounds.specs.Importance.{finish, checked_importance, importance_by, importance, weigh}
use Rattle.light_rows.specs.RecordWords.{vec_at, record_at, record_list}
use Rattle.light_rows.specs.Block.{block_layout, block_handles}
use Rattle.light_rows.specs.Nodes.{node_list, node_count, node_of, node_at, bounds_at}
use Rattle.light_rows.specs.Tree.{leaves, flatten}
use Rattle.light_split.specs.Lights.{component, widen, centroid_ends, bucket_index, bucket_of}
use Rattle.words.specs.Lists.{kept}
use Rattle.light_split.specs.Buckets.{join_to, fill_buckets, union_range, union_bucket_range, m_omega, kr}
use Rattle.light_split.specs.Buckets.{evaluate_cost}
use Rattle.light_split.specs.Buckets.{side_cost, cut_cost}
use Rattle.light_split.specs.Split.{combined_bounds, better, cuts, axis, choose_split}
use Rattle.light_split.specs.Partition.{goes_left, goes_right, lefts, rights, partition_handles}
use Rattle.light_split.specs.AsCoded.Parted.{parted_count, parted_handles, parted_work}
use Rattle.light_bvh.specs.Subtree.{forked, tree_by, build_subtree}
use Rattle.light_bvh.specs.Build.{LightBVH, bounded_handles, all_bounds, validated, tree_of, built_bvh, build_check}
use Rattle.light_bvh.specs.Build.{build_light_bvh, nodes_written, tabled, table_written}
use Rattle.light_sampler.specs.Fork.{parted, fork}
use Rattle.light_sampler.specs.Walks.{Draw, weigh_at, weights, turn, taken, onward, descend, part_of, rise, risen}
use Rattle.light_sampler.specs.Walks.{upward}
use Rattle.light_sampler.specs.Walks.{ascend}
use Rattle.light_sampler.specs.Sampler.{sample, pmf, sample_check, from_root, sample_walk, pmf_check, leaf_of}
use Rattle.light_sampler.specs.Sampler.{from_leaf}
use Rattle.light_sampler.specs.Sampler.{pmf_walk}
use Rattle.packed_bvh.specs.Quantize.{steps_of, quantize_bounds, quantize_cos, sign, folded as folded_quantize}
use Rattle.packed_bvh.specs.Quantize.{octahedral}
use Rattle.packed_bvh.specs.Quantize.{quantize_axis, encode_octahedral}
use Rattle.packed_bvh.specs.Decoded.{axis_of, unfolded, decode_octahedral}
use Rattle.packed_bvh.specs.Packed.{compact_words, payload_check, parent_check, left_check, pack_node, pack_nodes}
use Rattle.packed_bvh.specs.Packed.{pack_check}
use Rattle.packed_bvh.specs.Packed.{agreed, packed_tree, pack_light_bvh}
use Rattle.alias_table.specs.AliasTable.{Bin, bin_words, any_bad, sum_from, filled_in, total, push, push_all, start}
use Rattle.alias_table.specs.AliasTable.{update}
use Rattle.alias_table.specs.AliasTable.{turned, turns as turns_alias_table, leftover, table, build_power_alias_table}
use Rattle.light_bounds.specs.declared.bounds.Bounds3.{Bounds3}
use Rattle.light_bounds.specs.declared.importance.Query.{Query}
use Rattle.light_bounds.specs.declared.vecmath.Vec3.{Vec3}

-- ---- what the cases are about

-- a function's answer as a word, of an argument as a word
abbrev pub word : (Float → Float) → ℕ → ℕ
word f w = to_bits binary32 (f (single w))

-- points with direction (0,0,1), phi 1, cosines -1 and 0, one-sided: a record of a block behind its handle, and one of
-- a node
abbrev pub point_record : ℕ → List ℕ
point_record x = x ∷ 0 ∷ 0 ∷ x ∷ 0 ∷ 0 ∷ 0 ∷ 0 ∷ 0x3f800000 ∷ 0x3f800000 ∷ 0xbf800000 ∷ 0 ∷ 0 ∷ []

-- the pair: points (0,0,0), (2,0,0)
abbrev pub pair : List ℕ
pair = 2 ∷ 0 ∷ point_record 0 ++ (1 ∷ point_record 0x40000000)

-- its nodes: the fork around both, with phi 2, and a leaf each
abbrev pub pair_nodes : List ℕ
pair_nodes =
    (0x80000001 ∷ 2 ∷ 0xffffffff ∷ 0 ∷ 0 ∷ 0 ∷ 0x40000000 ∷ 0 ∷ 0 ∷ 0 ∷ 0 ∷ 0x3f800000 ∷ 0x40000000 ∷ 0xbf800000 ∷ 0 ∷
    0 ∷ [])
    ++ (0x40000000 ∷ 0xffffffff ∷ 0 ∷ point_record 0) ++ (0x40000001 ∷ 0xffffffff ∷ 0 ∷ point_record 0x40000000)

abbrev pub pair_table : List ℕ
pair_table = 1 ∷ 2 ∷ []

abbrev pub pair_box : Bounds3
pair_box = record { min = vec zerof zerof zerof; max = vec (single 0x40000000) zerof zerof }

-- p (1,0,1), n zero
abbrev pub bench : Query
bench = record { p = vec onef zerof onef; n = vec zerof zerof zerof }

-- three lamps at one point
abbrev pub three : List ℕ
three = 3 ∷ 0 ∷ point_record 0 ++ (1 ∷ point_record 0) ++ (2 ∷ point_record 0)

-- the words of a tree that is built: nodes, table
abbrev pub tree_words_of : Answer LightBVH → List ℕ × List ℕ
tree_words_of (given b) = (nodes_written b, table_written b)
tree_words_of (refused n) = ([], [])

-- a line of the report: handle, both chances' bits
abbrev pub named : ℕ → ℕ → Answer Float → Answer (ℕ × ℕ × ℕ)
named h drawn (given c) = given (h, drawn, to_bits binary32 c)
named h drawn (refused n) = refused n

abbrev pub line_of : Answer Draw → Answer (ℕ × ℕ × ℕ)
line_of (given (some (h, c))) = named h (to_bits binary32 c) (pmf (bytes_of pair_nodes) (bytes_of pair_table) bench h)
line_of (given none) = refused 0
line_of (refused n) = refused n

abbrev pub line : ℕ → Answer (ℕ × ℕ × ℕ)
line u = line_of (sample (bytes_of pair_nodes) bench (single u))

-- the words of a packed tree from a place on
abbrev pub packed_from : ℕ → Answer (Option (List ℕ)) → List ℕ
packed_from n (given (some ws)) = drop n ws
packed_from n (given none) = []
packed_from n (refused k) = []

-- a vector's words
abbrev pub bits_of : Vec3 → List ℕ
bits_of v = to_bits binary32 v.x ∷ to_bits binary32 v.y ∷ to_bits binary32 v.z ∷ []

-- weights 1, 3, with room for seven words of bins and nine of work
abbrev pub one_three : Answer (List Bin)
one_three = build_power_alias_table (0x3f800000 ∷ 0x40400000 ∷ []) 7 9

-- ---- the cases

-- the pair: built, and drawn from
pub record Pair : Type 0 where
  -- Pair case, u 0.25 and 0.75: `0 3f000000 3f000000`, `1 3f000000 3f000000`
  pub pair-built : tree_words_of (build_light_bvh 2 pair 48 2 4) ≡ (pair_nodes, pair_table)
  pub pair-quarter : line 0x3e800000 ≡ given (0, 0x3f000000, 0x3f000000)
  pub pair-three_quarters : line 0x3f400000 ≡ given (1, 0x3f000000, 0x3f000000)
  -- u 1 draws lamp 1; u -0 lamp 0; u 3f800001 refusal 11
  pub pair_one : line 0x3f800000 ≡ given (1, 0x3f000000, 0x3f000000)
  pub pair-minus-zero : line 0x80000000 ≡ given (0, 0x3f000000, 0x3f000000)
  pub pair-past-one : line 0x3f800001 ≡ refused 11

-- other trees
pub record Trees : Type 0 where
  -- no nodes: u 0.5 none, NaN 11
  pub no-nodes : sample [] bench half ≡ given none
  pub no-nodes-nan : sample [] bench (single 0x7fc00000) ≡ refused 11
  -- three lamps at one point: leaves at nodes 1, 3, 4
  pub three-leaves : (tree_words_of (build_light_bvh 3 three 80 3 6)).1 ≡ 1 ∷ 3 ∷ 4 ∷ []

pub record Packs : Type 0 where
  -- pair's lamp 1 packed, behind the header and two nodes
  pub pair-packed : packed_from 24 (pack_light_bvh (bytes_of pair_nodes) 2 (some pair_box) 128)
      ≡ 0x0000ffff ∷ 0xffff0000 ∷ 0 ∷ 0x80008000 ∷ 0x3f800000 ∷ 0x1fff8000 ∷ 0x80000001 ∷ 0 ∷ []
  -- 0.5 in 0 to 1: 32767 down, 32768 up; min = max gives 0
  pub half_down : quantize_bounds false half zerof onef ≡ 32767
  pub half_up : quantize_bounds true half zerof onef ≡ 32768
  pub no_extent : (quantize_bounds false half onef onef ≡ 0) × (quantize_bounds true half onef onef ≡ 0)
  -- cosines -1, 0, 1: 0, 16383, 32767
  pub cosines : (quantize_cos minus_one ≡ 0) × (quantize_cos zerof ≡ 16383) × (quantize_cos onef ≡ 32767)
  -- direction (0,0,-1): ffffffff, sixteen bits each
  pub direction-down : encode_octahedral (vec zerof zerof minus_one) ≡ (0xffff, 0xffff)
  -- and what packed directions stand for: ffffffff the direction down, 80008000 almost the direction up, and one that
  -- is folded
  pub direction-read : (bits_of (decode_octahedral 0xffff 0xffff) ≡ 0 ∷ 0 ∷ 0xbf800000 ∷ [])
      × (bits_of (decode_octahedral 0x8000 0x8000) ≡ 0x37800100 ∷ 0x37800100 ∷ 0x3f800000 ∷ [])
      × (bits_of (decode_octahedral 40000 1234) ≡ 0x3d407bfa ∷ 0xbf78f0cc ∷ 0xbe69ead7 ∷ [])

-- roots and alias tables
pub record Tables : Type 0 where
  -- square root of 40000000: 3fb504f3; of 00000001: 1a3504f3
  pub root-of-two : word (sqrt binary32) 0x40000000 ≡ 0x3fb504f3
  pub root-of_smallest : word (sqrt binary32) 0x00000001 ≡ 0x1a3504f3
  -- weights 1, 3: q 0.5 alias 1; q 1 alias ffffffff. The bins, with a word behind their reserve, and the work, which is
  -- zeroed
  pub alias-of-one-three : tray bin_words 6 one_three (1 ∷ 2 ∷ 3 ∷ 4 ∷ 5 ∷ 6 ∷ 7 ∷ [])
      ≡ 0x3f000000 ∷ 0x3e800000 ∷ 1 ∷ 0x3f800000 ∷ 0x3f400000 ∷ 0xffffffff ∷ 7 ∷ []
  pub work-of-one-three : tray (λ (bs : List Bin). []) 8 one_three (1 ∷ 2 ∷ 3 ∷ 4 ∷ 5 ∷ 6 ∷ 7 ∷ 8 ∷ 9 ∷ [])
      ≡ 0 ∷ 0 ∷ 0 ∷ 0 ∷ 0 ∷ 0 ∷ 0 ∷ 0 ∷ 9 ∷ []

pub record Arcs : Type 0 where
  -- not marked, and proved beside them: the cosine of half π and arcs of -1 and 1, as f32 has them
  pub cos-of-half-pi : word cos 0x3fc90fdb ≡ 0xb33bbd2e
  pub acos-of-minus-one : word acos 0xbf800000 ≡ 0x40490fdb
  pub asin-of-one : word asin 0x3f800000 ≡ 0x3fc90fdb

pub record Marked : Type 0 where
  pub of_pair : Pair
  pub of_trees : Trees
  pub of_packs : Packs
  pub of_tables : Tables
  pub of_arcs : Arcs

pub marked : Marked
unfolding to_bits of_bits of_int span climb size odd units round neg sum add sub mul div lt eq le is_nan to_unsigned
    fmin
    fmax clamp fabs is_sign_negative narrow root isqrt root_of sqrt next_whole floor ceil round_away to_u16 to_u32
    to_usize
    ◌then◌ words_of bytes_of crowded rows_from below gathered tray turns series_step series arc_step arc cos twice_arc
    acos
    asin finite_vec dot plus minus cross scaled divided vec_length normalize normalize_by_division rotate angle_between
    box_check least_of greatest_of box_union diagonal centroid surface_area safe_sqrt cos_sub_clamped sin_sub_clamped
    bound_subtended_directions joined union_direction_cones is_cosine range_check cone_check validate join union sine
    cos_w
    cos_p normal_factor with_normal toward distance2 geometry finish checked_importance importance_by importance weigh
    vec_at record_at record_list block_layout block_handles node_list node_count node_of node_at bounds_at leaves
    flatten
    component widen centroid_ends bucket_index bucket_of join_to fill_buckets union_range union_bucket_range m_omega kr
    evaluate_cost side_cost cut_cost combined_bounds better cuts axis choose_split kept goes_left goes_right lefts
    rights partition_handles parted_count parted_handles parted_work forked tree_by build_subtree bounded_handles
    all_bounds validated tree_of built_bvh build_check build_light_bvh nodes_written tabled table_written parted fork
    weigh_at
    weights turn taken onward descend part_of rise risen upward ascend sample_check from_root sample_walk pmf_check
    leaf_of
    from_leaf pmf_walk steps_of quantize_bounds quantize_cos sign folded_quantize octahedral quantize_axis
    encode_octahedral
    axis_of unfolded decode_octahedral compact_words payload_check parent_check left_check pack_node pack_nodes
    pack_check
    agreed packed_tree pack_light_bvh any_bad sum_from filled_in total push push_all start update turned
    turns_alias_table
    leftover table build_power_alias_table
marked =
    record {
      of_pair = record {
        pair-built = refl;
        pair-quarter = refl;
        pair-three_quarters = refl;
        pair_one = refl;
        pair-minus-zero = refl;
        pair-past-one = refl;
      };
      of_trees = record { no-nodes = refl; no-nodes-nan = refl; three-leaves = refl };
      of_packs = record {
        pair-packed = refl;
        half_down = refl;
        half_up = refl;
        no_extent = (refl, refl);
        cosines = (refl, refl, refl);
        direction-down = refl;
        direction-read = (refl, refl, refl);
      };
      of_tables =
          record { root-of-two = refl; root-of_smallest = refl; alias-of-one-three = refl; work-of-one-three = refl };
      of_arcs = record { cos-of-half-pi = refl; acos-of-minus-one = refl; asin-of-one = refl };
    }
