-- The words of a build that was accepted are below 2 ^ 32, so they come back from their bytes (`nodes-words`,
-- `table-words-back`), which are 64 a node and 4 a row (`nodes-bytes`, `table-bytes`), so that as many nodes are
-- counted in them as there are (`words-counted`, `nodes-counted`). Assumes nothing.
use Rattle.std.specs.Prelude.{ℕ, suc, ◌+◌, ◌*◌, ◌-◌, ◌/◌, ◌%◌, ◌≤◌, ◌≡◌, Bool, true, false, cond, List, ◌++◌, T}
use Rattle.std.specs.Prelude.{Float, length, replicate}
use Rattle.std.proofs.Math.Path.{refl}
use Rattle.std.proofs.Common.{◌∙◌, arith, le-ltb, eq-eqb}
use Rattle.std.proofs.Math.Option.{Option, none, some}
use Rattle.std.specs.Float.{binary32}
use Rattle.std.specs.Float.Ieee.{to_bits, fits}
use Rattle.std.specs.Float.Ieee.Bits.{to_bits-lt}
use Rattle.words.specs.Answers.{given}
use Rattle.words.specs.LittleEndian.{words_of, bytes_of}
use Rattle.words.proofs.LittleEndianLaws.{length-bytes_of, IsWord, words_back}
use Rattle.light_rows.specs.Laws.RecordLaws.{VecFits, RecordFits}
use Rattle.light_rows.specs.RecordWords.{vec_words, rest_words, record_list}
use Rattle.light_bounds.specs.declared.light_bounds.LightBounds.{LightBounds}
use Rattle.light_bounds.specs.declared.vecmath.Vec3.{Vec3}
use Rattle.light_rows.specs.Nodes.{LightBVHNode, leaf as leaf_node, interior, invalid_index, max_nodes}
use Rattle.light_rows.specs.Nodes.{node_words, node_bytes, head_word, right_child, parent, node_list, node_count}
use Rattle.light_rows.specs.Tree.{Tree, leaf, fork, leaves, right_place, flatten}
use Rattle.light_rows.specs.Laws.TreeLaws.{leaves-pos}
use Rattle.light_bvh.specs.Build.{LightBVH, nodes_written, tabled, table_written}
use Rattle.light_bvh.proofs.RowsLaws.{bounded-few}
use Rattle.words.proofs.ListLaws.{All, all_append, all_set, all_replicate}
use Rattle.tree_laws.specs.Laws.AcceptedTree.{Parts, accepted-sound, nodes-are, table_is, places-fit}
use Rattle.tree_laws.specs.Laws.PlaceLaws.{RecordsFit, sound-records, head_end}
use Rattle.tree_laws.specs.Laws.NodeLaws.{node-words, table-words}

-- ---- words

-- sixteen words a node
pub words-counted : (ws : List ℕ) (n : ℕ) → length ws ≡ node_words * n → n ≤ max_nodes
    → node_count (bytes_of ws) ≡ given
    n
unfolding node_count
words-counted ws n e few =
    let size = length-bytes_of ws in
    let many : length (bytes_of ws) / node_bytes ≡ n = omega arith in
    let whole : length (bytes_of ws) % node_bytes ≡ 0 = omega arith in
    rw (many, le-ltb max_nodes n few, eq-eqb (length (bytes_of ws) % node_bytes) 0 whole)

-- ---- the words of a node

float_word : (x : Float) → T (fits binary32 x) → IsWord (to_bits binary32 x)
float_word x h = to_bits-lt binary32 x h

side-word : (b : Bool) → IsWord (cond b 1 0)
side-word true = omega arith
side-word false = omega arith

vec-words : (v : Vec3) → VecFits v → All IsWord (vec_words v)
vec-words v h = (float_word v.x h.x, (float_word v.y h.y, (float_word v.z h.z, tt)))

record-words : (r : LightBounds) → RecordFits r → All IsWord (record_list r)
unfolding record_list
record-words r h =
    all_append IsWord (vec_words r.bounds.min ++ vec_words r.bounds.max ++ vec_words r.direction) (rest_words r)
    (all_append IsWord (vec_words r.bounds.min ++ vec_words r.bounds.max) (vec_words r.direction)
    (all_append IsWord (vec_words r.bounds.min) (vec_words r.bounds.max)
    (vec-words r.bounds.min h.bounds.min)
    (vec-words r.bounds.max h.bounds.max))
    (vec-words r.direction h.direction)) (
      float_word r.phi h.phi,
      (
        float_word r.cos_theta_o h.cos-o,
        (
          float_word r.cos_theta_e h.cos-e,
          (side-word r.side.two_sided, tt),
        ),
      ),
    )

head-word : (n : LightBVHNode) → IsWord (head_word n)
head-word (leaf_node h p) = omega arith
head-word (interior l r p) = omega arith

node-word : (n : LightBVHNode) (b : LightBounds) → IsWord (right_child n) → IsWord (parent n) → RecordFits b
    → All IsWord (node_list n b)
unfolding node_list
node-word n b right up fit = (head-word n, (right, (up, record-words b fit)))

-- ---- the words of a tree

flatten-words : (at p : ℕ) (t : Tree) → at + (2 * leaves t - 1) ≤ head_end → IsWord p → RecordsFit t
    → All IsWord (flatten at p t)
unfolding flatten leaves
flatten-words at p (leaf h b) low up fit = node-word (leaf_node h p) b (omega arith) up fit
flatten-words at p (fork b l r) low up fit =
    let more-l = leaves-pos l in
    let more-r = leaves-pos r in
    let root = node_list (interior (at + 1) (right_place at l) p) b in
    all_append IsWord (root ++ flatten (at + 1) at l) (flatten (right_place at l) at r)
    (all_append IsWord root (flatten (at + 1) at l)
    (node-word (interior (at + 1) (right_place at l) p) b (omega arith) up fit.0)
    (flatten-words (at + 1) at l (omega arith) (omega arith) fit.1))
    (flatten-words (right_place at l) at r (omega arith) (omega arith) fit.2)

tabled-words : (at : ℕ) (t : Tree) (table : List ℕ) → at + (2 * leaves t - 1) ≤ head_end → All IsWord table
    → All IsWord (tabled at t table)
unfolding tabled leaves
tabled-words at (leaf h b) table low all = all_set IsWord table h at (omega arith) all
tabled-words at (fork b l r) table low all =
    let more-l = leaves-pos l in
    let more-r = leaves-pos r in
    tabled-words (right_place at l) r (tabled (suc at) l table) (omega arith)
    (tabled-words (suc at) l table (omega arith) all)

-- ---- of a build that was accepted

module _ (ws : List ℕ) (b : LightBVH) (parts : Parts ws b) where
  pub nodes-fit : All IsWord (nodes_written b)
  unfolding nodes_written
  nodes-fit = go b.tree refl
    where
      go : (o : Option Tree) → b.tree ≡ o → All IsWord (nodes_written b)
      go none is = rw is tt
      go (some t) is =
          let low = places-fit ws b t parts is in
          rw (nodes-are ws b t parts is)
          (flatten-words 0 invalid_index t (omega arith) (omega arith)
          (sound-records t (accepted-sound ws b t parts is)))

  pub table_fits : All IsWord (table_written b)
  unfolding table_written
  table_fits = go b.tree refl
    where
      empty : All IsWord (replicate b.rows invalid_index)
      empty = all_replicate IsWord b.rows invalid_index (omega arith)

      go : (o : Option Tree) → b.tree ≡ o → All IsWord (table_written b)
      go none is = rw is empty
      go (some t) is =
          let low = places-fit ws b t parts is in
          rw (table_is ws b t parts is) (tabled-words 0 t (replicate b.rows invalid_index) (omega arith) empty)

  pub nodes-words : words_of (bytes_of (nodes_written b)) ≡ nodes_written b
  nodes-words = words_back (nodes_written b) nodes-fit

  pub table-words-back : words_of (bytes_of (table_written b)) ≡ table_written b
  table-words-back = words_back (table_written b) table_fits

  pub nodes-bytes : length (bytes_of (nodes_written b)) ≡ 64 * (2 * b.k - 1)
  nodes-bytes = length-bytes_of (nodes_written b) ∙ omega (arith, node-words ws b parts)

  pub table-bytes : length (bytes_of (table_written b)) ≡ 4 * b.rows
  table-bytes = length-bytes_of (table_written b) ∙ omega (arith, table-words ws b parts)

  pub nodes-counted : node_count (bytes_of (nodes_written b)) ≡ given (2 * b.k - 1)
  nodes-counted =
      words-counted (nodes_written b) (2 * b.k - 1) (node-words ws b parts)
      (omega (arith, parts.few, parts.powered, bounded-few ws b.rows))
