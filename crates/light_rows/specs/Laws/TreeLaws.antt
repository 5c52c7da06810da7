-- Laws of nodes and trees as words. What is written as a node is read as that node, and its record as that record,
-- wherever it stands (`node-read`, `bounds-read`); a tree of n leaves has n handles and 2 n - 1 nodes, its root in
-- front (`length-flatten`, `flatten-root`, `flatten-bounds`). Assumes nothing.
use Rattle.std.specs.Prelude.{ℕ, suc, ◌+◌, ◌*◌, ◌/◌, ◌≤◌, ◌<◌, ◌≡◌, true, List, [], ◌++◌, length}
use Rattle.std.proofs.Math.Path.{refl, ap}
use Rattle.std.proofs.Common.{sym, ◌∙◌, append_assoc, append-nil, arith, length-append, get_or-append-add}
use borrow.Author.Tests.{ltb-true, le-leb, lt-leb, eq-eqb, ne_eqb}
use Rattle.std.proofs.Math.ListN.{get_or}
use Rattle.words.specs.Answers.{given, refused}
use Rattle.words.specs.Heads.{kind_of, handle_of}
use Rattle.light_rows.specs.Laws.RecordLaws.{RecordFits, reread, read-words, behind_record}
use Rattle.light_rows.specs.RecordWords.{record_list, record_words}
use Rattle.light_bounds.specs.Side.{side_known}
use Rattle.light_bounds.specs.Laws.SideLaws.{side-known}
use Rattle.light_bounds.specs.declared.light_bounds.LightBounds.{LightBounds}
use Rattle.light_rows.specs.Laws.RecordPlaces.{length-record_list, record_at-past, record_at-found}
use Rattle.light_rows.specs.Nodes.{LightBVHNode, leaf as leaf_node, interior, node_words, node_place}
use Rattle.light_rows.specs.Nodes.{bounds_place, head_word, right_child, parent, node_list, node_of, node_at, bounds_at}
use Rattle.light_rows.specs.AsCoded.NodeRow.{head_fits}
use Rattle.light_rows.specs.Tree.{Tree, leaf, fork, bounds, leaves, leaf_handles, right_place, flatten}

-- ---- a node

pub length-node_list : (n : LightBVHNode) (b : LightBounds) → length (node_list n b) ≡ node_words
unfolding node_list
length-node_list n b = omega (arith, length-record_list b)

module _ (head right p : ℕ) where
  pub node_of-leaf : kind_of head ≡ 1 → node_of head right p ≡ given (leaf_node (handle_of head) p)
  unfolding node_of
  node_of-leaf h = rw (eq-eqb (kind_of head) 1 h)

  pub node_of-interior : kind_of head ≡ 2 → node_of head right p ≡ given (interior (handle_of head) right p)
  unfolding node_of
  node_of-interior h = rw (ne_eqb (kind_of head) 1 (λ e. omega arith), eq-eqb (kind_of head) 2 h)

  pub node_of_unknown : (kind_of head ≡ 1 → ⊥) → (kind_of head ≡ 2 → ⊥) → node_of head right p ≡ refused 12
  unfolding node_of
  node_of_unknown h k = rw (ne_eqb (kind_of head) 1 h, ne_eqb (kind_of head) 2 k)

module _ (ws : List ℕ) (i : ℕ) where
  pub node_at-room : i < length ws / node_words
      → node_at ws i ≡ node_of (get_or ws (node_place i) 0) (get_or ws (node_place i + 1) 0) (get_or ws
      (node_place i + 2) 0)
  unfolding node_at
  node_at-room h = rw (le-leb (node_place (suc i)) (length ws) (omega arith))

  pub node_at-past : length ws / node_words ≤ i → node_at ws i ≡ refused 12
  unfolding node_at
  node_at-past h = rw (lt-leb (node_place (suc i)) (length ws) (omega arith))

  pub bounds_at-past : length ws / node_words ≤ i → bounds_at ws i ≡ refused 12
  unfolding bounds_at
  bounds_at-past h = record_at-past 12 ws (bounds_place i) (lt-leb (bounds_place i + record_words) (length ws)
      (omega arith))

-- ---- read back

pub head_read : (n : LightBVHNode) → head_fits n ≡ true → node_of (head_word n) (right_child n) (parent n) ≡ given n
head_read (leaf_node h p) f =
    let e : handle_of (0x4000_0000 + handle_of h) ≡ h = omega (arith, ltb-true h 0x4000_0000 f) in
    node_of-leaf (0x4000_0000 + handle_of h) _ p (omega arith) ∙ rw e
head_read (interior l r p) f =
    let e : handle_of (0x8000_0000 + handle_of l) ≡ l = omega (arith, ltb-true l 0x4000_0000 f) in
    node_of-interior (0x8000_0000 + handle_of l) r p (omega arith) ∙ rw e

module _ (ps ss : List ℕ) (i : ℕ) (n : LightBVHNode) (b : LightBounds) (at : length ps ≡ node_place i) where
  -- word k of the node, or of what is behind it
  word_at : (m k : ℕ) → m ≡ node_place i + k → get_or (ps ++ node_list n b ++ ss) m 0 ≡ get_or (node_list n b ++ ss) k 0
  word_at m k e =
      let p : m ≡ length ps + k = omega arith in
      rw (p, append_assoc ps (node_list n b) ss) (get_or-append-add ps (node_list n b ++ ss) k 0)

  room : node_place (suc i) ≤ length (ps ++ node_list n b ++ ss)
  room = rw (
    length-append (ps ++ node_list n b) ss,
    length-append ps (node_list n b),
    length-node_list n b,
  )
      (omega arith)

  pub node-read : head_fits n ≡ true → node_at (ps ++ node_list n b ++ ss) i ≡ given n
  unfolding node_list
  node-read f =
      node_at-room (ps ++ node_list n b ++ ss) i (omega (arith, room))
      ∙ rw (
        word_at (node_place i) 0 (omega arith),
        word_at (node_place i + 1) 1 refl,
        word_at (node_place i + 2) 2
            refl,
      )
      (head_read n f)

  pub bounds-read : RecordFits b → bounds_at (ps ++ node_list n b ++ ss) i ≡ given b
  unfolding node_list bounds_at record_list
  bounds-read f =
      let ws = ps ++ node_list n b ++ ss in
      let word : (k : ℕ) → get_or ws (bounds_place i + k) 0 ≡ get_or (record_list b ++ ss) k 0 =
      λ k. word_at (bounds_place i + k) (suc (suc (suc k))) (omega arith) in
      record_at-found 12 ws (bounds_place i) (omega (arith, room)) (ap side_known (word 12) ∙ side-known b.side)
      ∙ ap given (read-words ws (record_list b ++ ss) (bounds_place i) word ∙ behind_record b ss ∙ reread b f)

-- ---- a tree

pub leaves-pos : (t : Tree) → 1 ≤ leaves t
unfolding leaves
leaves-pos (leaf h b) = omega arith
leaves-pos (fork b l r) = omega (arith, leaves-pos l)

pub length-leaf_handles : (t : Tree) → length (leaf_handles t) ≡ leaves t
unfolding leaves leaf_handles
length-leaf_handles (leaf h b) = refl
length-leaf_handles (fork b l r) =
    length-append (leaf_handles l) (leaf_handles r) ∙ rw (length-leaf_handles l, length-leaf_handles r)

pub length-flatten : (at p : ℕ) (t : Tree) → length (flatten at p t) + node_words ≡ node_words * (2 * leaves t)
unfolding leaves flatten
length-flatten at p (leaf h b) = rw (length-node_list (leaf_node h p) b)
length-flatten at p (fork b l r) =
    let root = node_list (interior (at + 1) (right_place at l) p) b in
    let left = flatten (at + 1) at l in
    let right = flatten (right_place at l) at r in
    rw (
      length-append (root ++ left) right,
      length-append root left,
      length-node_list
          (interior (at + 1) (right_place at l) p) b,
    )
    (omega (arith, length-flatten (at + 1) at l, length-flatten (right_place at l) at r))

-- ---- the root

abbrev pub root : ℕ → ℕ → Tree → LightBVHNode
root at p (leaf h b) = leaf_node h p
root at p (fork b l r) = interior (at + 1) (right_place at l) p

-- the words behind the root
unfoldable pub under : ℕ → Tree → List ℕ
under at (leaf h b) = []
under at (fork b l r) = flatten (at + 1) at l ++ flatten (right_place at l) at r

pub flatten-is : (at p : ℕ) (t : Tree) → flatten at p t ≡ node_list (root at p t) (bounds t) ++ under at t
unfolding flatten under
flatten-is at p (leaf h b) = sym (append-nil (node_list (leaf_node h p) b))
flatten-is at p (fork b l r) =
    append_assoc (node_list (interior (at + 1) (right_place at l) p) b) (flatten (at + 1) at l)
    (flatten (right_place at l) at r)

-- of a tree that stands at a place
module _ (ps ss : List ℕ) (i at p : ℕ) (t : Tree) (place : length ps ≡ node_place i) where
  tree_is : ps ++ flatten at p t ++ ss ≡ ps ++ node_list (root at p t) (bounds t) ++ (under at t ++ ss)
  tree_is = rw (flatten-is at p t) (simp append_assoc)

  pub root-at : head_fits (root at p t) ≡ true → node_at (ps ++ flatten at p t ++ ss) i ≡ given (root at p t)
  root-at f = rw tree_is (node-read ps (under at t ++ ss) i (root at p t) (bounds t) place f)

  pub root-bounds-at : RecordFits (bounds t) → bounds_at (ps ++ flatten at p t ++ ss) i ≡ given (bounds t)
  root-bounds-at f = rw tree_is (bounds-read ps (under at t ++ ss) i (root at p t) (bounds t) place f)

module _ (at p : ℕ) (t : Tree) (ss : List ℕ) where
  pub flatten-root : head_fits (root at p t) ≡ true → node_at (flatten at p t ++ ss) 0 ≡ given (root at p t)
  flatten-root = root-at [] ss 0 at p t refl

  pub flatten-bounds : RecordFits (bounds t) → bounds_at (flatten at p t ++ ss) 0 ≡ given (bounds t)
  flatten-bounds = root-bounds-at [] ss 0 at p t refl

-- ---- the children

-- of a node that stands at a place, the left tree stands behind it, and the right tree behind the left
module _ (ps : List ℕ) (at : ℕ) (n : LightBVHNode) (b : LightBounds) (place : length ps ≡ node_place at) where
  pub left-place : length (ps ++ node_list n b) ≡ node_place (at + 1)
  left-place = rw (length-append ps (node_list n b), length-node_list n b) (omega arith)

  pub right-place : (l : Tree) → length (ps ++ node_list n b ++ flatten (at + 1) at l) ≡ node_place (right_place at l)
  right-place l =
      length-append (ps ++ node_list n b) (flatten (at + 1) at l) ∙
      omega (arith, left-place, length-flatten (at + 1) at l)
