-- The handle table: a pass over the nodes of a tree that stands somewhere in the words writes each leaf's place at its
-- label, as the definition does leaf by leaf (`tabled-tree`), and only in front of what is behind the labels
-- (`tabled-front`). By induction on the tree, over words that are given whole. Assumes nothing.
use Prim.Native.Nat.{ℕ, suc, ◌+◌, ◌*◌, ◌-◌, ◌<◌}
use mathlib.Core.Path.{◌≡◌, refl, ap, sym, ◌∙◌}
use mathlib.Core.List.{List, [], ◌∷◌, ◌++◌, append_assoc, append-nil}
use native.Mathlib.Numerals.{add-one}
use native.Mathlib.Omega.{arith}
use lib.ListN.{length, get_or, set, length-set}
use lib.Seq.{get_or_at, set-append_left}
use Rattle.words.specs.Heads.{handle_of}
use Rattle.light_rows.specs.RecordWords.{record_list}
use Rattle.light_bounds.specs.declared.light_bounds.LightBounds.{LightBounds}
use Rattle.light_rows.specs.Nodes.{LightBVHNode, leaf as leaf_node, interior, node_place}
use Rattle.light_rows.specs.Nodes.{head_word, right_child, parent, node_list}
use Rattle.light_rows.specs.Tree.{Tree, leaf, fork, leaves, right_place, flatten, tree_words}
use Rattle.light_rows.specs.Laws.TreeLaws.{leaves-pos, left-place, right-place}
use Rattle.light_bvh.specs.Build.{tabled}
use Rattle.light_bvh.specs.AsCoded.Tables.{tabled_below}
use Rattle.light_bvh.proofs.BuildLaws.{tabled-leaf, tabled-other}

-- every label of a tree has the property
abbrev pub Labels : (ℕ → Type 0) → Tree → Type 0
Labels P (leaf h b) = P h
Labels P (fork b l r) = Labels P l × Labels P r

pub labels-map : {P Q : ℕ → Type 0} → ((h : ℕ) → P h → Q h) → (t : Tree) → Labels P t → Labels Q t
labels-map f (leaf h b) p = f h p
labels-map f (fork b l r) p = (labels-map f l p.0, labels-map f r p.1)

-- what a head has room for
abbrev pub Thirty : ℕ → Type 0
Thirty h = h < 0x4000_0000

-- ---- one node

head_at : (ps ss : List ℕ) (at : ℕ) (n : LightBVHNode) (b : LightBounds) → length ps ≡ node_place at
    → get_or (ps ++ node_list n b ++ ss) (node_place at) 0 ≡ head_word n
unfolding node_list
head_at ps ss at n b e =
    rw (append_assoc ps (node_list n b) ss)
    (get_or_at ps (head_word n) (right_child n ∷ parent n ∷ record_list b ++ ss) 0 (node_place at) e)

module _ (ws table : List ℕ) (at : ℕ) where
  -- a leaf is tabled
  past-leaf : (h : ℕ) → get_or ws (node_place at) 0 ≡ 0x4000_0000 + handle_of h → Thirty h
      → tabled_below ws (at + 1) table ≡ set (tabled_below ws at table) h at
  past-leaf h e small =
      let is : handle_of (0x4000_0000 + handle_of h) ≡ h = omega arith in
      tabled-leaf ws at table (rw e (omega arith)) ∙ rw (e, is)

  -- an interior node is not
  past-interior : (l : ℕ) → get_or ws (node_place at) 0 ≡ 0x8000_0000 + handle_of l →
      tabled_below ws (at + 1) table ≡ tabled_below ws at table
  past-interior l e = tabled-other ws at table (rw e (λ w. omega arith))

-- ---- a tree

-- of a tree that stands in the words
pub tabled-tree : (ws table : List ℕ) (t : Tree) (ps ss : List ℕ) (at p : ℕ) → ws ≡ ps ++ flatten at p t ++ ss →
    length ps ≡ node_place at → Labels Thirty t
    → tabled_below ws (at + (2 * leaves t - 1)) table ≡ tabled at t (tabled_below ws at table)
unfolding tabled flatten leaves
tabled-tree ws table (leaf h b) ps ss at p is place small =
    let head : get_or ws (node_place at) 0 ≡ 0x4000_0000 + handle_of h =
    ap (λ (w : List ℕ). get_or w (node_place at) 0) is ∙ head_at ps ss at (leaf_node h p) b place in
    past-leaf ws table at h head small
tabled-tree ws table (fork b l r) ps ss at p is place small =
    let n = interior (at + 1) (right_place at l) p in
    let left = flatten (at + 1) at l in
    let right = flatten (right_place at l) at r in
    let at_left : ws ≡ ps ++ node_list n b ++ left ++ (right ++ ss) = is ∙ simp append_assoc in
    let at_right : ws ≡ ps ++ node_list n b ++ left ++ right ++ ss = is ∙ simp append_assoc in
    let at-root : ws ≡ ps ++ node_list n b ++ (left ++ right ++ ss) = is ∙ simp append_assoc in
    let head : get_or ws (node_place at) 0 ≡ 0x8000_0000 + handle_of (at + 1) =
    ap (λ (w : List ℕ). get_or w (node_place at) 0) at-root ∙ head_at ps (left ++ right ++ ss) at n b place in
    let e : at + (2 * (leaves l + leaves r) - 1) ≡ right_place at l + (2 * leaves r - 1) = omega (
      arith,
      leaves-pos r,
    ) in
    let e' : right_place at l ≡ at + 1 + (2 * leaves l - 1) = omega (arith, leaves-pos l) in
    let first : tabled_below ws (at + 1) table ≡ tabled_below ws at table = past-interior ws table at (at + 1) head in
    let second = tabled-tree ws table l (ps ++ node_list n b) (right ++ ss) (at + 1) at at_left
    (left-place ps at n b place) small.0 in
    let third = tabled-tree ws table r (ps ++ node_list n b ++ left) ss (right_place at l) at at_right
    (right-place ps at n b place l) small.1 in
    rw e third ∙ ap (tabled (right_place at l) r)
    (ap (λ (k : ℕ). tabled_below ws k table) e' ∙ second ∙ ap (tabled (at + 1) l) first
    ∙ ap (λ (i : ℕ). tabled i l (tabled_below ws at table)) (add-one at))

-- from the front
pub tabled-front-tree : (t : Tree) (table : List ℕ) → Labels Thirty t →
    tabled_below (tree_words t) (2 * leaves t - 1) table ≡ tabled 0 t table
unfolding tabled_below
tabled-front-tree t table small =
    let e : 0 + (2 * leaves t - 1) ≡ 2 * leaves t - 1 = omega arith in
    let whole : tree_words t ≡ [] ++ tree_words t ++ [] = sym (append-nil (tree_words t)) in
    rw e at (tabled-tree (tree_words t) table t [] [] 0 0xffff_ffff whole refl small)

-- ---- the table's words

pub length-tabled : (at : ℕ) (t : Tree) (table : List ℕ) → length (tabled at t table) ≡ length table
unfolding tabled
length-tabled at (leaf h b) table = length-set table h at
length-tabled at (fork b l r) table =
    length-tabled (right_place at l) r (tabled (suc at) l table) ∙ length-tabled (suc at) l table

-- what is behind the labels stays
pub tabled-front : (m at : ℕ) (t : Tree) (xs ys : List ℕ) → length xs ≡ m → Labels (λ (h : ℕ). h < m) t →
    tabled at t (xs ++ ys) ≡ tabled at t xs ++ ys
unfolding tabled
tabled-front m at (leaf h b) xs ys e small = set-append_left xs ys h at (omega arith)
tabled-front m at (fork b l r) xs ys e small =
    ap (tabled (right_place at l) r) (tabled-front m (suc at) l xs ys e small.0)
    ∙ tabled-front m (right_place at l) r (tabled (suc at) l xs) ys (length-tabled (suc at) l xs ∙ e) small.1
