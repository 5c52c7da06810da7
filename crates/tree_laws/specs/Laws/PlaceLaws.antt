-- The places of a tree. At each of its 2 n - 1 places stands a node, and the tree's words there are read as that node,
-- and its record as that record (`node_in-some`, `place_at`, `place_read`). The handle table has, at a label that
-- stands
-- once among the leaves, the place of its leaf, and at a number that is no label what it had (`tabled-at`,
-- `place_in-node`, `tabled-other`), the invalid index where it was filled so (`table-leaf`, `table-other`). Assumes
-- nothing.
use Rattle.std.specs.Prelude.{ℕ, zero, suc, ◌+◌, ◌*◌, ◌-◌, ◌≤◌, ◌<◌, ◌≡◌, Bool, ◌⊎◌, ltb, length, get_or, set}
use Rattle.std.specs.Prelude.{replicate}
use Rattle.std.proofs.Math.Path.{refl}
use Rattle.std.proofs.Common.{ap, subst, sym, ◌∙◌, ⊎_elim, add-one, arith, length-set, get_or-set_same}
use Rattle.std.proofs.Common.{get_or-set_other}
use Rattle.std.proofs.Math.Bool.{true, false, cond}
use mathlib.Core.List.{List, [], ◌∷◌, ◌++◌, append_assoc, append-nil}
use Rattle.std.proofs.Math.Logic.{inl, inr}
use Rattle.std.proofs.Math.Option.{Option, none, some, some-injective, none-ne-some}
use borrow.Author.Tests.{ltb-true, ltb-false, lt-ltb, le-ltb, eqb-true, eqb-false, eq-eqb, ne_eqb}
use Rattle.std.proofs.Math.Dec.{eqb}
use Rattle.std.proofs.lemmas.List.{length-replicate, get_or-replicate}
use Rattle.words.specs.Answers.{given}
use Rattle.light_rows.specs.Laws.RecordLaws.{RecordFits}
use Rattle.light_bounds.specs.declared.light_bounds.LightBounds.{LightBounds}
use Rattle.light_rows.specs.Nodes.{LightBVHNode, leaf as leaf_node, interior, invalid_index, node_place, node_list}
use Rattle.light_rows.specs.Nodes.{node_at, bounds_at}
use Rattle.light_rows.specs.AsCoded.NodeRow.{head_fits}
use Rattle.light_rows.specs.Tree.{Tree, leaf, fork, bounds, leaves, leaf_handles, right_place, flatten, tree_words}
use Rattle.light_rows.specs.Laws.TreeLaws.{leaves-pos, root, root-at, root-bounds-at, left-place, right-place}
use Rattle.light_bvh.specs.Build.{tabled}
use Rattle.tree_laws.specs.Laws.LeafLaws.{LeavesBy}
use Rattle.tree_laws.specs.Laws.RecordsOfTree.{Sound}
use Rattle.words.proofs.ListLaws.{All, all-parts}
use Rattle.words.proofs.OrderedLists.{often-append}
use Rattle.words.specs.Lists.{once, often}

-- ---- the node at a place

-- of a tree whose root stands at a place, under a parent, as `flatten` puts its nodes
unfoldable pub node_in : ℕ → ℕ → Tree → ℕ → Option (LightBVHNode × LightBounds)
node_in at p (leaf h b) i = cond (eqb i at) (some (leaf_node h p, b)) none
node_in at p (fork b l r) i =
    cond (eqb i at) (some (interior (at + 1) (right_place at l) p, b))
    (cond (ltb i (right_place at l)) (node_in (at + 1) at l i) (node_in (right_place at l) at r i))

-- the root is the node at its own place
pub node_in-root : (at p : ℕ) (t : Tree) → node_in at p t at ≡ some (root at p t, bounds t)
unfolding node_in
node_in-root at p (leaf h b) = rw (eq-eqb at at refl)
node_in-root at p (fork b l r) = rw (eq-eqb at at refl)

module _ (at p : ℕ) (b : LightBounds) (l r : Tree) (i : ℕ) where
  pub node_in-left : at < i → i < right_place at l → node_in at p (fork b l r) i ≡ node_in (at + 1) at l i
  unfolding node_in
  node_in-left above below = rw (ne_eqb i at (λ e. omega arith), lt-ltb i (right_place at l) below)

  pub node_in-right : right_place at l ≤ i → node_in at p (fork b l r) i ≡ node_in (right_place at l) at r i
  unfolding node_in
  node_in-right above =
      rw (ne_eqb i at (λ e. omega (arith, leaves-pos l)), le-ltb i (right_place at l) above)

  -- it is the root, or a node of one of the trees
  pub node_in-fork : (x : LightBVHNode × LightBounds) → node_in at p (fork b l r) i ≡ some x
      → ((i ≡ at) × (some (interior (at + 1) (right_place at l) p, b) ≡ some x))
      ⊎ ((node_in (at + 1) at l i ≡ some x) ⊎ (node_in (right_place at l) at r i ≡ some x))
  unfolding node_in
  node_in-fork x e = go (eqb i at) (ltb i (right_place at l)) refl e
    where
      go : (a c : Bool) → eqb i at ≡ a → cond a (some (interior (at + 1) (right_place at l) p, b))
          (cond c (node_in (at + 1) at l i) (node_in (right_place at l) at r i)) ≡ some x
          → ((i ≡ at) × (some (interior (at + 1) (right_place at l) p, b) ≡ some x))
          ⊎ ((node_in (at + 1) at l i ≡ some x) ⊎ (node_in (right_place at l) at r i ≡ some x))
      go true c h e = inl (eqb-true i at h, e)
      go false true h e = inr (inl e)
      go false false h e = inr (inr e)

pub node_in-leaf : (at p h : ℕ) (b : LightBounds) (i : ℕ) (x : LightBVHNode × LightBounds)
    → node_in at p (leaf h b) i ≡ some x
    → (i ≡ at) × (some (leaf_node h p, b) ≡ some x)
unfolding node_in
node_in-leaf at p h b i x e = go (eqb i at) refl e
  where
    go : (a : Bool) → eqb i at ≡ a → cond a (some (leaf_node h p, b)) none ≡ some x
        → (i ≡ at) × (some (leaf_node h p, b) ≡ some x)
    go true f e = (eqb-true i at f, e)
    go false f e = absurd (none-ne-some x e)

-- at each of the 2 n - 1 places of a tree stands a node
pub node_in-some : (at p : ℕ) (t : Tree) (i : ℕ) → at ≤ i → i < at + (2 * leaves t - 1)
    → (x : LightBVHNode × LightBounds) × (node_in at p t i ≡ some x)
unfolding leaves
node_in-some at p (leaf h b) i low high =
    let e : i ≡ at = omega arith in
    ((leaf_node h p, b), rw e (node_in-root at p (leaf h b)))
node_in-some at p (fork b l r) i low high =
    go (eqb i at) (ltb i (right_place at l)) refl refl (λ low high. node_in-some (at + 1) at l i low high)
    (λ low high. node_in-some (right_place at l) at r i low high)
  where
    go : (a c : Bool) → eqb i at ≡ a → ltb i (right_place at l) ≡ c
        → (at + 1 ≤ i → i < at + 1 + (2 * leaves l - 1) → (x : LightBVHNode × LightBounds) ×
        (node_in (at + 1) at l i ≡ some x))
        → (right_place at l ≤ i → i < right_place at l + (2 * leaves r - 1) → (x : LightBVHNode × LightBounds) ×
        (node_in (right_place at l) at r i ≡ some x))
        → (x : LightBVHNode × LightBounds) × (node_in at p (fork b l r) i ≡ some x)
    go true c e f left right = ((root at p (fork b l r), b), rw (eqb-true i at e) (node_in-root at p (fork b l r)))
    go false true e f left right =
        let other = eqb-false i at e in
        let below = ltb-true i (right_place at l) f in
        let above : at < i = omega arith in
        let (x, is) = left (omega arith) (omega (arith, leaves-pos l)) in
        (x, rw (node_in-left at p b l r i above below) is)
    go false false e f left right =
        let above = ltb-false i (right_place at l) f in
        let (x, is) = right above (omega (arith, leaves-pos l, leaves-pos r)) in
        (x, rw (node_in-right at p b l r i above) is)

abbrev label_in : LightBVHNode → ℕ
label_in (leaf_node h p) = h
label_in (interior l r p) = 0

abbrev IsInterior : LightBVHNode → Type 0
IsInterior (leaf_node h p) = ⊥
IsInterior (interior l r p) = Unit

interior-leaf : {l r p h q : ℕ} {c b : LightBounds}
    → ◌≡◌ {A = LightBVHNode × LightBounds} (interior l r p, c) (leaf_node h q, b) → ⊥
interior-leaf e = subst (λ (x : LightBVHNode × LightBounds). IsInterior x.0) e tt

-- where each leaf's record is its label's, so is that of a leaf at a place
pub node_in_record : (f : ℕ → LightBounds) (at p : ℕ) (t : Tree) (i h q : ℕ) (b : LightBounds) → LeavesBy f t
    → node_in at p t i ≡ some (leaf_node h q, b) → b ≡ f h
node_in_record f at p (leaf k c) i h q b is e =
    let same =
    some-injective (leaf_node k p, c) (leaf_node h q, b) (node_in-leaf at p k c i (leaf_node h q, b) e).1 in
    let label : k ≡ h = ap (λ (x : LightBVHNode × LightBounds). label_in x.0) same in
    sym (ap (λ (x : LightBVHNode × LightBounds). x.1) same) ∙ is ∙ ap f label
node_in_record f at p (fork c l r) i h q b is e =
    ⊎_elim
    (λ here. absurd (interior-leaf
    (some-injective (interior (at + 1) (right_place at l) p, c) (leaf_node h q, b) here.1)))
    (λ under. ⊎_elim (λ g. node_in_record f (at + 1) at l i h q b is.0 g)
    (λ g. node_in_record f (right_place at l) at r i h q b is.1 g) under)
    (node_in-fork at p c l r i (leaf_node h q, b) e)

-- ---- read from words

abbrev pub RecordsFit : Tree → Type 0
RecordsFit (leaf h b) = RecordFits b
RecordsFit (fork b l r) = RecordFits b × RecordsFit l × RecordsFit r

pub sound-records : (t : Tree) → Sound t → RecordsFit t
sound-records (leaf h b) s = s.fits
sound-records (fork b l r) s = (s.0.fits, sound-records l s.1, sound-records r s.2)

-- a head has thirty bits for a label or a place
abbrev pub head_end : ℕ
head_end = 0x4000_0000

abbrev pub LabelsFit : Tree → Type 0
LabelsFit t = All (λ (h : ℕ). h < head_end) (leaf_handles t)

abbrev pub Reads : List ℕ → ℕ → LightBVHNode × LightBounds → Type 0
Reads ws i x = (node_at ws i ≡ given x.0) × (bounds_at ws i ≡ given x.1)

-- the root, wherever its tree stands
root-read : (ps ss : List ℕ) (at p : ℕ) (t : Tree) (i : ℕ) (x : LightBVHNode × LightBounds) → length ps ≡ node_place at
    → head_fits (root at p t) ≡ true
    → RecordFits (bounds t) → i ≡ at → some (root at p t, bounds t) ≡ some x → Reads (ps ++ flatten at p t ++ ss) i x
root-read ps ss at p t i x place head fits here e =
    let is : (root at p t, bounds t) ≡ x = some-injective (root at p t, bounds t) x e in
    rw (here, ← is) (root-at ps ss at at p t place head, root-bounds-at ps ss at at p t place fits)

-- the trees under a fork, in its words
module _ (ps ss : List ℕ) (at p : ℕ) (b : LightBounds) (l r : Tree) where
  pub in_left : ps ++ node_list (interior (at + 1) (right_place at l) p) b ++ flatten (at + 1) at l ++
      (flatten (right_place at l) at r ++ ss)
      ≡ ps ++ flatten at p (fork b l r) ++ ss
  unfolding flatten
  in_left = simp append_assoc

  pub in_right : ps ++ node_list (interior (at + 1) (right_place at l) p) b ++ flatten (at + 1) at l ++ flatten
      (right_place at l) at r ++ ss
      ≡ ps ++ flatten at p (fork b l r) ++ ss
  unfolding flatten
  in_right = simp append_assoc

pub place_at : (t : Tree) (ps ss : List ℕ) (at p i : ℕ) (x : LightBVHNode × LightBounds) → length ps ≡ node_place at
    → at + (2 * leaves t - 1) ≤ head_end
    → LabelsFit t → RecordsFit t → node_in at p t i ≡ some x → Reads (ps ++ flatten at p t ++ ss) i x
unfolding leaves leaf_handles
place_at (leaf h b) ps ss at p i x place low labels fit e =
    let (here, is) = node_in-leaf at p h b i x e in
    root-read ps ss at p (leaf h b) i x place (lt-ltb h head_end labels.0) fit here is
place_at (fork b l r) ps ss at p i x place low labels fit e =
    let more-l = leaves-pos l in
    let more-r = leaves-pos r in
    let (labels-l, labels-r) = all-parts (λ (h : ℕ). h < head_end) (leaf_handles l) (leaf_handles r) labels in
    let n = interior (at + 1) (right_place at l) p in
    ⊎_elim
    (λ here. root-read ps ss at p (fork b l r) i x place (lt-ltb (at + 1) head_end (omega arith)) fit.0 here.0
    here.1)
    (λ under. ⊎_elim
    (λ is. subst (λ (ws : List ℕ). Reads ws i x) (in_left ps ss at p b l r)
    (place_at l (ps ++ node_list n b) (flatten (right_place at l) at r ++ ss) (at + 1) at i x
    (left-place ps at n b
    place)
    (omega arith) labels-l fit.1 is))
    (λ is. subst (λ (ws : List ℕ). Reads ws i x) (in_right ps ss at p b l r)
    (place_at r (ps ++ node_list n b ++ flatten (at + 1) at l) ss (right_place at l) at i x
    (right-place ps at n b place l) (omega arith) labels-r fit.2 is))
    under)
    (node_in-fork at p b l r i x e)

-- each node of a tree is read from the tree's words, and its record
module _ (t : Tree) (low : 2 * leaves t - 1 ≤ head_end) (labels : LabelsFit t) (fit : RecordsFit t) (i : ℕ) where
  pub node-read : (x : LightBVHNode × LightBounds) → node_in 0 invalid_index t i ≡ some x → Reads (tree_words t) i x
  node-read x is =
      subst (λ (ws : List ℕ). Reads ws i x) (append-nil (tree_words t))
      (place_at t [] [] 0 invalid_index i x refl (omega arith) labels fit is)

  pub place_read : i < 2 * leaves t - 1
      → (x : LightBVHNode × LightBounds) × (node_in 0 invalid_index t i ≡ some x) × Reads (tree_words t) i x
  place_read below =
      let (x, is) = node_in-some 0 invalid_index t i (omega arith) (omega arith) in
      (x, is, node-read x is)

-- ---- the place of a leaf

-- the first that there is
abbrev pub first_of : Option ℕ → Option ℕ → Option ℕ
first_of (some i) o = some i
first_of none o = o

-- the place of the first leaf with a label, of a tree whose root stands at a place
unfoldable pub place_in : ℕ → Tree → ℕ → Option ℕ
place_in at (leaf h b) x = cond (eqb x h) (some at) none
place_in at (fork b l r) x = first_of (place_in (suc at) l x) (place_in (right_place at l) r x)

pub place_in-none : (at : ℕ) (t : Tree) (x : ℕ) → often x (leaf_handles t) ≡ 0 → place_in at t x ≡ none
unfolding place_in leaf_handles often
place_in-none at (leaf h b) x e = go (eqb x h) e
  where
    go : (b : Bool) → cond b 1 0 + 0 ≡ 0 → cond b (some at) none ≡ none
    go true e = absurd (omega arith)
    go false e = refl
place_in-none at (fork b l r) x e =
    let sum = often-append x (leaf_handles l) (leaf_handles r) in
    rw (place_in-none (suc at) l x (omega arith)) (place_in-none (right_place at l) r x (omega arith))

first_cases : (o o' : Option ℕ) (i : ℕ) → first_of o o' ≡ some i → (o ≡ some i) ⊎ (o' ≡ some i)
first_cases (some j) o' i e = inl e
first_cases none o' i e = inr e

place_in-leaf : (at h : ℕ) (b : LightBounds) (x i : ℕ) → place_in at (leaf h b) x ≡ some i → (x ≡ h) × (i ≡ at)
unfolding place_in
place_in-leaf at h b x i e = go (eqb x h) refl e
  where
    go : (b : Bool) → eqb x h ≡ b → cond b (some at) none ≡ some i → (x ≡ h) × (i ≡ at)
    go true f e = (eqb-true x h f, sym (some-injective at i e))
    go false f e = absurd (none-ne-some i e)

pub place_in-within : (at : ℕ) (t : Tree) (x i : ℕ) → place_in at t x ≡ some i
    → (at ≤ i) × (i < at +
    (2 * leaves t - 1))
unfolding place_in leaves
place_in-within at (leaf h b) x i e = let (_, is) = place_in-leaf at h b x i e in (omega arith, omega arith)
place_in-within at (fork b l r) x i e =
    let more-l = leaves-pos l in
    let more-r = leaves-pos r in
    ⊎_elim (λ f. let (low, high) = place_in-within (suc at) l x i f in (omega arith, omega arith))
    (λ f. let (low, high) = place_in-within (right_place at l) r x i f in (omega arith, omega arith))
    (first_cases (place_in (suc at) l x) (place_in (right_place at l) r x) i e)

-- at that place stands a leaf with the label
pub place_in-node : (at p : ℕ) (t : Tree) (x i : ℕ) → place_in at t x ≡ some i
    → (q : ℕ) × (b : LightBounds) × (node_in at p t i ≡ some (leaf_node x q, b))
unfolding place_in
place_in-node at p (leaf h b) x i e =
    let (label, here) = place_in-leaf at h b x i e in
    (p, b, rw (label, here) (node_in-root at p (leaf h b)))
place_in-node at p (fork b l r) x i e =
    let more-l = leaves-pos l in
    ⊎_elim
    (λ f.
    let (low, high) = place_in-within (suc at) l x i f in
    let (q, c, is) = place_in-node (at + 1) at l x i (rw (add-one at) f) in
    (q, c, rw (node_in-left at p b l r i (omega arith) (omega arith)) is))
    (λ f.
    let (low, high) = place_in-within (right_place at l) r x i f in
    let (q, c, is) = place_in-node (right_place at l) at r x i f in
    (q, c, rw (node_in-right at p b l r i low) is))
    (first_cases (place_in (suc at) l x) (place_in (right_place at l) r x) i e)

-- ---- the handle table

pub length-tabled : (at : ℕ) (t : Tree) (table : List ℕ) → length (tabled at t table) ≡ length table
unfolding tabled
length-tabled at (leaf h b) table = length-set table h at
length-tabled at (fork b l r) table =
    length-tabled (right_place at l) r (tabled (suc at) l table) ∙ length-tabled (suc at) l table

-- a number that is no label
pub tabled-other : (at : ℕ) (t : Tree) (table : List ℕ) (x d : ℕ) → often x (leaf_handles t) ≡ 0
    → get_or (tabled at t table) x d ≡ get_or table x d
unfolding tabled leaf_handles often
tabled-other at (leaf h b) table x d e = get_or-set_other table h x at d (λ is. go is e)
  where
    go : x ≡ h → once x h + 0 ≡ 0 → ⊥
    go is e = omega (arith, rw (eq-eqb x h is) at e)
tabled-other at (fork b l r) table x d e =
    let sum = often-append x (leaf_handles l) (leaf_handles r) in
    tabled-other (right_place at l) r (tabled (suc at) l table) x d (omega arith) ∙ tabled-other (suc at) l table x d
    (omega arith)

-- a label that stands once
pub tabled-at : (at : ℕ) (t : Tree) (table : List ℕ) (x d : ℕ) → often x (leaf_handles t) ≡ 1 → x < length table
    → (i : ℕ) × (place_in at t x ≡ some i) × (get_or (tabled at t table) x d ≡ i)
unfolding tabled place_in leaf_handles often
tabled-at at (leaf h b) table x d e low = go (eqb x h) refl e
  where
    go : (b : Bool) → eqb x h ≡ b → cond b 1 0 + 0 ≡ 1
        → (i : ℕ) × (cond b (some at) none ≡ some i) × (get_or (set table h at) x d ≡ i)
    go true f e = (at, refl, rw (← (eqb-true x h f)) (get_or-set_same table x at d low))
    go false f e = absurd (omega arith)
tabled-at at (fork b l r) table x d e low =
    go (often x (leaf_handles l)) refl (λ e. tabled-at (suc at) l table x d e low)
    (λ e. tabled-at (right_place at l) r (tabled (suc at) l table) x d e (omega (
      arith,
      length-tabled (suc at) l
          table,
    )))
  where
    go : (k : ℕ) → often x (leaf_handles l) ≡ k
        → (often x (leaf_handles l) ≡ 1 → (i : ℕ) × (place_in (suc at) l x ≡ some i) ×
        (get_or (tabled (suc at) l table) x d ≡ i))
        → (often x (leaf_handles r) ≡ 1
        → (i : ℕ) × (place_in (right_place at l) r x ≡ some i)
        × (get_or (tabled (right_place at l) r (tabled (suc at) l table)) x d ≡ i))
        → (i : ℕ) × (first_of (place_in (suc at) l x) (place_in (right_place at l) r x) ≡ some i)
        × (get_or (tabled (right_place at l) r (tabled (suc at) l table)) x d ≡ i)
    go zero is left right =
        let sum = often-append x (leaf_handles l) (leaf_handles r) in
        let (i, place, found) = right (omega arith) in
        (i, rw (place_in-none (suc at) l x is) place, found)
    go (suc k) is left right =
        let sum = often-append x (leaf_handles l) (leaf_handles r) in
        let (i, place, found) = left (omega arith) in
        (i, rw place, tabled-other (right_place at l) r (tabled (suc at) l table) x d (omega arith) ∙ found)

-- of a label that stands twice the table has the last leaf's place, neither the first's nor what it had
pub tabled-twice : (b : LightBounds) → tabled 0 (fork b (leaf 0 b) (leaf 0 b)) (invalid_index ∷ []) ≡ 2 ∷ []
unfolding tabled leaves
tabled-twice b = refl

-- a table that was filled with the invalid index
module _ (t : Tree) (m x : ℕ) (below : x < m) where
  pub table-leaf : often x (leaf_handles t) ≡ 1
      → (i : ℕ) × (place_in 0 t x ≡ some i) × (get_or (tabled 0 t (replicate m invalid_index)) x 0 ≡ i)
  table-leaf e = tabled-at 0 t (replicate m invalid_index) x 0 e (rw (length-replicate m invalid_index) below)

  pub table-other : often x (leaf_handles t) ≡ 0 → get_or (tabled 0 t (replicate m invalid_index)) x 0 ≡ invalid_index
  table-other e = tabled-other 0 t (replicate m invalid_index) x 0 e ∙ get_or-replicate m x invalid_index 0 below
