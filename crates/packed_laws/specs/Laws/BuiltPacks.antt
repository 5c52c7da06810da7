-- An accepted build packs, with its own k and box. Its nodes pass every check of their places, so none is refused by 12
-- or 13 (`built_agrees`); its boxes are proper, so what can be refused is the room, by 3, and a record, by 5, 7 or 8
-- (`built_refusals`). Without powered lamps nothing is packed (`nothing_packs`). Assumes nothing.
use Rattle.std.specs.Prelude.{ℕ, zero, suc, ◌+◌, ◌-◌, ◌*◌, ◌≤◌, ◌<◌, ◌≡◌, Bool, cond, not, ◌||◌, List, ◌⊎◌, eqb, ltb}
use Rattle.std.proofs.Math.Path.{refl}
use Rattle.std.proofs.Common.{sym, subst, ◌∙◌, ⊎_elim}
use Rattle.std.proofs.Math.Bool.{true, false}
use Rattle.std.proofs.Math.Logic.{inl, inr}
use Rattle.std.proofs.Math.Option.{Option, none, some, some-injective}
use native.Mathlib.Omega.{arith}
use borrow.Author.Tests.{le-ltb, lt-ltb, eq-eqb}
use Rattle.std.specs.Float.Ieee.{lt, eq}
use Rattle.ieee.specs.Single.{zerof}
use Rattle.words.specs.Answers.{Answer, given, refused, ◌then◌}
use Rattle.words.specs.LittleEndian.{bytes_of}
use Rattle.words.proofs.AnswerLaws.{Only, only-given, only-refused, only-cond, only_then, only-number}
use Rattle.words.proofs.AnswerLaws.{refused_injective}
use Rattle.light_bounds.specs.LightBounds.{validate, cone_check, finite_cone, range_check, are_cosines}
use Rattle.light_bounds.specs.Vecmath.{normalize_by_division, dividing, dot, vec_length}
use Rattle.light_bounds.specs.declared.bounds.Bounds3.{Bounds3}
use Rattle.light_bounds.specs.declared.light_bounds.LightBounds.{LightBounds}
use Rattle.light_bounds.specs.declared.vecmath.Vec3.{Vec3}
use Rattle.light_rows.specs.Nodes.{LightBVHNode, leaf as leaf_node, interior, invalid_index, parent, node_at}
use Rattle.light_rows.specs.Tree.{Tree, leaf, fork, leaves, right_place}
use Rattle.light_rows.specs.Laws.TreeLaws.{leaves-pos}
use Rattle.light_bvh.specs.Build.{LightBVH, build_light_bvh, nodes_written}
use Rattle.light_bvh.proofs.RowsLaws.{bounded-few, bounds-none, bounds-there}
use Rattle.tree_laws.specs.Laws.AcceptedTree.{Parts, accepted-parts, accepted-none, accepted-leaves, accepted-read}
use Rattle.tree_laws.specs.Laws.PlaceLaws.{node_in, node_in-fork, node_in-leaf, Reads}
use Rattle.tree_laws.specs.Laws.ByteLaws.{nodes-words, nodes-counted}
use Rattle.tree_laws.specs.Laws.NodeLaws.{leaf-powered}
use Rattle.packed_bvh.specs.Packed.{index_max, payload, payload_check, parent_check, left_check, pack_node, pack_nodes}
use Rattle.packed_bvh.specs.Packed.{packed_reserve, pack_check, agreed, packed_tree, pack_light_bvh}
use Rattle.packed_bvh.proofs.PackLaws.{agreed-valid, agreed-nothing}
use Rattle.packed_laws.specs.Laws.OverallBox.{Proper, proper_check, accepted-box, overall-proper, node-within}

-- ---- the children and the parent of a node of a tree

-- a node at place i whose left child is the next one, and whose right child is before the end
abbrev Next : ℕ → ℕ → LightBVHNode → Type 0
Next i end (leaf_node h p) = Unit
Next i end (interior l r p) = (l ≡ i + 1) × (r < end)

-- and whose parent is before the end, or the one above the root
abbrev Linked : ℕ → ℕ → ℕ → LightBVHNode → Type 0
Linked p i end n = Next i end n × ((parent n ≡ p) ⊎ (parent n < end))

found : (P : LightBVHNode → Type 0) (x y : LightBVHNode × LightBounds) → some x ≡ some y → P x.0 → P y.0
found P x y e h = subst (λ (z : LightBVHNode × LightBounds). P z.0) (some-injective x y e) h

linked-root : (p q i end : ℕ) (n : LightBVHNode) → p < end → Linked p i end n → Linked q i end n
linked-root p q i end n low (next, up) = (next, inr (⊎_elim (λ e. rw e low) (λ l. l) up))

linked : (at p : ℕ) (t : Tree) (i end : ℕ) (x : LightBVHNode × LightBounds) → node_in at p t i ≡ some x
    → at + (2 * leaves t - 1) ≤ end
    → Linked p i end x.0
unfolding leaves
linked at p (leaf h b) i end x e low =
    found (λ (n : LightBVHNode). Linked p i end n) (leaf_node h p, b) x (node_in-leaf at p h b i x e).1 (tt, inl refl)
linked at p (fork b l r) i end x e low =
    let more-l = leaves-pos l in
    let more-r = leaves-pos r in
    ⊎_elim
    (λ here. found (λ (n : LightBVHNode). Linked p i end n) (interior (at + 1) (right_place at l) p, b) x here.1
    ((omega (arith, here.0), omega arith), inl refl))
    (λ under. ⊎_elim
    (λ f. linked-root at p i end x.0 (omega arith) (linked (at + 1) at l i end x f (omega arith)))
    (λ f. linked-root at p i end x.0 (omega arith) (linked (right_place at l) at r i end x f (omega arith)))
    under)
    (node_in-fork at p b l r i x e)

-- ---- which refusals

-- of a record whose box is proper: a value that is not finite, a direction of no length, a range
abbrev pub OfRecord : ℕ → Type 0
OfRecord n = (n ≡ 5) ⊎ ((n ≡ 7) ⊎ (n ≡ 8))

of-validate : (r : LightBounds) → Proper r.bounds → Only OfRecord (validate r)
unfolding validate cone_check range_check ◌then◌
of-validate r p =
    rw (proper_check r.bounds p)
    (only-cond (finite_cone r)
    (only-cond (eq (dot r.direction r.direction) zerof) (only-refused (inr (inl refl)))
    (only-cond (lt r.phi zerof || not (are_cosines r.cos_theta_o r.cos_theta_e))
    (only-refused (inr (inr refl))) only-given))
    (only-refused (inl refl)))

of-direction : (v : Vec3) → Only OfRecord (normalize_by_division v)
unfolding normalize_by_division
of-direction v = only-cond (dividing (vec_length v)) only-given (only-refused (inr (inl refl)))

-- ---- a node that passes the checks of its place

payload-passes : (n : LightBVHNode) → payload n ≤ index_max → payload_check n ≡ given tt
unfolding payload_check
payload-passes n l = rw (le-ltb index_max (payload n) l)

parent-passes : (count : ℕ) (n : LightBVHNode) → (parent n ≡ invalid_index) ⊎ (parent n < count)
    → parent_check count n ≡ given tt
unfolding parent_check
parent-passes count n (inl e) = rw (eq-eqb (parent n) invalid_index e)
parent-passes count n (inr l) = rw (lt-ltb (parent n) count l) (go (eqb (parent n) invalid_index))
  where
    go : (b : Bool) → ◌≡◌ {A = Answer (Unit {0})} (cond (b || true) (given tt) (refused 12)) (given tt)
    go true = refl
    go false = refl

left-passes : (i end : ℕ) (n : LightBVHNode) → Next i end n → left_check i n ≡ given tt
unfolding left_check
left-passes i end (leaf_node h p) next = refl
left-passes i end (interior l r p) next = rw (eq-eqb l (i + 1) next.0)

-- it is packed, or its record is refused
node_packs : (count : ℕ) (all : Bounds3) (ws : List ℕ) (i : ℕ) (x : LightBVHNode × LightBounds) → Reads ws i x
    → Linked invalid_index i count x.0
    → payload x.0 ≤ index_max → Proper x.1.bounds → Only OfRecord (pack_node count all ws i)
unfolding pack_node ◌then◌
node_packs count all ws i x (node, record_is) (next, up) small proper =
    rw (node, record_is, payload-passes x.0 small, parent-passes count x.0 up, left-passes i count x.0 next)
    (only_then (of-validate x.1 proper) (λ _. only_then (of-direction x.1.direction) (λ _. only-given)))

nodes_pack : (count : ℕ) (all : Bounds3) (ws : List ℕ) (n : ℕ)
    → ((i : ℕ) → i < n → Only OfRecord (pack_node count all ws i))
    → Only OfRecord (pack_nodes count all ws n)
unfolding pack_nodes
nodes_pack count all ws zero each = only-given
nodes_pack count all ws (suc n) each =
    only_then (nodes_pack count all ws n (λ i l. each i (omega arith)))
    (λ _. only_then (each n (omega arith)) (λ _. only-given))

-- ---- of a build that was accepted

module _ (lights : ℕ) (ws : List ℕ) (nodes table work : ℕ) (b : LightBVH)
    (accepted : build_light_bvh lights ws nodes table work ≡ given b) where
  parts : Parts ws b
  parts = accepted-parts lights ws nodes table work b accepted

  few : b.k ≤ 4096
  few = omega (arith, parts.few, parts.powered, bounded-few ws b.rows)

  -- how many nodes there are
  abbrev count : ℕ
  count = 2 * b.k - 1

  module _ (t : Tree) (is : b.tree ≡ some t) where
    lamps : 0 < b.k
    lamps = omega (arith, accepted-leaves ws b t parts is, leaves-pos t)

    module _ (all : Bounds3) (box : b.all-bounds ≡ some all) where
      each_packs : (i : ℕ) → i < count → Only OfRecord (pack_node count all (nodes_written b) i)
      each_packs i l =
          let (x, at, read) = accepted-read ws b t parts is i l in
          let link = linked 0 invalid_index t i count x at (omega (arith, accepted-leaves ws b t parts is)) in
          node_packs count all (nodes_written b) i x read link (narrow x.0 read.0 link.0)
          (node-within lights ws nodes table work b accepted all box i x.1 read.1).proper
        where
          narrow : (n : LightBVHNode) → node_at (nodes_written b) i ≡ given n → Next i count n → payload n ≤ index_max
          narrow (leaf_node h p) e next = omega (arith, parts.few, (leaf-powered ws b parts i h p e).0)
          narrow (interior l r p) e next = omega (arith, few, next.1)

      tree_packs : Only OfRecord
          (agreed count b.k (some all) then λ (box : Option Bounds3). packed_tree (nodes_written b) count box)
      unfolding packed_tree ◌then◌
      tree_packs =
          rw (agreed-valid count b.k all (λ e. omega (arith, lamps)) (λ e. omega (arith, lamps))
          (proper_check all (overall-proper lights ws nodes table work b accepted all box)))
          (only_then (nodes_pack count all (nodes_written b) count each_packs) (λ _. only-given))

  no-box : b.k ≡ 0 → b.all-bounds ≡ none
  no-box e = accepted-box lights ws nodes table work b accepted ∙ bounds-none ws b.rows (sym parts.powered ∙ e)

  behind : (o : Option Tree) → b.tree ≡ o → (a : Option Bounds3) → b.all-bounds ≡ a
      → Only OfRecord (agreed count b.k a then λ (box : Option Bounds3). packed_tree (nodes_written b) count box)
  unfolding ◌then◌ packed_tree
  behind none is a box =
      let dark = accepted-none ws b parts is in
      rw (sym box ∙ no-box dark, agreed-nothing count b.k (omega arith) dark) only-given
  behind (some t) is none box =
      absurd (bounds-there ws b.rows (omega (arith, parts.powered, lamps t is))
      (sym (accepted-box lights ws nodes table work b accepted) ∙ box))
  behind (some t) is (some all) box = tree_packs t is all box

  module _ (room : ℕ) where
    checked : pack_check (bytes_of (nodes_written b)) room
        ≡ cond (ltb room (4 * packed_reserve count)) (refused 3) (given count)
    unfolding pack_check ◌then◌
    checked = rw (nodes-counted ws b parts)

    -- by the room, or by a record
    pub built_refusals : (n : ℕ) → pack_light_bvh (bytes_of (nodes_written b)) b.k b.all-bounds room ≡ refused n
        → (n ≡ 3) ⊎ OfRecord n
    unfolding pack_light_bvh ◌then◌
    built_refusals n e = go (ltb room (4 * packed_reserve count)) (rw (checked, nodes-words ws b parts) at e)
      where
        go : (short : Bool) → (cond short (refused 3) (given count) then λ (n : ℕ). agreed n b.k b.all-bounds then
            λ (box : Option Bounds3). packed_tree (nodes_written b) n box) ≡ refused n → (n ≡ 3) ⊎ OfRecord n
        go true e = inl (sym (refused_injective e))
        go false e = inr (only-number (behind b.tree refl b.all-bounds refl) e)

    -- the nodes agree with k, with the box and with their own places
    pub built_agrees : (n : ℕ) → pack_light_bvh (bytes_of (nodes_written b)) b.k b.all-bounds room ≡ refused n
        → (n ≡ 12 → ⊥) × (n ≡ 13 → ⊥)
    built_agrees n e = go (built_refusals n e)
      where
        go : (n ≡ 3) ⊎ OfRecord n → (n ≡ 12 → ⊥) × (n ≡ 13 → ⊥)
        go (inl is) = (λ f. omega arith, λ f. omega arith)
        go (inr (inl is)) = (λ f. omega arith, λ f. omega arith)
        go (inr (inr (inl is))) = (λ f. omega arith, λ f. omega arith)
        go (inr (inr (inr is))) = (λ f. omega arith, λ f. omega arith)

    -- without powered lamps
    pub nothing_packs : b.k ≡ 0 → pack_light_bvh (bytes_of (nodes_written b)) b.k b.all-bounds room ≡ given none
    unfolding pack_light_bvh packed_tree ◌then◌
    nothing_packs dark =
        let bare : 2 * b.k - 1 ≡ 0 = omega arith in
        rw (checked, bare, le-ltb room 0 (omega arith), no-box dark, agreed-nothing 0 b.k refl dark)
