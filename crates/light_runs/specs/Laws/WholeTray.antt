-- Build leaves the nodes of k powered lamps in a tray for all m lamps, with zeros behind them. A draw, and a chance
-- by name, over the whole tray are those over the nodes alone (`draw-same`, `name-same`): neither leaves the tree,
-- and the count of entries ends no walk over a tree. With no powered lamp the tray is zeros, which are no node: 12
-- (`dark-tray`). Assumes nothing.
use Prim.Native.Nat.{ℕ, zero, suc, ◌+◌, ◌*◌, ◌-◌, ◌≤◌, ◌<◌}
use Rattle.std.specs.Prelude.{◌≡◌, Bool, ◌&&◌, T, leb, eqb, ltb, get_or}
use Rattle.std.proofs.Math.Path.{refl}
use Rattle.std.proofs.Common.{ap, subst, sym, ◌∙◌, length-append}
use Rattle.std.proofs.Math.Bool.{true, false, cond}
use mathlib.Core.List.{List, [], ◌++◌, append-nil}
use Rattle.std.proofs.Math.Logic.{⊎_elim}
use Rattle.std.proofs.Math.Option.{Option, none, some}
use native.Mathlib.Omega.{arith}
use borrow.Author.Tests.{ltb-true, ltb-false, eq-eqb, ne_eqb}
use Rattle.std.specs.Float.Ieee.{Float, le}
use Rattle.std.proofs.Math.ListN.{length, replicate, get_or-eq_default}
use Rattle.std.proofs.lemmas.List.{length-replicate}
use Rattle.std.proofs.Math.Seq.{drop-length}
use Rattle.ieee.specs.Choose.{fmin}
use Rattle.ieee.specs.Single.{◌⊗◌, zerof, onef}
use Rattle.words.specs.Answers.{Answer, given, refused, ◌then◌}
use Rattle.words.specs.LittleEndian.{words_of, bytes_of}
use Rattle.words.specs.Tray.{tray}
use Rattle.light_bounds.specs.declared.importance.Query.{Query}
use Rattle.light_bounds.specs.declared.light_bounds.LightBounds.{LightBounds}
use Rattle.light_rows.specs.Nodes.{LightBVHNode, invalid_index, parent, node_words, node_place, node_count, node_of}
use Rattle.light_rows.specs.Nodes.{node_at}
use Rattle.light_rows.specs.Tree.{Tree, leaf, fork, leaves, right_place}
use Rattle.light_rows.specs.Laws.TreeLaws.{leaves-pos, root}
use Rattle.light_bvh.specs.Build.{LightBVH, is_powered, nodes_reserve, nodes_written, table_written}
use Rattle.light_bvh.proofs.RowsLaws.{bounded-few}
use Rattle.words.proofs.ListLaws.{all_append, all_replicate}
use Rattle.light_sampler.specs.Fork.{most}
use Rattle.light_sampler.specs.Sampler.{sample_check, from_root, sample_walk, sample, leaf_of, from_leaf, pmf_walk}
use Rattle.light_sampler.specs.Walks.{Walked, Draw, ended, entering, after_check, by_query}
use Rattle.light_sampler.specs.Walks.{onward, descend, nought, part, Rise, rise, risen, upward, ascend}
use Rattle.tree_laws.specs.Laws.AcceptedTree.{Parts, accepted-sound, accepted-leaves, accepted-read}
use Rattle.tree_laws.specs.Laws.AcceptedTree.{labels-fit, places-fit, nodes-are}
use Rattle.tree_laws.specs.Laws.PlaceLaws.{head_end, node_in, node_in-leaf, node_in-fork, sound-records}
use Rattle.light_runs.specs.Laws.AcceptedWalks.{check_draw, check_name, from-root}
use Rattle.tree_laws.specs.Laws.ByteLaws.{words-counted, nodes-fit, nodes-words, nodes-counted}
use Rattle.words.proofs.LittleEndianLaws.{IsWord, words_back}
use Rattle.tree_laws.specs.Laws.ByteLaws.{table-words-back, table-bytes}
use Rattle.light_runs.specs.DemandWords.{FromZeroToOne, nodes, table}
use Rattle.tree_laws.specs.TreeWords.{place_of}
use Rattle.light_runs.specs.Laws.DownLaws.{weights_standing, descend-walk}
use Rattle.tree_laws.specs.Laws.NodeLaws.{node-words, table-words, powered-leaf, other-lamps}
use Rattle.tree_laws.specs.Laws.StandingLaws.{stands-root, stands_flat, accepted_stands}
use Rattle.tree_laws.specs.AsCoded.StandingTree.{Stands}
use Rattle.light_runs.specs.Laws.UpLaws.{root-parent}

-- ---- the walk up from a node of a tree that stands in two lists of words

module _ (xs ys : List ℕ) (q : Query) where
  -- from a place, with so many entries left at the least, the two walks up are one
  abbrev SameUp : ℕ → ℕ → Type 0
  SameUp i least = (n m : ℕ) (c : Float) → least ≤ n → least ≤ m → ascend xs q n i c ≡ ascend ys q m i c

  -- a root without a parent ends both
  up_root : (at : ℕ) (t : Tree) → Stands xs at invalid_index t → Stands ys at invalid_index t → SameUp at 1
  unfolding ascend upward
  up_root at t sx sy zero m c few more = absurd (omega arith)
  up_root at t sx sy (suc n) zero c few more = absurd (omega arith)
  up_root at t sx sy (suc n) (suc m) c few more =
      rw (
        (stands-root xs at invalid_index t sx).0,
        (stands-root ys at invalid_index t sy).0,
        eq-eqb (parent (root at invalid_index t)) invalid_index (root-parent at invalid_index t),
      )

  -- by what they do from the parent on
  risen-same : (p : ℕ) (c : Float) (f g : ℕ → Float → Walked Float) (a : Answer Rise)
      → ((d : Float) → f p d ≡ g p d) → risen p c f a ≡ risen p c g a
  unfolding risen
  risen-same p c f g (refused n) same = refl
  risen-same p c f g (given nought) same = refl
  risen-same p c f g (given (part s)) same = same (c ⊗ s)

  -- a child of a fork: the fork's weights are those of its trees in either list
  module _ (at p : ℕ) (b : LightBounds) (l r : Tree) (sx : Stands xs at p (fork b l r))
      (sy : Stands ys at p (fork b l r)) where
    rise-same : (i : ℕ) → rise xs (by_query q) i at ≡ rise ys (by_query q) i at
    unfolding rise ◌then◌
    rise-same i =
        rw (sx.0.0, sy.0.0, weights_standing xs q at p b l r sx, weights_standing ys q at p b l r sy)

    up_child : (i : ℕ) (t : Tree) → Stands xs i at t → Stands ys i at t → (at ≡ invalid_index → ⊥)
        → (least : ℕ) → SameUp at least → SameUp i (suc least)
    unfolding ascend upward
    up_child i t cx cy inner least same zero m c few more = absurd (omega arith)
    up_child i t cx cy inner least same (suc n) zero c few more = absurd (omega arith)
    up_child i t cx cy inner least same (suc n) (suc m) c few more =
        rw (
          (stands-root xs i at t cx).0,
          (stands-root ys i at t cy).0,
          root-parent i at t,
          ne_eqb at invalid_index inner,
          rise-same i,
        )
        (ap (entering i)
        (risen-same at c (λ (j : ℕ) (d : Float). ascend xs q n j d) (λ (j : ℕ) (d : Float). ascend ys q m j d)
        (rise ys (by_query q) i at) (λ d. same n m d (omega arith) (omega arith))))

  -- any node of the tree, with an entry more for each leaf but one
  up_same : (t : Tree) (at p : ℕ) → Stands xs at p t → Stands ys at p t → at + (2 * leaves t - 1) ≤ head_end
      → (least : ℕ) → SameUp at least → (i : ℕ) (x : LightBVHNode × LightBounds) → node_in at p t i ≡ some x
      → SameUp i (least + (leaves t - 1))
  unfolding leaves
  up_same (leaf h b) at p sx sy low least same i x e =
      λ n m c few more. rw (node_in-leaf at p h b i x e).0 (same n m c (omega arith) (omega arith))
  up_same (fork b l r) at p sx sy low least same i x e =
      let more-l = leaves-pos l in
      let more-r = leaves-pos r in
      let inner : at ≡ invalid_index → ⊥ = λ (is : at ≡ invalid_index). omega arith in
      ⊎_elim
      (λ here n m c few more. rw here.0 (same n m c (omega arith) (omega arith)))
      (λ under. ⊎_elim
      (λ is n m c few more.
      up_same l (at + 1) at sx.1 sy.1 (omega arith) (suc least)
      (up_child at p b l r sx sy (at + 1) l sx.1 sy.1 inner least same) i x is n m c (omega arith)
      (omega arith))
      (λ is n m c few more.
      up_same r (right_place at l) at sx.2 sy.2 (omega arith) (suc least)
      (up_child at p b l r sx sy (right_place at l) r sx.2 sy.2 inner least same) i x is n m c
      (omega arith) (omega arith))
      under)
      (node_in-fork at p b l r i x e)

-- ---- the tray

module _ (ws : List ℕ) (b : LightBVH) (parts : Parts ws b) where
  -- how many zeros there are, and all of the tray
  abbrev unused : ℕ
  unused = nodes_reserve b.rows - length (nodes_written b)

  abbrev whole : List ℕ
  whole = nodes_written b ++ replicate unused 0

  -- the nodes that a walk counts in it, and those of the tree
  abbrev counted : ℕ
  counted = 2 * b.rows - 1

  abbrev used : ℕ
  used = 2 * b.k - 1

  -- what build leaves of a tray that is just its reserve
  pub tray-is : (before : List ℕ) → length before ≡ nodes_reserve b.rows
      → tray nodes_written (nodes_reserve b.rows) (given b) before ≡ whole
  unfolding tray
  tray-is before e =
      rw (← e, drop-length before)
      (append-nil (nodes_written b ++ replicate (length before - length (nodes_written b)) 0))

  few-k : b.k ≤ b.rows
  few-k = omega (arith, parts.powered, bounded-few ws b.rows)

  tray-words : length whole ≡ node_words * counted
  tray-words = simp (length-append, length-replicate) (omega (arith, node-words ws b parts, few-k))

  tray-counted : node_count (bytes_of whole) ≡ given counted
  tray-counted = words-counted whole counted tray-words (omega (arith, parts.few))

  tray-back : words_of (bytes_of whole) ≡ whole
  tray-back =
      words_back whole
      (all_append IsWord (nodes_written b) (replicate unused 0) (nodes-fit ws b parts)
      (all_replicate IsWord unused 0 (omega arith)))

  -- the tree stands in its words, whatever is behind them
  stands-before : (t : Tree) → b.tree ≡ some t → (zs : List ℕ) → Stands (nodes_written b ++ zs) 0 invalid_index t
  stands-before t is zs =
      rw (nodes-are ws b t parts is)
      (stands_flat t [] zs 0 invalid_index refl (omega (arith, places-fit ws b t parts is))
      (labels-fit ws b t parts is) (sound-records t (accepted-sound ws b t parts is)))

  module _ (t : Tree) (is : b.tree ≡ some t) (q : Query) where
    few-leaves : leaves t ≡ b.k
    few-leaves = accepted-leaves ws b t parts is

    -- from the root, where there are as many entries as leaves
    root-same : (u : Float) → from_root whole q u counted ≡ from_root (nodes_written b) q u used
    root-same u =
        let some-leaf = leaves-pos t in
        let many = few-leaves in
        let v = fmin u most in
        from-root whole q u counted (omega (arith, few-k))
        ∙ descend-walk whole q t 0 invalid_index counted onef v (stands-before t is (replicate unused 0))
        (omega (arith, few-k))
        ∙ sym (descend-walk (nodes_written b) q t 0 invalid_index used onef v (accepted_stands ws b t parts is)
        (omega arith))
        ∙ sym (from-root (nodes_written b) q u used (omega arith))

    -- whatever u is
    pub draw-same : (u : Float) → sample_walk (bytes_of whole) q u ≡ sample_walk (nodes b) q u
    unfolding sample_walk sample_check ◌then◌
    draw-same u =
        rw (tray-counted, tray-back, nodes-counted ws b parts, nodes-words ws b parts) (go (le zerof u && le u onef))
      where
        go : (ok : Bool) → after_check (cond ok (given counted) (refused 11)) (from_root whole q u)
            ≡ after_check (cond ok (given used) (refused 11)) (from_root (nodes_written b) q u)
        go true = root-same u
        go false = refl

    -- from a place of the tree
    place_same : (i : ℕ) → i < used → ascend whole q counted i onef ≡ ascend (nodes_written b) q used i onef
    place_same i low =
        let some-leaf = leaves-pos t in
        let many = few-leaves in
        let sx = stands-before t is (replicate unused 0) in
        let sy = accepted_stands ws b t parts is in
        let (x, e, _) = accepted-read ws b t parts is i low in
        up_same whole (nodes_written b) q t 0 invalid_index sx sy (omega (arith, places-fit ws b t parts is)) 1
        (up_root whole (nodes_written b) q 0 t sx sy) i x e counted used onef (omega (arith, few-k)) (omega arith)

    -- from where the table leads; of any number, which may be no lamp's
    leaf-same : (h : ℕ) → from_leaf whole q (place_of b h) counted ≡ from_leaf (nodes_written b) q (place_of b h) used
    unfolding from_leaf
    leaf-same h = go (ltb h b.rows) refl (is_powered ws h) refl
      where
        -- by where the table leads
        from : Walked Float → Walked Float
        from walk = cond (eqb (place_of b h) invalid_index) (ended (given zerof)) walk

        nowhere : (x y : Walked Float) → place_of b h ≡ invalid_index → from x ≡ from y
        nowhere x y e = rw (eq-eqb (place_of b h) invalid_index e)

        go : (l : Bool) → ltb h b.rows ≡ l → (p : Bool) → is_powered ws h ≡ p
            → from (ascend whole q counted (place_of b h) onef)
            ≡ from (ascend (nodes_written b) q used (place_of b h) onef)
        go false e p f =
            nowhere _ _
            (get_or-eq_default (table_written b) invalid_index
            (omega (arith, table-words ws b parts, ltb-false h b.rows e)))
        go true e false f = nowhere _ _ (other-lamps ws b parts h (λ power. subst T f power))
        go true e true f =
            let (_, low, _) = powered-leaf ws b parts h (ltb-true h b.rows e) (subst T (sym f) tt) in
            ap from (place_same (place_of b h) low)

    pub name-same : (h : ℕ) → pmf_walk (bytes_of whole) (table b) q h ≡ pmf_walk (nodes b) (table b) q h
    unfolding pmf_walk leaf_of
    name-same h =
        let table_is = table-bytes ws b parts in
        rw (
          check_name (bytes_of whole) (table b) counted b.rows tray-counted table_is parts.few,
          check_name (nodes b) (table b) used b.rows (nodes-counted ws b parts) table_is parts.few,
          tray-back,
          nodes-words ws b parts,
          table-words-back ws b parts,
        )
        (leaf-same h)

-- ---- with no powered lamp

zeros-at : (n i : ℕ) → ◌≡◌ {A = ℕ} (get_or (replicate n 0) i 0) 0
zeros-at zero i = refl
zeros-at (suc n) zero = refl
zeros-at (suc n) (suc i) = zeros-at n i

-- a head of 0 is of no kind
zeros-node : (n i : ℕ) → node_at (replicate n 0) i ≡ refused 12
unfolding node_at node_of
zeros-node n i = rw (zeros-at n (node_place i)) (go (leb (node_place (suc i)) (length (replicate n 0))))
  where
    go : (b : Bool) → ◌≡◌ {A = Answer LightBVHNode} (cond b (refused 12) (refused 12)) (refused 12)
    go true = refl
    go false = refl

zeros-walk : (n : ℕ) (q : Query) (m i : ℕ) (c u : Float)
    → (descend (replicate n 0) q m i c u).outcome ≡ refused 12
unfolding descend onward
zeros-walk n q zero i c u = refl
zeros-walk n q (suc m) i c u = rw (zeros-node n i)

module _ (ws : List ℕ) (b : LightBVH) (parts : Parts ws b) (dark : b.k ≡ 0) (some-lamp : 0 < b.rows) where
  no-nodes : nodes_written b ≡ []
  unfolding nodes_written
  no-nodes = go b.tree refl
    where
      go : (o : Option Tree) → b.tree ≡ o → nodes_written b ≡ []
      go none is = rw is
      go (some t) is = absurd (omega (arith, accepted-leaves ws b t parts is, leaves-pos t))

  tray-out : (q : Query) (u : Float) → FromZeroToOne u
      → sample_walk (bytes_of (whole ws b parts)) q u
      ≡ descend (whole ws b parts) q (2 * b.rows - 1) 0 onef (fmin u most)
  unfolding sample_walk
  tray-out q u unit =
      rw (
        check_draw (bytes_of (whole ws b parts)) (2 * b.rows - 1) u (tray-counted ws b parts) unit,
        tray-back ws b parts,
      )
      (from-root (whole ws b parts) q u (2 * b.rows - 1) (omega arith))

  pub dark-tray : (q : Query) (u : Float) → FromZeroToOne u → sample (bytes_of (whole ws b parts)) q u ≡ refused 12
  dark-tray q u unit =
      ap (λ (w : Walked Draw). w.outcome) (tray-out q u unit)
      ∙ rw no-nodes (zeros-walk (nodes_reserve b.rows - 0) q (2 * b.rows - 1) 0 onef (fmin u most))
