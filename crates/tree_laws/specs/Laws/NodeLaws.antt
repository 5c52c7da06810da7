-- The nodes and the table of a build that was accepted, as demand 3 has them: how many there are (`k-counted`,
-- `node-words`, `table-words`), that child words reach each place once (`places-reached`, `places`), that the table
-- leads from a powered lamp to its leaf, from any other nowhere, and that each leaf is where it leads (`powered-leaf`,
-- `other-lamps`, `leaf-powered`), and that a fork's box holds its children's (`boxes`). Assumes nothing.
use Rattle.std.specs.Prelude.{ℕ, zero, suc, ◌+◌, ◌*◌, ◌-◌, ◌/◌, ◌≤◌, ◌<◌, ◌≡◌, Bool, true, false, cond, ◌&&◌, List}
use Rattle.std.specs.Prelude.{[], ◌∷◌, ◌++◌, T, ltb, get_or, replicate}
use Rattle.std.proofs.Math.Path.{refl}
use Rattle.std.proofs.Common.{ap, subst, sym, ◌∙◌, add-one, arith, ltb-true, ltb-false, lt-ltb, eq-eqb, length-append}
use Rattle.std.proofs.Math.Logic.{⊎_elim}
use Rattle.std.proofs.Math.Option.{Option, none, some, some-injective}
use Rattle.std.proofs.Math.ListN.{length, length-replicate, get_or-eq_default}
use Rattle.words.specs.Answers.{given}
use Rattle.words.proofs.AnswerLaws.{given_injective, not-both}
use Rattle.light_bounds.specs.declared.light_bounds.LightBounds.{LightBounds}
use Rattle.light_rows.specs.Nodes.{LightBVHNode, leaf as leaf_node, interior, invalid_index, node_words, node_at}
use Rattle.light_rows.specs.Tree.{Tree, leaf, fork, bounds, leaves, leaf_handles, right_place}
use Rattle.light_rows.specs.Laws.TreeLaws.{leaves-pos, node_at-past}
use Rattle.light_bvh.specs.Build.{LightBVH, is_powered, bounded_handles, nodes_written, table_written}
use Rattle.tree_laws.specs.Laws.AcceptedTree.{Parts, accepted-none, accepted-nothing}
use Rattle.tree_laws.specs.Laws.AcceptedTree.{accepted-sound, accepted-leaves}
use Rattle.tree_laws.specs.Laws.AcceptedTree.{accepted-words, accepted-count, accepted-read}
use Rattle.tree_laws.specs.Laws.AcceptedTree.{table_is, accepted-table, accepted_unpowered}
use Rattle.tree_laws.specs.Laws.LeafLaws.{bounded-count}
use Rattle.tree_laws.specs.Laws.PlaceLaws.{node_in, node_in-fork, node_in-leaf, place_in, place_in-none, length-tabled}
use Rattle.tree_laws.specs.Laws.PlaceLaws.{table-leaf}
use Rattle.tree_laws.specs.Laws.RecordsOfTree.{Sound}
use Rattle.words.proofs.OrderedLists.{often-append, often-none}
use Rattle.words.specs.Lists.{often}
use Rattle.tree_laws.specs.TreeWords.{place_of, powered_below, reached, places_from, HoldsChildren}
use Rattle.tree_laws.specs.Laws.StandingLaws.{stands-root, accepted_stands}
use Rattle.tree_laws.specs.AsCoded.StandingTree.{Stands}

-- ---- the powered lamps

one-length : (b : Bool) (n : ℕ) → length (cond b (n ∷ []) []) ≡ cond b 1 0
one-length true n = refl
one-length false n = refl

bounded-length : (ws : List ℕ) (m : ℕ) → length (bounded_handles ws m) ≡ powered_below ws m
unfolding bounded_handles powered_below
bounded-length ws zero = refl
bounded-length ws (suc m) =
    length-append (bounded_handles ws m) (cond (is_powered ws m) (m ∷ []) []) ∙ rw
    (bounded-length ws m, one-length (is_powered ws m) m)

-- ---- the places that child words reach

pub places-append : (i m n : ℕ) → places_from i (m + n) ≡ places_from i m ++ places_from (i + m) n
unfolding places_from
places-append i zero n =
    let none : 0 + n ≡ n = omega arith in
    let here : i + 0 ≡ i = omega arith in
    rw (none, here)
places-append i (suc m) n =
    let more : suc m + n ≡ suc (m + n) = omega arith in
    let next : i + suc m ≡ i + 1 + m = omega arith in
    rw (more, next, places-append (i + 1) m n)

module _ (ws : List ℕ) (n i : ℕ) where
  pub reached-leaf : (h p : ℕ) → node_at ws i ≡ given (leaf_node h p) → reached ws (suc n) i ≡ i ∷ []
  unfolding reached
  reached-leaf h p e = rw (e, reached)

  pub reached-fork : (l r p : ℕ) → node_at ws i ≡ given (interior l r p)
      → reached ws (suc n) i ≡ i ∷ (reached ws n l ++ reached ws n r)
  unfolding reached
  reached-fork l r p e = rw (e, reached)

-- of a tree that stands in words, as many forks deep as it has leaves less one, or deeper
pub places-reached : (ws : List ℕ) (n at p : ℕ) (t : Tree) → Stands ws at p t → leaves t ≤ suc n
    → reached ws n at ≡ places_from at (2 * leaves t - 1)
unfolding reached places_from leaves
places-reached ws zero at p (leaf h b) s few = refl
places-reached ws (suc n) at p (leaf h b) s few = reached-leaf ws n at h p s.0
places-reached ws zero at p (fork b l r) s few = absurd (omega (arith, leaves-pos l, leaves-pos r))
places-reached ws (suc n) at p (fork b l r) s few =
    let more-l = leaves-pos l in
    let more-r = leaves-pos r in
    let left = places-reached ws n (at + 1) at l s.1 (omega arith) in
    let right = places-reached ws n (right_place at l) at r s.2 (omega arith) in
    let size : 2 * (leaves l + leaves r) - 1 ≡ suc (2 * leaves l - 1 + (2 * leaves r - 1)) = omega arith in
    let behind : at + 1 + (2 * leaves l - 1) ≡ right_place at l = omega arith in
    reached-fork ws n at (at + 1) (right_place at l) p s.0.0
    ∙ rw (size, left, right, places-append (at + 1) (2 * leaves l - 1) (2 * leaves r - 1), behind)

-- ---- nodes that are the same

same-node : (x y : LightBVHNode × LightBounds) → some x ≡ some y → x.0 ≡ y.0
same-node x y e = ap (λ (z : LightBVHNode × LightBounds). z.0) (some-injective x y e)

not-leaf : (l r p h q : ℕ) → interior l r p ≡ leaf_node h q → ⊥
not-leaf l r p h q e = let z : ◌≡◌ {A = ℕ} 0 1 = cc in omega arith

-- ---- a leaf at a place

-- its label stands among the leaves, and where it stands once, its place is the label's
module _ (h q : ℕ) (c : LightBounds) where
  leaf-counted : (at p : ℕ) (t : Tree) (i : ℕ) → node_in at p t i ≡ some (leaf_node h q, c)
      → 1 ≤ often h (leaf_handles
      t)
  unfolding leaf_handles often
  leaf-counted at p (leaf k b) i e =
      let is = same-node (leaf_node k p, b) (leaf_node h q, c) (node_in-leaf at p k b i (leaf_node h q, c) e).1 in
      let same : h ≡ k = cc in
      rw (eq-eqb h k same) (omega arith)
  leaf-counted at p (fork b l r) i e =
      let sum = often-append h (leaf_handles l) (leaf_handles r) in
      ⊎_elim (λ here. absurd (not-leaf (at + 1) (right_place at l) p h q
      (same-node (interior (at + 1) (right_place at l) p, b) (leaf_node h q, c) here.1)))
      (λ under. ⊎_elim (λ f. omega (arith, leaf-counted (at + 1) at l i f))
      (λ f. omega (arith, leaf-counted (right_place at l) at r i f)) under)
      (node_in-fork at p b l r i (leaf_node h q, c) e)

  leaf-place : (at p : ℕ) (t : Tree) (i : ℕ) → often h (leaf_handles t) ≡ 1 → node_in at p t i ≡ some (leaf_node h q, c)
      → place_in at t h ≡ some i
  unfolding place_in leaf_handles often
  leaf-place at p (leaf k b) i one e =
      let (here, found) = node_in-leaf at p k b i (leaf_node h q, c) e in
      let is = same-node (leaf_node k p, b) (leaf_node h q, c) found in
      let same : h ≡ k = cc in
      rw (eq-eqb h k same, here)
  leaf-place at p (fork b l r) i one e =
      let sum = often-append h (leaf_handles l) (leaf_handles r) in
      ⊎_elim (λ here. absurd (not-leaf (at + 1) (right_place at l) p h q
      (same-node (interior (at + 1) (right_place at l) p, b) (leaf_node h q, c) here.1)))
      (λ under. ⊎_elim
      (λ f.
      let some-l = leaf-counted (at + 1) at l i f in
      let place : place_in (suc at) l h ≡ some i = rw (← (add-one at)) (leaf-place (at + 1) at l i (omega arith) f) in
      rw place)
      (λ f.
      let some-r = leaf-counted (right_place at l) at r i f in
      rw (place_in-none (suc at) l h (omega arith)) (leaf-place (right_place at l) at r i (omega arith) f))
      under)
      (node_in-fork at p b l r i (leaf_node h q, c) e)

-- ---- a fork at a place

fork_holds : (ws : List ℕ) (at p : ℕ) (t : Tree) → Stands ws at p t → Sound t
    → (i j k q : ℕ) (c : LightBounds) → node_in at p t i ≡ some (interior j k q, c) → HoldsChildren ws i j k
fork_holds ws at p (leaf h b) s sound i j k q c e =
    absurd (not-leaf j k q h p (sym
    (same-node (leaf_node h p, b) (interior j k q, c) (node_in-leaf at p h b i (interior j k q, c) e).1)))
fork_holds ws at p (fork b l r) s sound i j k q c e =
    ⊎_elim
    (λ here.
    let is = same-node (interior (at + 1) (right_place at l) p, b) (interior j k q, c) here.1 in
    let left : j ≡ at + 1 = cc in
    let right : k ≡ right_place at l = cc in
    rw (here.0, left, right)
    (record {
      own = b;
      left = bounds l;
      right = bounds r;
      own_is = s.0.1;
      left_is = (stands-root ws (at + 1) at l s.1).1;
      right_is = (stands-root ws (right_place at l) at r s.2).1;
      holds-left = sound.0.holds-left;
      holds-right = sound.0.holds-right;
    }))
    (λ under. ⊎_elim (fork_holds ws (at + 1) at l s.1 sound.1 i j k q c)
    (fork_holds ws (right_place at l) at r s.2 sound.2 i j k q c) under)
    (node_in-fork at p b l r i (interior j k q, c) e)

-- ---- of a build that was accepted

-- a node that is read is within the words
node-within : (ws : List ℕ) (i : ℕ) (n : LightBVHNode) → node_at ws i ≡ given n → i < length ws / node_words
node-within ws i n e = go (ltb i (length ws / node_words)) refl
  where
    go : (b : Bool) → ltb i (length ws / node_words) ≡ b → i < length ws / node_words
    go true f = ltb-true i (length ws / node_words) f
    go false f = absurd (not-both e (node_at-past ws i (ltb-false i (length ws / node_words) f)))

at_most : (c : Bool) → cond c 1 0 ≤ 1
at_most true = omega arith
at_most false = omega arith

module _ (ws : List ℕ) (b : LightBVH) (parts : Parts ws b) where
  pub k-counted : b.k ≡ powered_below ws b.rows
  k-counted = parts.powered ∙ bounded-length ws b.rows

  pub node-words : length (nodes_written b) ≡ node_words * (2 * b.k - 1)
  unfolding nodes_written
  node-words = go b.tree refl
    where
      go : (o : Option Tree) → b.tree ≡ o → length (nodes_written b) ≡ node_words * (2 * b.k - 1)
      go none is = rw (is, accepted-none ws b parts is)
      go (some t) is = accepted-words ws b t parts is

  pub table-words : length (table_written b) ≡ b.rows
  unfolding table_written
  table-words = go b.tree refl
    where
      go : (o : Option Tree) → b.tree ≡ o → length (table_written b) ≡ b.rows
      go none is = rw is (length-replicate b.rows invalid_index)
      go (some t) is =
          rw is (length-tabled 0 t (replicate b.rows invalid_index) ∙ length-replicate b.rows invalid_index)

  -- without a tree no lamp has power
  none-powered : b.tree ≡ none → (h : ℕ) → h < b.rows → T (is_powered ws h) → ⊥
  none-powered is h l power =
      let none-counted : often h (bounded_handles ws b.rows) ≡ 0 =
      often-none h (bounded_handles ws b.rows) (omega (arith, parts.powered, accepted-none ws b parts is)) in
      go (is_powered ws h) power (rw (bounded-count ws b.rows h, lt-ltb h b.rows l) at none-counted)
    where
      go : (c : Bool) → T c → ◌≡◌ {A = ℕ} (cond (true && c) 1 0) 0 → ⊥
      go true p e = omega arith
      go false p e = absurd p

  -- at a row the table has a word
  place_is : (h : ℕ) → h < b.rows → place_of b h ≡ get_or (table_written b) h 0
  place_is h l = within (table_written b) h (omega (arith, table-words))
    where
      within : (xs : List ℕ) (i : ℕ) → i < length xs → get_or xs i invalid_index ≡ get_or xs i 0
      within [] i l = absurd (omega arith)
      within (x ∷ xs) zero l = refl
      within (x ∷ xs) (suc i) l = within xs i (omega arith)

  pub powered-leaf : (h : ℕ) → h < b.rows → T (is_powered ws h)
      → (p : ℕ) × (place_of b h < 2 * b.k - 1) × (node_at (nodes_written b) (place_of b h) ≡ given (leaf_node h p))
  powered-leaf h l power = go b.tree refl
    where
      go : (o : Option Tree) → b.tree ≡ o
          → (p : ℕ) × (place_of b h < 2 * b.k - 1) × (node_at (nodes_written b) (place_of b h) ≡ given (leaf_node h p))
      go none is = absurd (none-powered is h l power)
      go (some t) is =
          let (i, p, entry, low, node, _) = accepted-table ws b t parts is h l power in
          (p, rw (place_is h l, entry) low, rw (place_is h l, entry) node)

  pub other-lamps : (h : ℕ) → (T (is_powered ws h) → ⊥) → place_of b h ≡ invalid_index
  other-lamps h never = go (ltb h b.rows) refl b.tree refl
    where
      go : (c : Bool) → ltb h b.rows ≡ c → (o : Option Tree) → b.tree ≡ o → place_of b h ≡ invalid_index
      go true e none is = let l = ltb-true h b.rows e in place_is h l ∙ accepted-nothing ws b parts is h l
      go true e (some t) is =
          let l = ltb-true h b.rows e in place_is h l ∙ accepted_unpowered ws b t parts is h l never
      go false e o is =
          get_or-eq_default (table_written b) invalid_index (omega (arith, table-words, ltb-false h b.rows e))

  -- a node that is read is the tree's at its place
  node-low : (i : ℕ) (n : LightBVHNode) → node_at (nodes_written b) i ≡ given n → i < 2 * b.k - 1
  node-low i n e = omega (arith, node-within (nodes_written b) i n e, node-words)

  node_in_lem : (t : Tree) → b.tree ≡ some t → (i : ℕ) (n : LightBVHNode) → node_at (nodes_written b) i ≡ given n
      → (c : LightBounds) × (node_in 0 invalid_index t i ≡ some (n, c))
  node_in_lem t is i n e =
      let (x, at, read) = accepted-read ws b t parts is i (node-low i n e) in (
        x.1,
        subst (λ (m : LightBVHNode). node_in 0 invalid_index t i ≡ some (m, x.1))
            (given_injective (sym read.0 ∙ e)) at,
      )

  pub leaf-powered : (i h p : ℕ) → node_at (nodes_written b) i ≡ given (leaf_node h p)
      → (h < b.rows) × T (is_powered ws h) × (place_of b h ≡ i)
  leaf-powered i h p e = go b.tree refl
    where
      counted : (x : ℕ) (a c : Bool) → ltb x b.rows ≡ a → is_powered ws x ≡ c → 1 ≤ cond (a && c) 1 0
          → (x < b.rows) × T (is_powered ws x)
      counted x true true f g l = (ltb-true x b.rows f, subst T (sym g) tt)
      counted x true false f g l = absurd (omega arith)
      counted x false c f g l = absurd (omega arith)

      go : (o : Option Tree) → b.tree ≡ o → (h < b.rows) × T (is_powered ws h) × (place_of b h ≡ i)
      go none is = absurd (omega (arith, node-low i (leaf_node h p) e, accepted-none ws b parts is))
      go (some t) is =
          let (c, here) = node_in_lem t is i (leaf_node h p) e in
          let some-h = leaf-counted h p c 0 invalid_index t i here in
          let is-count = accepted-count ws b t parts is h in
          let (l, power) = counted h (ltb h b.rows) (is_powered ws h) refl refl (rw is-count at some-h) in
          let one : often h (leaf_handles t) ≡ 1 =
          omega (arith, is-count, at_most (ltb h b.rows && is_powered ws h)) in
          let (j, place, entry) = table-leaf t b.rows h l one in
          let there = leaf-place h p c 0 invalid_index t i one here in
          let found : j ≡ i = some-injective j i (sym place ∙ there) in
          (l, power, place_is h l ∙ rw (table_is ws b t parts is) (entry ∙ found))

-- ---- whose tree stands in its words

module _ (ws : List ℕ) (b : LightBVH) (parts : Parts ws b) where
  pub places : 0 < b.k → (n : ℕ) → b.k ≤ n → reached (nodes_written b) n 0 ≡ places_from 0 (2 * b.k - 1)
  places some-k n deep = go b.tree refl
    where
      go : (o : Option Tree) → b.tree ≡ o → reached (nodes_written b) n 0 ≡ places_from 0 (2 * b.k - 1)
      go none is = absurd (omega (arith, accepted-none ws b parts is))
      go (some t) is =
          let size = accepted-leaves ws b t parts is in
          places-reached (nodes_written b) n 0 invalid_index t (accepted_stands ws b t parts is) (omega arith) ∙ rw size

  pub boxes : (i l r p : ℕ) → node_at (nodes_written b) i ≡ given (interior l r p)
      → HoldsChildren (nodes_written b) i l
      r
  boxes i l r p e = go b.tree refl
    where
      go : (o : Option Tree) → b.tree ≡ o → HoldsChildren (nodes_written b) i l r
      go none is = absurd (omega (arith, node-low ws b parts i (interior l r p) e, accepted-none ws b parts is))
      go (some t) is =
          let (c, here) = node_in_lem ws b parts t is i (interior l r p) e in
          fork_holds (nodes_written b) 0 invalid_index t (accepted_stands ws b t parts is)
          (accepted-sound ws b t parts is) i l r p c here
