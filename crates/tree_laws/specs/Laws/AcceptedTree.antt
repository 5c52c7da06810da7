-- The laws of built trees at a build that was accepted: its rows were labelled and checked (`accepted-parts`); its
-- tree, where there is one, is sound, has each powered lamp as a leaf once and nothing else, and each node is read from
-- its words (`accepted-sound`, `accepted-count`, `accepted-read`); and the table leads from each powered lamp to its
-- leaf, with its record, and from any other nowhere (`accepted-table`, `accepted_unpowered`, `accepted-nothing`).
-- Assumes nothing.
use Rattle.std.specs.Prelude.{ℕ, ◌*◌, ◌-◌, ◌≤◌, ◌<◌, ◌≡◌, refl, Bool, ◌&&◌, List, [], ◌∷◌, T, eqb, ltb, length}
use Rattle.std.specs.Prelude.{get_or, replicate}
use Rattle.std.proofs.Common.{ap, subst, sym, ◌∙◌, arith, ltb-true}
use Rattle.std.proofs.Math.Bool.{true, false, cond}
use Rattle.std.proofs.Math.Option.{Option, none, some, some-injective, none-ne-some, some-ne-none}
use Rattle.std.proofs.lemmas.List.{get_or-replicate}
use Rattle.words.specs.Answers.{Answer, given, refused, ◌then◌}
use Rattle.words.specs.Limits.{max_lamps, crowded}
use Rattle.words.specs.Rows.{below}
use Rattle.words.proofs.AnswerLaws.{then-given, given_injective, not-both}
use Rattle.words.proofs.LimitLaws.{few-lamps}
use Rattle.light_bounds.specs.declared.light_bounds.LightBounds.{LightBounds}
use Rattle.light_rows.specs.Block.{block_words, side_at, handle_at, block_layout, block_handles}
use Rattle.light_rows.specs.Nodes.{LightBVHNode, leaf as leaf_node, invalid_index, node_words, node_at, bounds_at}
use Rattle.light_rows.specs.Tree.{Tree, leaves, leaf_handles, tree_words}
use Rattle.light_split.specs.Lights.{light_of}
use Rattle.light_bvh.specs.Build.{is_powered, bounded_handles, all_bounds, validated, LightBVH, tree_of, built_bvh}
use Rattle.light_bvh.specs.Build.{is_short}
use Rattle.light_bvh.specs.Build.{build_check, build_light_bvh, nodes_written, tabled, table_written}
use Rattle.light_bvh.specs.Subtree.{build_subtree}
use Rattle.tree_laws.specs.Laws.LeafLaws.{built-leaves, built-words, built-records, bounded-labelled, tree-count}
use Rattle.tree_laws.specs.Laws.LeafLaws.{powered-once, others_never}
use Rattle.tree_laws.specs.Laws.PlaceLaws.{node_in, node_in-some, node_in_record, head_end, LabelsFit, sound-records}
use Rattle.tree_laws.specs.Laws.PlaceLaws.{Reads, node-read}
use Rattle.tree_laws.specs.Laws.PlaceLaws.{place_in-node, place_in-within, table-leaf, table-other}
use Rattle.tree_laws.specs.Laws.RecordsOfTree.{Sound, bounded-sound}
use Rattle.light_bvh.proofs.RowsLaws.{bounded-few}
use Rattle.words.proofs.ListLaws.{All, all_map}
use Rattle.words.proofs.OrderedLists.{counted-all}
use Rattle.words.specs.Lists.{often}

-- ---- what was checked

pub handles-count : (ws : List ℕ) (m : ℕ) → block_handles ws ≡ given m → get_or ws 0 0 ≡ m
unfolding block_handles
handles-count ws m e = go (below (handle_at ws) (get_or ws 0 0)) e
  where
    go : (b : Bool) → cond b (given (get_or ws 0 0)) (refused 4) ≡ given m → get_or ws 0 0 ≡ m
    go true e = given_injective e
    go false e = absurd (not-both e refl)

layout-few : (ws : List ℕ) (m : ℕ) → block_layout ws ≡ given m → get_or ws 0 0 ≤ max_lamps
unfolding block_layout
layout-few ws m e =
    go (crowded ws) (cond (eqb (length ws) (block_words (get_or ws 0 0)) && below (side_at ws) (get_or ws 0 0))
    (given (get_or ws 0 0)) (refused 1)) refl e
  where
    go : (b : Bool) (a : Answer ℕ) → crowded ws ≡ b → cond b (refused 2) a ≡ given m → get_or ws 0 0 ≤ max_lamps
    go true a c e = absurd (not-both e refl)
    go false a c e = few-lamps ws c

module _ (lights : ℕ) (ws : List ℕ) (nodes table work : ℕ) where
  pub checked-parts : (m : ℕ) → build_check lights ws nodes table work ≡ given m
      → (m ≤ max_lamps) × (block_handles ws ≡ given m)
  unfolding build_check
  checked-parts m e =
      let (l, layout, e₁) =
      then-given (block_layout ws)
      (λ (m : ℕ). cond (eqb lights m) (given m) (refused 1) then λ (m : ℕ). block_handles ws then λ (m : ℕ).
      cond (is_short m nodes table work) (refused 3) (given m)) m e in
      let (k, _, e₂) =
      then-given (cond (eqb lights l) (given l) (refused 1))
      (λ (m : ℕ). block_handles ws then λ (m : ℕ). cond (is_short m nodes table work) (refused 3) (given m)) m e₁ in
      let (h, handles, e₃) =
      then-given (block_handles ws) (λ (m : ℕ). cond (is_short m nodes table work) (refused 3) (given m)) m e₂ in
      let same : h ≡ m = go h (is_short h nodes table work) e₃ in
      let labelled : block_handles ws ≡ given m = rw same at handles in
      (omega (arith, layout-few ws l layout, handles-count ws m labelled), labelled)
    where
      go : (h : ℕ) (b : Bool) → cond b (refused 3) (given h) ≡ given m → h ≡ m
      go h true e = absurd (not-both e refl)
      go h false e = given_injective e

-- of a block whose build was accepted
pub record Parts (ws : List ℕ) (b : LightBVH) : Type 0 where
  pub few : b.rows ≤ max_lamps
  pub labelled : block_handles ws ≡ given b.rows
  pub checked : validated ws b.rows ≡ given tt
  pub powered : b.k ≡ length (bounded_handles ws b.rows)
  pub grown : tree_of ws (bounded_handles ws b.rows) ≡ given b.tree

pub accepted-parts : (lights : ℕ) (ws : List ℕ) (nodes table work : ℕ) (b : LightBVH)
    → build_light_bvh lights ws nodes table work ≡ given b → Parts ws b
unfolding build_light_bvh built_bvh
accepted-parts lights ws nodes table work b e =
    let (m, check, e₁) =
    then-given (build_check lights ws nodes table work) (λ (m : ℕ). validated ws m then λ _. built_bvh ws m) b e in
    let (_, checked, e₂) = then-given (validated ws m) (λ _. built_bvh ws m) b e₁ in
    let (t, grown, e₃) =
    then-given (tree_of ws (bounded_handles ws m))
    (λ (t : Option Tree). given (record
    { rows = m; k = length (bounded_handles ws m); all-bounds = all_bounds ws m; tree = t })) b e₂ in
    let (few, labelled) = checked-parts lights ws nodes table work m check in
    let made : LightBVH =
    record { rows = m; k = length (bounded_handles ws m); all-bounds = all_bounds ws m; tree = t } in
    subst (Parts ws) {x = made} (given_injective {a = made} e₃)
    (record { few = few; labelled = labelled; checked = checked; powered = refl; grown = grown })

-- ---- the tree

pub tree_of-built : (ws hs : List ℕ) (t : Tree) → tree_of ws hs ≡ given (some t)
    → build_subtree ws (length hs) hs ≡ given t
unfolding tree_of
tree_of-built ws [] t e = absurd (none-ne-some t (given_injective e))
tree_of-built ws (h ∷ hs) t e =
    let (r, is, e₁) =
    then-given (build_subtree ws (length (h ∷ hs)) (h ∷ hs)) (λ (t : Tree). given (some t)) (some t) e in
    is ∙ ap given (some-injective r t (given_injective e₁))

tree_of-none : (ws hs : List ℕ) → tree_of ws hs ≡ given none → length hs ≡ 0
unfolding tree_of
tree_of-none ws [] e = refl
tree_of-none ws (h ∷ hs) e =
    let (r, is, e₁) = then-given (build_subtree ws (length (h ∷ hs)) (h ∷ hs)) (λ (t : Tree). given (some t)) none e in
    absurd (some-ne-none r (given_injective e₁))

-- without a tree no lamp has power, and the table leads nowhere
module _ (ws : List ℕ) (b : LightBVH) (parts : Parts ws b) (is : b.tree ≡ none) where
  pub accepted-none : b.k ≡ 0
  accepted-none = parts.powered ∙ tree_of-none ws (bounded_handles ws b.rows) (parts.grown ∙ ap given is)

  pub accepted-nothing : (x : ℕ) → x < b.rows → get_or (table_written b) x 0 ≡ invalid_index
  unfolding table_written
  accepted-nothing x l = rw is (get_or-replicate b.rows x invalid_index 0 l)

module _ (ws : List ℕ) (b : LightBVH) (t : Tree) (parts : Parts ws b) (is : b.tree ≡ some t) where
  built : build_subtree ws (length (bounded_handles ws b.rows)) (bounded_handles ws b.rows) ≡ given t
  built = tree_of-built ws (bounded_handles ws b.rows) t (parts.grown ∙ ap given is)

  pub nodes-are : nodes_written b ≡ tree_words t
  unfolding nodes_written
  nodes-are = rw is

  pub table_is : table_written b ≡ tabled 0 t (replicate b.rows invalid_index)
  unfolding table_written
  table_is = rw is

  pub accepted-sound : Sound t
  accepted-sound = bounded-sound ws (length (bounded_handles ws b.rows)) b.rows t parts.checked built

  pub accepted-leaves : leaves t ≡ b.k
  accepted-leaves =
      built-leaves ws (length (bounded_handles ws b.rows)) (bounded_handles ws b.rows) t built ∙ sym
      parts.powered

  pub accepted-words : length (nodes_written b) ≡ node_words * (2 * b.k - 1)
  accepted-words =
      rw (nodes-are, parts.powered)
      (built-words ws (length (bounded_handles ws b.rows)) (bounded_handles ws b.rows) t built)

  pub accepted-count : (x : ℕ) → often x (leaf_handles t) ≡ cond (ltb x b.rows && is_powered ws x) 1 0
  accepted-count = tree-count ws (length (bounded_handles ws b.rows)) b.rows t parts.labelled built

  labels-below : All (λ (h : ℕ). h < b.rows) (leaf_handles t)
  labels-below =
      counted-all (λ (h : ℕ). h < b.rows) (leaf_handles t)
      (λ x l. go x (ltb x b.rows) (is_powered ws x) refl (rw (accepted-count x) at l))
    where
      go : (x : ℕ) (a c : Bool) → ltb x b.rows ≡ a → 1 ≤ cond (a && c) 1 0 → x < b.rows
      go x true c e l = ltb-true x b.rows e
      go x false c e l = absurd (omega arith)

  -- each label and each place fits a head
  pub labels-fit : LabelsFit t
  labels-fit = all_map (λ (h : ℕ) (l : h < b.rows). omega (arith, parts.few)) (leaf_handles t) labels-below

  pub places-fit : 2 * leaves t - 1 ≤ head_end
  places-fit = omega (arith, parts.few, parts.powered, accepted-leaves, bounded-few ws b.rows)

  reads : (i : ℕ) (x : LightBVHNode × LightBounds) → node_in 0 invalid_index t i ≡ some x → Reads (nodes_written b) i x
  reads i x e = rw nodes-are (node-read t places-fit labels-fit (sound-records t accepted-sound) i x e)

  pub accepted-read : (i : ℕ) → i < 2 * b.k - 1
      → (x : LightBVHNode × LightBounds) × (node_in 0 invalid_index t i ≡ some x) × Reads (nodes_written b) i x
  accepted-read i l =
      let (x, e) = node_in-some 0 invalid_index t i (omega arith) (omega (arith, accepted-leaves)) in
      (x, e, reads i x e)

  -- the table leads from a powered lamp to a leaf of its label and its record
  pub accepted-table : (x : ℕ) → x < b.rows → T (is_powered ws x)
      → (i : ℕ) × (p : ℕ) × (get_or (table_written b) x 0 ≡ i) × (i < 2 * b.k - 1)
      × (node_at (nodes_written b) i ≡ given (leaf_node x p))
      × (bounds_at (nodes_written b) i ≡ given (light_of ws x))
  accepted-table x l power =
      let n = length (bounded_handles ws b.rows) in
      let (i, place, entry) =
      table-leaf t b.rows x l (powered-once ws n b.rows t parts.labelled built x l power) in
      let (p, c, node) = place_in-node 0 invalid_index t x i place in
      let within = place_in-within 0 t x i place in
      let record_is : c ≡ light_of ws x =
      node_in_record (λ (h : ℕ). light_of ws h) 0 invalid_index t i x p c
      (built-records ws n (bounded_handles ws b.rows) t built
      (bounded-labelled ws b.rows parts.labelled)) node in
      let read = reads i (leaf_node x p, c) node in
      (i, p, rw table_is entry, omega (arith, accepted-leaves), read.0, read.1 ∙ ap given record_is)

  pub accepted_unpowered : (x : ℕ) → x < b.rows → (T (is_powered ws x) → ⊥)
      → get_or (table_written b) x 0 ≡
      invalid_index
  accepted_unpowered x l never =
      rw table_is
      (table-other t b.rows x l
      (others_never ws (length (bounded_handles ws b.rows)) b.rows t parts.labelled built x
      (λ _ power. never power)))
