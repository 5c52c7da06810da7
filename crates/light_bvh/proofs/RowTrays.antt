-- What `build_rows` comes to and leaves, where no row is powered (`rows_none`), where there is a tree (`rows-tree`) and
-- where a union is lost (`rows_lost`). What the code lends is the front of each slice, so what is behind the reserves
-- stays whatever the call leaves in front (`behind`). Assumes nothing.
use Prim.Native.Nat.{ℕ, ◌+◌, ◌*◌, ◌-◌, ◌/◌, ◌≤◌, ◌<◌}
use mathlib.Core.Path.{◌≡◌, refl, ap, sym, ◌∙◌}
use mathlib.Core.List.{List, [], ◌∷◌, ◌++◌, append_assoc}
use mathlib.Core.Option.{Option, none, some}
use native.Mathlib.Omega.{arith}
use lib.ListN.{length, take, drop, replicate, length-append, length-drop, length-replicate}
use lib.Seq.{length-take-le, take_at, drop-append-add, drop-drop}
use Rattle.words.specs.Answers.{Answer, given, refused, ◌then◌}
use Rattle.words.specs.AsCoded.Fill.{filled}
use Rattle.words.specs.Tray.{tray}
use Rattle.words.specs.Laws.TrayLaws.{tray-full}
use Rattle.words.proofs.AnswerLaws.{only-number}
use Rattle.words.proofs.FillLaws.{filled_within}
use Rattle.words.proofs.Reserves.{zeroed, tray-zeroed}
use Rattle.light_bounds.specs.declared.bounds.Bounds3.{Bounds3}
use Rattle.light_rows.specs.Block.{block_words, block_handles}
use Rattle.light_rows.specs.Nodes.{node_words, invalid_index}
use Rattle.light_rows.specs.Tree.{Tree, leaves, tree_words}
use Rattle.light_rows.specs.Laws.TreeLaws.{length-flatten}
use Rattle.words.specs.AsCoded.ListParts.{laid}
use Rattle.light_bvh.specs.Subtree.{build_subtree}
use Rattle.light_bvh.specs.AsCoded.Stretches.{done, subtree_words}
use Rattle.light_bvh.specs.Build.{bounded_handles, all_bounds, LightBVH, tree_of, built_bvh}
use Rattle.light_bvh.specs.Build.{nodes_reserve, work_reserve, nodes_written, table_written}
use Rattle.light_bvh.specs.Build.{build_check, work_written, summary}
use Rattle.light_bvh.specs.AsCoded.Tables.{tabled_below}
use Rattle.light_bvh.proofs.BuildLaws.{build-checked, rows-fit}
use Rattle.light_bvh.proofs.LateLaws.{late-tree}
use Rattle.light_bvh.proofs.RowsLaws.{bounds-none, bounds_some, bounded-few}
use Rattle.light_bvh.proofs.RowsLaws.{bounded-below, labels-below}
use Rattle.light_bvh.proofs.SubtreeLaws.{build-size, given-of, refused-of, done-moved, words-moved}
use Rattle.light_bvh.proofs.TableLaws.{Labels, labels-map, Thirty}
use Rattle.light_bvh.proofs.TableLaws.{tabled-front-tree, tabled-front, length-tabled}

-- ---- the front of a slice is another's

module _ (x l : List ℕ) (n : ℕ) (e : length x ≡ n) where
  pub behind : (r : ℕ) → n ≤ r → drop r (x ++ drop n l) ≡ drop r l
  behind r h =
      let p : r ≡ length x + (r - n) = omega arith in
      let q : n + (r - n) ≡ r = omega arith in
      ap (λ (k : ℕ). drop k (x ++ drop n l)) p ∙ drop-append-add x (drop n l) (r - n) ∙ drop-drop (r - n) n l ∙
      ap (λ (k : ℕ). drop k l) q

  pub front_length : n ≤ length l → length (x ++ drop n l) ≡ length l
  front_length h = length-append x (drop n l) ∙ omega (arith, length-drop n l)

-- ---- trays

-- values in front of what is behind a reserve
pub valued : (l rest : List ℕ) (n v : ℕ) → n ≤ length l → drop n l ≡ rest → filled l 0 n v ≡ replicate n v ++ rest
valued l rest n v h e =
    let z : n - 0 ≡ n = omega arith in
    filled_within l 0 n v (omega arith) h ∙ rw (z, e)

module _ {A : Type 0} (written : A → List ℕ) (reserve : ℕ) (before : List ℕ) (a : A) where
  -- nothing to write
  pub tray-empty : (l : List ℕ) → written a ≡ [] → reserve ≤ length l → drop reserve l ≡ drop reserve before
      → filled l 0 reserve 0 ≡ tray written reserve (given a) before
  unfolding tray
  tray-empty l nothing h e =
      let z : reserve - 0 ≡ reserve = omega arith in
      zeroed l (drop reserve before) reserve h e ∙ rw (nothing, z)

  -- written to the front, and zeros behind it
  pub tray-front : (n : ℕ) → length (written a) ≡ n → n ≤ reserve → reserve ≤ length before
      → filled (written a ++ drop n before) n reserve 0 ≡ tray written reserve (given a) before
  unfolding tray
  tray-front n e h k =
      filled_within (written a ++ drop n before) n reserve 0 h
      (rw (front_length (written a) before n e (omega arith)) k)
      ∙ rw (take_at (written a) (drop n before) n e, behind (written a) before n e reserve h, e)
      (sym (append_assoc (written a) (replicate (reserve - n) 0) (drop reserve before)))

-- ---- the answer

tree-none : (ws hs : List ℕ) → length hs ≡ 0 → tree_of ws hs ≡ given none
unfolding tree_of
tree-none ws [] e = refl
tree-none ws (h ∷ hs) e = absurd (omega arith)

tree-some : (ws hs : List ℕ) → 0 < length hs →
    tree_of ws hs ≡ build_subtree ws (length hs) hs then λ (t : Tree). given (some t)
unfolding tree_of
tree-some ws [] h = absurd (omega arith)
tree-some ws (x ∷ hs) h = refl

abbrev pub no_tree : ℕ → LightBVH
no_tree m = record { rows = m; k = 0; all-bounds = none; tree = none }

abbrev pub tree_for : List ℕ → ℕ → Tree → LightBVH
tree_for ws m t = record { rows = m; k = length (bounded_handles ws m); all-bounds = all_bounds ws m; tree = some t }

module _ (ws : List ℕ) (m : ℕ) where
  pub built-none : length (bounded_handles ws m) ≡ 0 → built_bvh ws m ≡ given (no_tree m)
  unfolding built_bvh ◌then◌
  built-none e = rw (tree-none ws (bounded_handles ws m) e, e, bounds-none ws m e)

  module _ (any : 0 < length (bounded_handles ws m)) where
    pub built-tree : (t : Tree) → build_subtree ws (length (bounded_handles ws m)) (bounded_handles ws m) ≡ given t →
        built_bvh ws m ≡ given (tree_for ws m t)
    unfolding built_bvh ◌then◌
    built-tree t e = rw (tree-some ws (bounded_handles ws m) any, e)

    pub built_lost : (n : ℕ) → build_subtree ws (length (bounded_handles ws m)) (bounded_handles ws m) ≡ refused n →
        built_bvh ws m ≡ refused n
    unfolding built_bvh ◌then◌
    built_lost n e = rw (tree-some ws (bounded_handles ws m) any, e)

-- ---- the nodes and the table of a tree

module _ (ws : List ℕ) (m : ℕ) (t : Tree) where
  -- the nodes behind which the reserve is zeroed
  pub nodes-tray : (before : List ℕ) (end : ℕ) → end + node_words ≡ node_words * (2 * leaves t) → leaves t ≤ m →
      nodes_reserve m ≤ length before
      → filled (tree_words t ++ drop end before) end (nodes_reserve m) 0 ≡
      tray nodes_written (nodes_reserve m) (given (tree_for ws m t)) before
  unfolding nodes_written
  nodes-tray before end e few room =
      tray-front nodes_written (nodes_reserve m) before (tree_for ws m t) end
      (omega (arith, length-flatten 0 invalid_index t)) (omega arith) room

  -- the table: what is behind the reserve stays
  pub table-tray : (before : List ℕ) → Labels (λ (h : ℕ). h < m) t → m ≤ 4096
      → tabled_below (tree_words t) (2 * leaves t - 1) (replicate m invalid_index ++ drop m before)
      ≡ tray table_written m (given (tree_for ws m t)) before
  unfolding table_written
  table-tray before small few =
      let xs = replicate m invalid_index in
      let size : length xs ≡ m = length-replicate m invalid_index in
      tabled-front-tree t (xs ++ drop m before)
      (labels-map {P = λ (h : ℕ). h < m} {Q = Thirty} (λ h l. omega arith) t small)
      ∙ tabled-front m 0 t xs (drop m before) size small
      ∙ sym (tray-full table_written m before (tree_for ws m t) (length-tabled 0 t xs ∙ size))

-- ---- behind the gathering

-- the rows are checked, there is room, and the powered rows' handles stand in front of the table
pub record Gathered (ws : List ℕ) (m : ℕ) (nodes table work table' : List ℕ) (k : ℕ) : Type 0 where
  pub few : m ≤ 4096
  pub long : length ws ≡ block_words m
  pub checked : block_handles ws ≡ given m
  pub room-nodes : nodes_reserve m ≤ length nodes
  pub room-table : m ≤ length table
  pub room_work : work_reserve m ≤ length work
  pub count : k ≡ length (bounded_handles ws m)
  pub within : k ≤ m
  pub same : length table' ≡ length table
  pub is : table' ≡ laid (bounded_handles ws m) table

pub gathered : (ws : List ℕ) (m : ℕ) (nodes table work table' : List ℕ) (k : ℕ)
    → build_check m ws (length nodes) (length table) (length work) ≡ given m
    → k ≡ length (bounded_handles ws m) → table' ≡ laid (bounded_handles ws m) table
    → Gathered ws m nodes table work table' k
gathered ws m nodes table work table' k e count as_laid =
    let (is, each, few, long, checked, room) = build-checked m ws (length nodes) (length table) (length work) m e in
    let (n, t, w) = rows-fit m ws (length nodes) (length table) (length work) m e in
    let small = bounded-few ws m in
    record {
      few = few;
      long = long;
      checked = checked;
      room-nodes = n;
      room-table = t;
      room_work = w;
      count = count;
      within = omega arith;
      same =
          ap length as_laid ∙
          front_length (bounded_handles ws m) table (length (bounded_handles ws m)) refl (omega arith);
      is = as_laid;
    }

-- what is to be shown of an answer and what is left in the slices
abbrev pub Done : (ws : List ℕ) (m : ℕ) (nodes table work : List ℕ) → Answer (ℕ × Option Bounds3) → List ℕ → List ℕ →
    List ℕ → Type 0
Done ws m nodes table work answer nodes'' table'' work'' =
    (answer ≡ summary (built_bvh ws m)) × ((nodes'' ≡ tray nodes_written (nodes_reserve m) (built_bvh ws m) nodes)
    × ((table'' ≡ tray table_written m (built_bvh ws m) table) ×
    (work'' ≡ tray work_written (work_reserve m) (built_bvh ws m) work)))

-- the nodes of k leaves
abbrev pub end_of : ℕ → ℕ
end_of k = 16 * (2 * k - 1)

module _ {ws : List ℕ} {m : ℕ} {nodes table work table' : List ℕ} {k : ℕ} (g : Gathered ws m nodes table work table' k)
  where
    -- behind the reserve the table is as it was
    rest-table : drop m table' ≡ drop m table
    rest-table =
        let hs = bounded_handles ws m in
        ap (drop m) g.is ∙ behind hs table (length hs) refl m (omega (arith, g.count, g.within))

    pub rows_none : k ≡ 0 → {nodes'' table'' table''' work'' : List ℕ} → nodes'' ≡ filled nodes 0 (nodes_reserve m) 0 →
        table'' ≡ filled table' 0 m 0
        → table''' ≡ filled table'' 0 m invalid_index → work'' ≡ filled work 0 (work_reserve m) 0
        → Done ws m nodes table work (given (0, none)) nodes'' table''' work''
    unfolding nodes_written table_written
    rows_none empty {nodes''} {table''} {table'''} {work''} en et ef ew =
        let zeros : table'' ≡ replicate m 0 ++ drop m table = et ∙
        zeroed table' (drop m table) m (omega (arith, g.room-table, g.same)) rest-table in
        let rest : drop m table'' ≡ drop m table = ap (drop m) zeros ∙
        behind (replicate m 0) table m (length-replicate m 0) m (omega arith) in
        let size : length table'' ≡ length table = ap length zeros ∙
        front_length (replicate m 0) table m (length-replicate m 0) g.room-table in
        rw (built-none ws m (sym g.count ∙ empty)) (
          refl,
          (
            en ∙ tray-empty nodes_written (nodes_reserve m) nodes (no_tree m) nodes refl g.room-nodes refl,
            (
              ef ∙ valued table'' (drop m table) m invalid_index (omega (arith, g.room-table)) rest
                  ∙ sym (tray-full table_written m table (no_tree m) (length-replicate m invalid_index)),
              ew ∙ tray-empty work_written (work_reserve m) work (no_tree m) work refl g.room_work refl,
            ),
          ),
        )

    -- the front of the table is the powered rows' handles
    pub front-is : take (k - 0) table' ≡ bounded_handles ws m
    front-is =
        let hs = bounded_handles ws m in
        ap (take (k - 0)) g.is ∙ take_at hs (drop (length hs) table) (k - 0) (omega (arith, g.count))

    pub table-front : length (take (k - 0) table') ≡ k
    table-front = ap length front-is ∙ sym g.count

    work-front : length (take (k - 0) work) ≡ k
    work-front = length-take-le (k - 0) work (omega (arith, g.within, g.room_work)) ∙ omega arith

    nodes-front : length (take (end_of k - 0) nodes) ≡ end_of k
    nodes-front = length-take-le (end_of k - 0) nodes (omega (arith, g.within, g.room-nodes)) ∙ omega arith

-- ---- behind the tree

-- the fronts of the table, the work and the nodes were lent for a tree, and are now hx, wx, nx
pub record Lent (ws : List ℕ) (m : ℕ) (nodes table work table' : List ℕ) (k : ℕ) (hx wx nx : List ℕ) : Type 0 where
  pub gathered : Gathered ws m nodes table work table' k
  pub some : 0 < k
  pub same-table : length hx ≡ length (take (k - 0) table')
  pub same_work : length wx ≡ length (take (k - 0) work)
  pub same_nodes : length nx ≡ length (take (end_of k - 0) nodes)

module _ {ws : List ℕ} {m : ℕ} {nodes table work table' : List ℕ} {k : ℕ} {hx wx nx : List ℕ}
    (l : Lent ws m nodes table work table' k hx wx nx) where
  -- what is left of each slice, and behind its reserve
  table_here : length hx ≡ k - 0
  table_here = l.same-table ∙ table-front l.gathered ∙ omega arith

  pub table-size : length (hx ++ drop (k - 0) table') ≡ length table
  table-size =
      let g = l.gathered in
      front_length hx table' (k - 0) table_here (omega (arith, g.within, g.room-table, g.same)) ∙ g.same

  table-rest : drop m (hx ++ drop (k - 0) table') ≡ drop m table
  table-rest = let g = l.gathered in behind hx table' (k - 0) table_here m (omega (arith, g.within)) ∙ rest-table g

  work-here : length wx ≡ k - 0
  work-here = l.same_work ∙ work-front l.gathered ∙ omega arith

  pub work-size : length (wx ++ drop (k - 0) work) ≡ length work
  work-size = let g = l.gathered in front_length wx work (k - 0) work-here (omega (arith, g.within, g.room_work))

  work-rest : drop (work_reserve m) (wx ++ drop (k - 0) work) ≡ drop (work_reserve m) work
  work-rest = let g = l.gathered in behind wx work (k - 0) work-here (work_reserve m) (omega (arith, g.within))

  pub nodes-here : length nx ≡ end_of k - 0
  nodes-here = l.same_nodes ∙ nodes-front l.gathered ∙ omega arith

  pub nodes-size : length (nx ++ drop (end_of k - 0) nodes) ≡ length nodes
  nodes-size =
      let g = l.gathered in front_length nx nodes (end_of k - 0) nodes-here (omega (arith, g.within, g.room-nodes))

  nodes-rest : drop (nodes_reserve m) (nx ++ drop (end_of k - 0) nodes) ≡ drop (nodes_reserve m) nodes
  nodes-rest =
      let g = l.gathered in behind nx nodes (end_of k - 0) nodes-here (nodes_reserve m) (omega (arith, g.within))

  any : 0 < length (bounded_handles ws m)
  any = omega (arith, l.gathered.count, l.some)

  -- a union is lost
  pub rows_lost : (n : ℕ) →
      refused n ≡ done (build_subtree ws (length (take (k - 0) table')) (take (k - 0) table')) →
      {nodes'' table'' work'' : List ℕ} →
      nodes'' ≡ filled (nx ++ drop (end_of k - 0) nodes) 0 (nodes_reserve m) 0
      → table'' ≡ filled (hx ++ drop (k - 0) table') 0 m 0
      → work'' ≡ filled (wx ++ drop (k - 0) work) 0
      (work_reserve m) 0
      → Done ws m nodes table work (refused n) nodes'' table'' work''
  rows_lost n told en et ew =
      let g = l.gathered in
      let hs = bounded_handles ws m in
      let e = refused-of (build_subtree ws (length hs) hs) n (done-moved ws (take (k - 0) table') hs _
      (front-is g) told) in
      let late = only-number (late-tree ws (length hs) hs) e in
      rw (built_lost ws m any n e) (
        refl,
        (
          en ∙ tray-zeroed nodes_written (nodes_reserve m) nodes _ n (omega (arith, nodes-size, g.room-nodes))
              nodes-rest late,
          (
            et ∙ tray-zeroed table_written m table _ n (omega (arith, table-size, g.room-table)) table-rest late,
            ew ∙ tray-zeroed work_written (work_reserve m) work _ n (omega (arith, work-size, g.room_work)) work-rest
                late,
          ),
        ),
      )

  -- a tree
  module _ (t : Tree) (e : build_subtree ws (length (bounded_handles ws m)) (bounded_handles ws m) ≡ given t) where
    size : leaves t ≡ k
    size = build-size ws (length (bounded_handles ws m)) (bounded_handles ws m) t e ∙ sym l.gathered.count

    nodes-left : {nodes'' : List ℕ} → nx ≡ tree_words t →
        nodes'' ≡ filled (nx ++ drop (end_of k - 0) nodes) (end_of k) (nodes_reserve m) 0
        → nodes'' ≡ tray nodes_written (nodes_reserve m) (given (tree_for ws m t)) nodes
    nodes-left whole en =
        let g = l.gathered in
        let z : end_of k - 0 ≡ end_of k = omega arith in
        let n = size in
        en ∙ rw (whole, z) (nodes-tray ws m t nodes (end_of k) (omega (arith, l.some)) (omega (arith, g.within))
        g.room-nodes)

    table-left : {table'' table''' : List ℕ} → nx ≡ tree_words t
        → table'' ≡ filled (hx ++ drop (k - 0) table') 0 m invalid_index
        → table''' ≡ tabled_below nx (2 * k - 1) table''
        → table''' ≡ tray table_written m (given (tree_for ws m t)) table
    table-left whole et el =
        let g = l.gathered in
        let hs = bounded_handles ws m in
        let small = labels-below ws m g.checked (length hs) hs t (bounded-below ws m) e in
        let cleared = valued (hx ++ drop (k - 0) table') (drop m table) m invalid_index
        (omega (arith, table-size, g.room-table)) table-rest in
        el ∙ rw (whole, et ∙ cleared, ← size) (table-tray ws m t table small g.few)

    tree-left : {nodes'' table'' table''' work'' : List ℕ} → nx ≡ tree_words t
        → table'' ≡ filled (hx ++ drop (k - 0) table') 0 m invalid_index
        → table''' ≡ tabled_below nx (2 * k - 1) table''
        → nodes'' ≡ filled (nx ++ drop (end_of k - 0) nodes) (end_of k) (nodes_reserve m) 0
        → work'' ≡ filled (wx ++ drop (k - 0) work) 0 (work_reserve m) 0
        → (box : Bounds3) → some box ≡ all_bounds ws m
        → Done ws m nodes table work (given (k, some box)) nodes'' table''' work''
    tree-left whole et el en ew box is =
        let g = l.gathered in
        let clean = tray-empty work_written (work_reserve m) work (tree_for ws m t) _ refl
        (omega (arith, work-size, g.room_work)) work-rest in
        rw (built-tree ws m any t e)
        (rw (← g.count, ← is) refl, (nodes-left whole en, (table-left whole et el, ew ∙ clean)))

  -- the nodes that were built are read for the table
  pub nodes-built : take (end_of k) (nx ++ drop (end_of k - 0) nodes) ≡ nx
  nodes-built = take_at nx (drop (end_of k - 0) nodes) (end_of k) (nodes-here ∙ omega arith)

  pub rows-tree : given tt ≡ done (build_subtree ws (length (take (k - 0) table')) (take (k - 0) table'))
      → nx ≡ subtree_words 0 invalid_index (build_subtree ws (length (take (k - 0) table')) (take (k - 0) table')) nx
      → {nodes'' table'' table''' work'' : List ℕ}
      → table'' ≡ filled (hx ++ drop (k - 0) table') 0 m invalid_index
      → table''' ≡ tabled_below nx (length nx / node_words) table''
      → nodes'' ≡ filled (nx ++ drop (end_of k - 0) nodes) (end_of k) (nodes_reserve m) 0
      → work'' ≡ filled (wx ++ drop (k - 0) work) 0 (work_reserve m) 0
      → (box : Bounds3) → some box ≡ all_bounds ws m
      → Done ws m nodes table work (given (k, some box)) nodes'' table''' work''
  rows-tree told words et el en ew box is =
      let hs = bounded_handles ws m in
      let front = front-is l.gathered in
      let (t, e) = given-of (build_subtree ws (length hs) hs) (done-moved ws (take (k - 0) table') hs _ front told) in
      let whole = words-moved ws (take (k - 0) table') hs 0 invalid_index nx front words ∙
      ap (λ (x : Answer Tree). subtree_words 0 invalid_index x nx) e in
      let count : length nx / node_words ≡ 2 * k - 1 = omega (arith, nodes-here) in
      tree-left t e whole et (rw count at el) en ew box is

  -- where there is a tree there is a box
  pub rows-boxed : (box : Bounds3) × (all_bounds ws m ≡ some box)
  rows-boxed = bounds_some ws m any
