-- Laws of the build's checks and loops: which reserves are short, what the checks give and refuse, and one row or one
-- node more in each loop. Assumes nothing.
use Prim.Native.Nat.{ℕ, zero, suc, ◌+◌, ◌-◌, ◌/◌, ◌≤◌, ◌<◌, zero-le}
use mathlib.Core.Path.{◌≡◌, refl, ap, subst, sym, ◌∙◌}
use mathlib.Core.Bool.{Bool, true, false, cond, ◌&&◌, ◌||◌}
use mathlib.Core.List.{List, [], ◌∷◌, ◌++◌, append-nil}
use mathlib.Core.Option.{Option}
use native.Mathlib.Numerals.{add-one}
use native.Mathlib.Omega.{arith}
use borrow.Author.Tests.{lt-ltb, le-ltb, ltb-false, eq-eqb, ne_eqb, eqb-true}
use lib.Dec.{T, eqb, ltb}
use lib.ListN.{length, get_or, set, length-append, length-set}
use lib.Seq.{set_out}
use Rattle.std.proofs.lemmas.Bool.{or_right}
use Rattle.words.specs.Answers.{Answer, given, refused, ◌then◌}
use Rattle.words.specs.AsCoded.Fill.{filled}
use Rattle.words.specs.Heads.{kind_of, handle_of}
use Rattle.words.specs.Limits.{max_lamps, crowded}
use Rattle.words.specs.Rows.{below}
use Rattle.words.specs.Tray.{tray}
use Rattle.words.specs.Laws.TrayLaws.{tray-early}
use Rattle.words.proofs.AnswerLaws.{Early, Late, only-given, only-refused, only-cond}
use Rattle.words.proofs.AnswerLaws.{only_then, only-number, then-given, not-both, cond-given, cond-kept}
use Rattle.words.proofs.LimitLaws.{few-lamps}
use Rattle.words.proofs.Reserves.{tray-zeroed}
use Rattle.light_bounds.specs.declared.bounds.Bounds3.{Bounds3}
use Rattle.light_bounds.specs.LightBounds.{validate}
use Rattle.light_bounds.proofs.LateLaws.{late-validate}
use Rattle.light_rows.specs.Block.{block_words, side_at, handle_at, block_layout, block_handles}
use Rattle.light_rows.specs.Nodes.{LightBVHNode, leaf, interior, node_words, node_place, node_of, node_at}
use Rattle.light_rows.specs.Laws.TreeLaws.{node_at-room}
use Rattle.light_split.specs.Lights.{light_of}
use Rattle.words.specs.AsCoded.ListParts.{laid}
use Rattle.words.proofs.ListLaws.{laid_next}
use Rattle.light_bvh.specs.Build.{is_powered, bounded_handles, grown, all_bounds, validated}
use Rattle.light_bvh.specs.Build.{nodes_reserve, work_reserve, is_short, build_check}
use Rattle.light_bvh.specs.AsCoded.Tables.{tabled_below}
use Rattle.light_bvh.specs.Build.{built_bvh, build_light_bvh, nodes_written, table_written, work_written, summary}

-- ---- short reserves

or-false : (a b : Bool) → a || b ≡ false → (a ≡ false) × (b ≡ false)
or-false true b e = (e, absurd (subst T e tt))
or-false false b e = (refl, e)

module _ (m nodes table work : ℕ) where
  pub short-nodes : nodes < nodes_reserve m → is_short m nodes table work ≡ true
  short-nodes h = rw (lt-ltb nodes (nodes_reserve m) h)

  pub short-table : table < m → is_short m nodes table work ≡ true
  short-table h =
      or_right (ltb nodes (nodes_reserve m)) (ltb table m || ltb work (work_reserve m)) (rw (lt-ltb table m h))

  pub short_work : work < work_reserve m → is_short m nodes table work ≡ true
  short_work h =
      or_right (ltb nodes (nodes_reserve m)) (ltb table m || ltb work (work_reserve m))
      (or_right (ltb table m) (ltb work (work_reserve m)) (lt-ltb work (work_reserve m) h))

  pub not_short : nodes_reserve m ≤ nodes → m ≤ table → work_reserve m ≤ work → is_short m nodes table work ≡ false
  not_short h k l = rw (le-ltb nodes (nodes_reserve m) h, le-ltb table m k) (le-ltb work (work_reserve m) l)

  -- what is not short has room
  pub reserves-fit : is_short m nodes table work ≡ false →
      (nodes_reserve m ≤ nodes) × (m ≤ table) × (work_reserve m ≤ work)
  reserves-fit h =
      let (n, h') = or-false (ltb nodes (nodes_reserve m)) (ltb table m || ltb work (work_reserve m)) h in
      let (t, w) = or-false (ltb table m) (ltb work (work_reserve m)) h' in
      (ltb-false nodes (nodes_reserve m) n, ltb-false table m t, ltb-false work (work_reserve m) w)

-- ---- what the checks give

and_left : (a b : Bool) → a && b ≡ true → a ≡ true
and_left true b e = refl
and_left false b e = e

pub layout-count : (ws : List ℕ) (m : ℕ) → block_layout ws ≡ given m
    → (m ≡ get_or ws 0 0) × (m ≤ max_lamps) × (length ws ≡ block_words m)
unfolding block_layout
layout-count ws m e = uncrowded (crowded ws) refl e
  where
    uncrowded : (b : Bool) → crowded ws ≡ b
        → cond b (refused 2) (cond (eqb (length ws) (block_words (get_or ws 0 0)) && below (side_at ws) (get_or ws 0 0))
        (given (get_or ws 0 0)) (refused 1)) ≡ given m
        → (m ≡ get_or ws 0 0) × (m ≤ max_lamps) × (length ws ≡ block_words m)
    uncrowded true c e = absurd (not-both e refl)
    uncrowded false c e =
        let long = eqb (length ws) (block_words (get_or ws 0 0)) in
        let (both, is) = cond-given (long && below (side_at ws) (get_or ws 0 0)) (get_or ws 0 0) 1 m e in
        let size = eqb-true (length ws) (block_words (get_or ws 0 0))
        (and_left long (below (side_at ws) (get_or ws 0 0)) both) in
        (sym is, omega (arith, few-lamps ws c, is), size ∙ ap (λ (k : ℕ). block_words k) is)

pub handles-count : (ws : List ℕ) (m : ℕ) → block_handles ws ≡ given m → m ≡ get_or ws 0 0
unfolding block_handles
handles-count ws m e = sym (cond-given (below (handle_at ws) (get_or ws 0 0)) (get_or ws 0 0) 4 m e).1

early_layout : (ws : List ℕ) → Early (block_layout ws)
unfolding block_layout
early_layout ws =
    let m = get_or ws 0 0 in
    only-cond (crowded ws) (only-refused (omega arith))
    (only-cond (eqb (length ws) (block_words m) && below (side_at ws) m) only-given (only-refused (omega arith)))

early-handles : (ws : List ℕ) → Early (block_handles ws)
unfolding block_handles
early-handles ws = only-cond (below (handle_at ws) (get_or ws 0 0)) only-given (only-refused (omega arith))

module _ (lights : ℕ) (ws : List ℕ) (nodes table work : ℕ) where
  pub early_build : Early (build_check lights ws nodes table work)
  unfolding build_check
  early_build =
      only_then (early_layout ws)
      (λ m. only_then (only-cond (eqb lights m) only-given (only-refused (omega arith)))
      (λ _. only_then (early-handles ws)
      (λ m. only-cond (is_short m nodes table work) (only-refused (omega arith)) only-given)))

  pub build-checked : (m : ℕ) → build_check lights ws nodes table work ≡ given m
      → (m ≡ get_or ws 0 0) × (lights ≡ m) × (m ≤ max_lamps) × (length ws ≡ block_words m)
      × (block_handles ws ≡ given m) × (is_short m nodes table work ≡ false)
  unfolding build_check
  build-checked m e =
      let reserves : ℕ → Answer ℕ = λ m. cond (is_short m nodes table work) (refused 3) (given m) in
      let rows : ℕ → Answer ℕ = λ _. block_handles ws then reserves in
      let records : ℕ → Answer ℕ = λ m. cond (eqb lights m) (given m) (refused 1) then rows in
      let (a, layout, e₁) = then-given (block_layout ws) records m e in
      let (b, lamps, e₂) = then-given (cond (eqb lights a) (given a) (refused 1)) rows m e₁ in
      let (k, handles, e₃) = then-given (block_handles ws) reserves m e₂ in
      let (short, is) = cond-kept (is_short k nodes table work) k 3 m e₃ in
      let (first, few, long) = layout-count ws a layout in
      let same = handles-count ws k handles in
      let count : a ≡ m = omega arith in
      let room = subst (λ (j : ℕ). is_short j nodes table work ≡ false) is short in
      let each = eqb-true lights a (cond-given (eqb lights a) a 1 b lamps).0 ∙ count in
      (sym is ∙ same, each, omega arith, rw count at long, handles ∙ ap given is, room)

  pub rows-fit : (m : ℕ) → build_check lights ws nodes table work ≡ given m →
      (nodes_reserve m ≤ nodes) × (m ≤ table) × (work_reserve m ≤ work)
  rows-fit m e =
      let (is, each, few, long, handles, short) = build-checked m e in
      reserves-fit m nodes table work short

  -- by the count of the rows alone
  pub check-again : (m : ℕ) → build_check lights ws nodes table work ≡ given m
      → build_check (get_or ws 0 0) ws nodes table work ≡ given (get_or ws 0 0)
  check-again m e =
      let (is, each, few, long, handles, short) = build-checked m e in
      subst (λ (k : ℕ). build_check k ws nodes table work ≡ given k) is
      (subst (λ (k : ℕ). build_check k ws nodes table work ≡ given m) each e)

-- ---- each record's check

stays : (ws : List ℕ) (i k n : ℕ) → validated ws (suc i) ≡ refused n → validated ws (k + suc i) ≡ refused n
unfolding validated ◌then◌
stays ws i zero n h = let e : 0 + suc i ≡ suc i = omega arith in rw e h
stays ws i (suc k) n h = let e : suc k + suc i ≡ suc (k + suc i) = omega arith in rw (e, stays ws i k n h)

-- the first that is refused refuses them all
pub validated-refused : (ws : List ℕ) (m i n : ℕ) → i < m → validated ws i ≡ given tt →
    validate (light_of ws i) ≡ refused n → validated ws m ≡ refused n
unfolding validated ◌then◌
validated-refused ws m i n h all one =
    let p : m - suc i + suc i ≡ m = omega arith in
    subst (λ (k : ℕ). validated ws k ≡ refused n) p (stays ws i (m - suc i) n (rw all one))

pub validated-next : (ws : List ℕ) (i : ℕ) → validated ws i ≡ given tt → validate (light_of ws i) ≡ given tt →
    validated ws (i + 1) ≡ given tt
unfolding validated ◌then◌
validated-next ws i all one = rw (add-one i, all) one

pub late-validated : (ws : List ℕ) (m : ℕ) → Late (validated ws m)
unfolding validated
late-validated ws zero = only-given
late-validated ws (suc m) = only_then (late-validated ws m) (λ _. late-validate (light_of ws m))

-- ---- the powered lamps

module _ (ws : List ℕ) (i : ℕ) where
  pub bounded_in : is_powered ws i ≡ true → bounded_handles ws (i + 1) ≡ bounded_handles ws i ++ (i ∷ [])
  unfolding bounded_handles
  bounded_in e = rw (add-one i, e)

  pub bounded-out : is_powered ws i ≡ false → bounded_handles ws (i + 1) ≡ bounded_handles ws i
  unfolding bounded_handles
  bounded-out e = rw (add-one i, e) (append-nil (bounded_handles ws i))

  pub all_in : is_powered ws i ≡ true → all_bounds ws (i + 1) ≡ grown (all_bounds ws i) (light_of ws i).bounds
  unfolding all_bounds
  all_in e = rw (add-one i, e)

  pub all-out : is_powered ws i ≡ false → all_bounds ws (i + 1) ≡ all_bounds ws i
  unfolding all_bounds
  all-out e = rw (add-one i, e)

-- of the first i rows of m the handles stand at the front of hs
pub record Gathering (ws : List ℕ) (m : ℕ) (hs hs' : List ℕ) (k i : ℕ) : Type 0 where
  pub within : i ≤ m
  pub room : m ≤ length hs
  pub few : k ≤ i
  pub same : length hs' ≡ length hs
  pub count : k ≡ length (bounded_handles ws i)
  pub is : hs' ≡ laid (bounded_handles ws i) hs

pub gathering-none : (ws : List ℕ) (m : ℕ) (hs : List ℕ) → m ≤ length hs → Gathering ws m hs hs 0 0
unfolding bounded_handles
gathering-none ws m hs h = record { within = zero-le; room = h; few = zero-le; same = refl; count = refl; is = refl }

module _ {ws hs hs' : List ℕ} {m k i : ℕ} (g : Gathering ws m hs hs' k i) where
  pub gathering_in : i < m → is_powered ws i ≡ true → Gathering ws m hs (set hs' k i) (k + 1) (i + 1)
  gathering_in h e =
      let more = bounded_in ws i e in
      record {
        within = omega arith;
        room = g.room;
        few = omega arith;
        same = length-set hs' k i ∙ g.same;
        count = rw (more, length-append (bounded_handles ws i) (i ∷ [])) (omega arith);
        is = rw (more, g.is, g.count) (laid_next (bounded_handles ws i) hs i (omega arith));
      }

  pub gathering-out : i < m → is_powered ws i ≡ false → Gathering ws m hs hs' k (i + 1)
  gathering-out h e =
      let out = bounded-out ws i e in
      record {
        within = omega arith;
        room = g.room;
        few = omega arith;
        same = g.same;
        count = rw out g.count;
        is = rw out g.is;
      }

  pub gathering-all : m ≤ i → (k ≡ length (bounded_handles ws m)) × (hs' ≡ laid (bounded_handles ws m) hs)
  gathering-all h =
      let e : i ≡ m = omega arith in
      (g.count ∙ rw e, g.is ∙ rw e)

-- ---- the handle table

module _ (ws : List ℕ) (i : ℕ) (table : List ℕ) where
  pub tabled-leaf : kind_of (get_or ws (node_place i) 0) ≡ 1
      → tabled_below ws (i + 1) table ≡ set (tabled_below ws i table) (handle_of (get_or ws (node_place i) 0)) i
  unfolding tabled_below
  tabled-leaf e = rw (add-one i, eq-eqb (kind_of (get_or ws (node_place i) 0)) 1 e)

  pub tabled-past : kind_of (get_or ws (node_place i) 0) ≡ 1 →
      length (tabled_below ws i table) ≤ handle_of (get_or ws (node_place i) 0)
      → tabled_below ws (i + 1) table ≡ tabled_below ws i table
  tabled-past e h = tabled-leaf e ∙ set_out (tabled_below ws i table) (handle_of (get_or ws (node_place i) 0)) i h

  pub tabled-other : (kind_of (get_or ws (node_place i) 0) ≡ 1 → ⊥)
      → tabled_below ws (i + 1) table ≡ tabled_below ws i
      table
  unfolding tabled_below
  tabled-other e = rw (add-one i, ne_eqb (kind_of (get_or ws (node_place i) 0)) 1 e)

-- a node more: its place at its label where it is a leaf
abbrev pub labelled : Answer LightBVHNode → ℕ → List ℕ → List ℕ
labelled (given (leaf h p)) i table = set table h i
labelled (given (interior l r p)) i table = table
labelled (refused n) i table = table

by-kind : (a b : Bool) (h r p i : ℕ) (before : List ℕ) → cond a (set before h i) before ≡
    labelled (cond a (given (leaf h p)) (cond b (given (interior h r p)) (refused 12))) i before
by-kind true b h r p i before = refl
by-kind false true h r p i before = refl
by-kind false false h r p i before = refl

pub tabled-node : (ws : List ℕ) (i : ℕ) (table : List ℕ) → i < length ws / node_words
    → tabled_below ws (i + 1) table ≡ labelled (node_at ws i) i (tabled_below ws i table)
unfolding tabled_below node_of
tabled-node ws i table h =
    let head = get_or ws (node_place i) 0 in
    rw (add-one i, node_at-room ws i h)
    (by-kind (eqb (kind_of head) 1) (eqb (kind_of head) 2) (handle_of head) _ _ i (tabled_below ws i table))

-- ---- the whole

module _ (lights : ℕ) (ws nodes table work : List ℕ) where
  -- what is to be shown of an answer and of what is left in the lent words
  abbrev pub Outcome : Answer (ℕ × Option Bounds3) → List ℕ → List ℕ → List ℕ → Type 0
  Outcome r nodes' table' work' =
      let answer = build_light_bvh lights ws (length nodes) (length table) (length work) in
      let m = get_or ws 0 0 in
      (r ≡ summary answer) × ((nodes' ≡ tray nodes_written (nodes_reserve m) answer nodes) ×
      ((table' ≡ tray table_written m answer table)
      × (work' ≡ tray work_written (work_reserve m) answer work)))

  -- a check of the block or of the lent words refuses
  pub outcome-early : (n : ℕ) → build_check lights ws (length nodes) (length table) (length work) ≡ refused n →
      Outcome (refused n) nodes table work
  unfolding build_light_bvh ◌then◌
  outcome-early n e =
      let m = get_or ws 0 0 in
      let h = only-number (early_build lights ws (length nodes) (length table) (length work)) e in
      rw e (
        refl,
        (
          sym (tray-early nodes_written (nodes_reserve m) nodes n h),
          (sym (tray-early table_written m table n h), sym (tray-early work_written (work_reserve m) work n h)),
        ),
      )

  module _ {m : ℕ} (checked : build_check lights ws (length nodes) (length table) (length work) ≡ given m)
      {nodes' table' work' : List ℕ} where
    -- a record is refused
    pub outcome_late : (n : ℕ) → validated ws (get_or ws 0 0) ≡ refused n →
        nodes' ≡ filled nodes 0 (nodes_reserve (get_or ws 0 0)) 0 → table' ≡ filled table 0 (get_or ws 0 0) 0
        → work' ≡ filled work 0 (work_reserve (get_or ws 0 0)) 0 → Outcome (refused n) nodes' table' work'
    unfolding build_light_bvh ◌then◌
    outcome_late n e en et ew =
        let (is, each, few, long, handles, short) =
        build-checked lights ws (length nodes) (length table) (length work) m checked in
        let (a, b, c) = rows-fit lights ws (length nodes) (length table) (length work) m checked in
        let h = only-number (late-validated ws (get_or ws 0 0)) e in
        rw (checked, is, e) (
          refl,
          (
            en ∙ tray-zeroed nodes_written (nodes_reserve (get_or ws 0 0)) nodes nodes n (rw is at a) refl h,
            (
              et ∙ tray-zeroed table_written (get_or ws 0 0) table table n (rw is at b) refl h,
              ew ∙ tray-zeroed work_written (work_reserve (get_or ws 0 0)) work work n (rw is at c) refl h,
            ),
          ),
        )

    -- the rows behind the checks
    pub outcome-rows : {r : Answer (ℕ × Option Bounds3)} → validated ws (get_or ws 0 0) ≡ given tt →
        r ≡ summary (built_bvh ws (get_or ws 0 0))
        → nodes' ≡ tray nodes_written (nodes_reserve (get_or ws 0 0)) (built_bvh ws (get_or ws 0 0)) nodes →
        table' ≡ tray table_written (get_or ws 0 0) (built_bvh ws (get_or ws 0 0)) table
        → work' ≡ tray work_written (work_reserve (get_or ws 0 0)) (built_bvh ws (get_or ws 0 0)) work →
        Outcome r nodes' table' work'
    unfolding build_light_bvh ◌then◌
    outcome-rows e er en et ew =
        let (is, each, few, long, handles, short) =
        build-checked lights ws (length nodes) (length table) (length work) m checked in
        rw (checked, is, e) (er, (en, (et, ew)))
