-- Laws of lists and their blocks. A list whose lamps are each accepted gives a block of as many records as word 0 says,
-- in order, record i with handle i, and only such a list does (`accepted-list`, `list_accepted`, `block_at`). An
-- accepted block passes its own reading, and each record is found as it was (`block-checked`, `block_read`); of any
-- block whose layout passes, each record below its count is found (`record-found`). Assumes nothing.
use Rattle.std.specs.Prelude.{ℕ, zero, suc, ◌+◌, ◌*◌, ◌≤◌, ◌<◌, ◌≡◌, refl, Bool, true, false, cond, ◌&&◌, T, leb, eqb}
use Rattle.std.specs.Prelude.{List, [], ◌∷◌, ◌++◌, length, get_or, drop}
use Rattle.std.proofs.Common.{ap, subst, sym, ◌∙◌, arith, le-leb, le-ltb, leb-true, eq-eqb, eqb-true, get_or-drop}
use Rattle.words.specs.Answers.{given, refused, ◌then◌}
use Rattle.words.specs.Limits.{max_lamps, max_words, crowded}
use Rattle.words.specs.Rows.{rows_from, below}
use Rattle.words.proofs.AnswerLaws.{then-given, given_injective, not-both, gives-value}
use Rattle.words.proofs.LimitLaws.{few-lamps}
use Rattle.words.proofs.RowLaws.{row_at, below_true, below_at}
use Rattle.light_rows.specs.Laws.RecordLaws.{RecordFits, reread, read-words, behind_record}
use Rattle.light_rows.specs.RecordWords.{record_words, read_record, record_list, side_place}
use Rattle.light_bounds.specs.Side.{side_known}
use Rattle.light_bounds.specs.Laws.SideLaws.{side-known}
use Rattle.light_bounds.specs.declared.light_bounds.LightBounds.{LightBounds}
use Rattle.light_rows.specs.Laws.RecordPlaces.{record_at-found}
use Rattle.light_rows.specs.Block.{bounds_words, bounds_row, block_words, pack_exhaustive_bounds, handle_place}
use Rattle.light_rows.specs.Block.{record_place, side_at, handle_at}
use Rattle.light_rows.specs.Block.{block_layout, block_handles, block_check, block_record}
use Rattle.lamps.specs.BuildBounds.{bounds_of, all_bounds, build_light_bounds}
use Rattle.lamps.specs.LampList.{lamp_list}
use Rattle.lamps.specs.declared.lamp_list.Reading.{Reading}
use Rattle.lamps.proofs.BuildLaws.{list_read, row_width, length-block}
use Rattle.lamps.proofs.WalkLaws.{all_bounds-length}
use Rattle.lamp_laws.specs.Laws.LampFits.{AllFit, lamps-read, all_fit}

-- ---- accepted lamps

-- each lamp is accepted, with these bounds
abbrev pub Accepted : List ℕ → List Reading → List LightBounds → Type 0
Accepted ws [] [] = Unit
Accepted ws [] (b ∷ bs) = ⊥
Accepted ws (r ∷ rs) [] = ⊥
Accepted ws (r ∷ rs) (b ∷ bs) = (bounds_of ws r ≡ given b) × Accepted ws rs bs

accepted-all : (ws : List ℕ) (rs : List Reading) (bs : List LightBounds) → Accepted ws rs bs →
    all_bounds ws rs ≡ given bs
unfolding all_bounds ◌then◌
accepted-all ws [] [] h = refl
accepted-all ws [] (b ∷ bs) h = absurd h
accepted-all ws (r ∷ rs) [] h = absurd h
accepted-all ws (r ∷ rs) (b ∷ bs) h = rw (h.0, accepted-all ws rs bs h.1)

accepted-length : (ws : List ℕ) (rs : List Reading) (bs : List LightBounds) → Accepted ws rs bs → length bs ≡ length rs
accepted-length ws [] [] h = refl
accepted-length ws [] (b ∷ bs) h = absurd h
accepted-length ws (r ∷ rs) [] h = absurd h
accepted-length ws (r ∷ rs) (b ∷ bs) h = ap suc (accepted-length ws rs bs h.1)

pub accepted-list : (ws : List ℕ) (room : ℕ) (rs : List Reading) (bs : List LightBounds) → lamp_list ws ≡ given rs →
    Accepted ws rs bs → block_words
    (get_or ws 0 0) ≤ room
    → (build_light_bounds ws room ≡ given bs) × (length bs ≡ get_or ws 0 0)
unfolding build_light_bounds ◌then◌
accepted-list ws room rs bs read h enough =
    let (uncrowded, lamps, size) = list_read ws rs read in (
      rw (read, le-leb (block_words (length rs)) room (omega (arith, size, enough))) (accepted-all ws rs bs h),
      accepted-length ws rs bs h ∙ size,
    )

-- and the other way round
all_accepted : (ws : List ℕ) (rs : List Reading) (bs : List LightBounds) → all_bounds ws rs ≡ given bs →
    Accepted ws rs bs
unfolding all_bounds
all_accepted ws [] bs e = subst (λ (cs : List LightBounds). Accepted ws [] cs) (given_injective e) tt
all_accepted ws (r ∷ rs) bs e =
    let (b, eb, e') = then-given (bounds_of ws r) (λ b. all_bounds ws rs then λ cs. given (b ∷ cs)) bs e in
    let (cs, ec, e'') = then-given (all_bounds ws rs) (λ cs. given (b ∷ cs)) bs e' in
    subst (λ (xs : List LightBounds). Accepted ws (r ∷ rs) xs) (given_injective e'') (eb, all_accepted ws rs cs ec)

-- a build that was given: the list was read, there was room, and its lamps' bounds are these
built : (ws : List ℕ) (room : ℕ) (bs : List LightBounds) → build_light_bounds ws room ≡ given bs
    → (rs : List Reading) × (lamp_list ws ≡ given rs) × (block_words (length rs) ≤ room) × (all_bounds ws rs ≡ given bs)
unfolding build_light_bounds
built ws room bs e =
    let (rs, read, e') = then-given (lamp_list ws)
    (λ rs. cond (leb (block_words (length rs)) room) (all_bounds ws rs) (refused 3)) bs e in
    go rs read (leb (block_words (length rs)) room) refl e'
  where
    go : (rs : List Reading) → lamp_list ws ≡ given rs → (b : Bool) → leb (block_words (length rs)) room ≡ b →
        cond b (all_bounds ws rs) (refused 3) ≡ given bs
        → (rs : List Reading) × (lamp_list ws ≡ given rs) × (block_words (length rs) ≤ room) ×
        (all_bounds ws rs ≡ given bs)
    go rs read true l e = (rs, read, leb-true _ _ l, e)
    go rs read false l e = absurd (not-both e refl)

pub list_accepted : (ws : List ℕ) (room : ℕ) (bs : List LightBounds) → build_light_bounds ws room ≡ given bs
    → (rs : List Reading) × (lamp_list ws ≡ given rs) × Accepted ws rs bs × (block_words (get_or ws 0 0) ≤ room)
list_accepted ws room bs e =
    let (rs, read, enough, all) = built ws room bs e in
    let (uncrowded, lamps, size) = list_read ws rs read in
    (rs, read, all_accepted ws rs bs all, omega (arith, size, enough))

-- an accepted list has no more than 4,096 lamps, and its records are of floats of the format
pub built-few : (ws : List ℕ) (room : ℕ) (bs : List LightBounds) → build_light_bounds ws room ≡ given bs →
    length bs ≤ max_lamps
built-few ws room bs e =
    let (rs, read, enough, all) = built ws room bs e in
    let (uncrowded, lamps, size) = list_read ws rs read in
    omega (arith, few-lamps ws uncrowded, size, all_bounds-length ws rs bs all)

pub built-fits : (ws : List ℕ) (room : ℕ) (bs : List LightBounds) → build_light_bounds ws room ≡ given bs → AllFit bs
built-fits ws room bs e =
    let (rs, read, enough, all) = built ws room bs e in
    let (uncrowded, lamps, size) = list_read ws rs read in
    gives-value (all_fit ws rs (gives-value (lamps-read (get_or ws 0 0) ws 1) lamps)) all

fit_at : (bs : List LightBounds) (i : ℕ) (d : LightBounds) → AllFit bs → i < length bs → RecordFits (get_or bs i d)
fit_at [] i d h l = absurd (omega arith)
fit_at (b ∷ bs) zero d h l = h.0
fit_at (b ∷ bs) (suc i) d h l = fit_at bs i d h.1 (omega arith)

-- ---- the words of a record in its block

-- row i of a block: handle i, then the record's words
pub block_at : (bs : List LightBounds) (i : ℕ) (d : LightBounds) → i < length bs
    → (rest : List ℕ) × (drop (handle_place i) (pack_exhaustive_bounds bs) ≡ i ∷ record_list (get_or bs i d) ++ rest)
unfolding pack_exhaustive_bounds
block_at bs i d h =
    let e : 0 + i ≡ i = omega arith in
    let e' : handle_place i ≡ suc (bounds_words * i) = omega arith in (
      rows_from bounds_row (suc (0 + i)) (drop (suc i) bs),
      rw e' (row_at bounds_row bounds_words row_width 0 i bs d h ∙ ap
          (λ (j : ℕ). bounds_row j (get_or bs i d) ++ rows_from bounds_row (suc (0 + i)) (drop (suc i) bs)) e),
    )

-- ---- a block read back

-- the word j places behind row i's handle
word_at : (bs : List LightBounds) (i j : ℕ) (d : LightBounds) (h : i < length bs)
    → get_or (pack_exhaustive_bounds bs) (handle_place i + j) 0 ≡
    get_or (i ∷ record_list (get_or bs i d) ++ (block_at bs i d h).0) j 0
word_at bs i j d h =
    sym (get_or-drop (handle_place i) (pack_exhaustive_bounds bs) j 0) ∙
    ap (λ (l : List ℕ). get_or l j 0) (block_at bs i d h).1

-- a record of zeros, for places past a list's end
abbrev no_bounds : LightBounds
no_bounds = read_record [] 0

handle-is : (bs : List LightBounds) (i : ℕ) → i < length bs → handle_at (pack_exhaustive_bounds bs) i ≡ true
handle-is bs i h =
    let e : handle_place i + 0 ≡ handle_place i = omega arith in
    eq-eqb (get_or (pack_exhaustive_bounds bs) (handle_place i) 0) i
    (subst (λ (n : ℕ). get_or (pack_exhaustive_bounds bs) n 0 ≡ i) e (word_at bs i 0 no_bounds h))

side-is : (bs : List LightBounds) (i : ℕ) → i < length bs → side_at (pack_exhaustive_bounds bs) i ≡ true
unfolding record_list
side-is bs i h =
    let e : handle_place i + record_words ≡ side_place (record_place i) = omega arith in
    let b = get_or bs i no_bounds in
    subst (λ (n : ℕ). side_known (get_or (pack_exhaustive_bounds bs) n 0) ≡ true) e
    (ap side_known (word_at bs i record_words no_bounds h) ∙ side-known b.side)

count-is : (bs : List LightBounds) → get_or (pack_exhaustive_bounds bs) 0 0 ≡ length bs
unfolding pack_exhaustive_bounds
count-is bs = refl

pub block-checked : (bs : List LightBounds) → length bs ≤ max_lamps →
    block_check (pack_exhaustive_bounds bs) ≡ given (length bs)
unfolding block_check block_layout block_handles crowded ◌then◌
block-checked bs h =
    rw (
      count-is bs,
      le-ltb max_lamps (length bs) h,
      le-ltb max_words (length (pack_exhaustive_bounds bs)) (omega (arith, length-block bs)),
      eq-eqb (length (pack_exhaustive_bounds bs)) (block_words (length bs)) (length-block bs),
      below_true (side_at (pack_exhaustive_bounds bs)) (length bs) (side-is bs),
      below_true (handle_at (pack_exhaustive_bounds bs)) (length bs) (handle-is bs),
    )

pub accepted-block-checked : (ws : List ℕ) (room : ℕ) (bs : List LightBounds) → build_light_bounds ws room ≡ given bs
    → block_check (pack_exhaustive_bounds bs) ≡ given (length bs)
accepted-block-checked ws room bs e = block-checked bs (built-few ws room bs e)

-- ---- records found

-- what a layout that passes says
layout_is : (ws : List ℕ) (m : ℕ) → block_layout ws ≡ given m
    → (length ws ≡ block_words m) × (below (side_at ws) m ≡ true)
unfolding block_layout
layout_is ws m e = uncrowded (crowded ws) e
  where
    halves : (a b : Bool) → a && b ≡ true → (a ≡ true) × (b ≡ true)
    halves true b e = (refl, e)
    halves false b e = absurd (subst T (sym e) tt)

    laid : (a b : Bool) → eqb (length ws) (block_words (get_or ws 0 0)) ≡ a → below (side_at ws) (get_or ws 0 0) ≡ b →
        cond (a && b) (given (get_or ws 0 0))
        (refused 1) ≡ given m
        → (length ws ≡ block_words m) × (below (side_at ws) m ≡ true)
    laid true true ea eb e =
        let is : get_or ws 0 0 ≡ m = given_injective e in (
          eqb-true (length ws) (block_words (get_or ws 0 0)) ea ∙
              ap (λ (k : ℕ). block_words k) is,
          subst (λ (k : ℕ). below (side_at ws) k ≡ true) is eb,
        )
    laid true false ea eb e = absurd (not-both e refl)
    laid false b ea eb e = absurd (not-both e refl)

    uncrowded : (c : Bool) →
        cond c (refused 2) (cond (eqb (length ws) (block_words (get_or ws 0 0)) && below (side_at ws) (get_or ws 0 0))
        (given (get_or ws 0 0)) (refused 1)) ≡ given m
        → (length ws ≡ block_words m) × (below (side_at ws) m ≡ true)
    uncrowded true e = absurd (not-both e refl)
    uncrowded false e =
        laid (eqb (length ws) (block_words (get_or ws 0 0))) (below (side_at ws) (get_or ws 0 0)) refl refl e

-- of any block whose layout passes, each record below its count is found
pub record-found : (ws : List ℕ) (m i : ℕ) → block_layout ws ≡ given m → i < m →
    block_record ws i ≡ given (read_record ws (record_place i))
record-found ws m i e h =
    let (size, sides) = layout_is ws m e in
    record_at-found 1 ws (record_place i) (omega (arith, size)) (below_at (side_at ws) m i sides h)

-- a layout that passes gives the block's own count
layout-count : (ws : List ℕ) (m : ℕ) → block_layout ws ≡ given m → m ≡ get_or ws 0 0
unfolding block_layout
layout-count ws m e = uncrowded (crowded ws) e
  where
    laid : (a : Bool) → cond a (given (get_or ws 0 0)) (refused 1) ≡ given m → m ≡ get_or ws 0 0
    laid true e = sym (given_injective e)
    laid false e = absurd (not-both e refl)

    uncrowded : (c : Bool) →
        cond c (refused 2) (cond (eqb (length ws) (block_words (get_or ws 0 0)) && below (side_at ws) (get_or ws 0 0))
        (given (get_or ws 0 0)) (refused 1)) ≡ given m
        → m ≡ get_or ws 0 0
    uncrowded true e = absurd (not-both e refl)
    uncrowded false e = laid (eqb (length ws) (block_words (get_or ws 0 0)) && below (side_at ws) (get_or ws 0 0)) e

-- each record of an accepted list's block is found, and is the record itself
pub block_read : (ws : List ℕ) (room : ℕ) (bs : List LightBounds) (i : ℕ) (d : LightBounds) →
    build_light_bounds ws room ≡ given bs → i < length bs
    → block_record (pack_exhaustive_bounds bs) i ≡ given (get_or bs i d)
unfolding block_check
block_read ws room bs i d e h =
    let block = pack_exhaustive_bounds bs in
    let at = record_place i in
    let stored = record_list (get_or bs i d) ++ (block_at bs i d h).0 in
    let words : (k : ℕ) → get_or block (at + k) 0 ≡ get_or stored k 0 =
    λ k. let p : handle_place i + suc k ≡
    at + k = omega arith in subst (λ (n : ℕ). get_or block n 0 ≡ get_or stored k 0) p (word_at bs i (suc k) d h) in
    let (m, layout, handles) = then-given (block_layout block) (λ _. block_handles block) (length bs)
    (accepted-block-checked ws room bs e) in
    let count : m ≡ length bs = layout-count block m layout ∙ count-is bs in
    record-found block m i layout (omega (arith, count, h))
    ∙ ap given (read-words block stored at words ∙ behind_record (get_or bs i d) (block_at bs i d h).0 ∙
    reread (get_or bs i d)
    (fit_at bs i d (built-fits ws room bs e) h))
