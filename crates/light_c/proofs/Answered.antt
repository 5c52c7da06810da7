-- Build's answer as a slice that is lent: short of its reserve it is refusal 3, behind the checks that come before
-- (`answered-short`); long enough, the build is `build_light_bvh` (`answered-long`), and k and the box are what stands
-- in it. Assumes nothing.
use Prim.Native.Nat.{ℕ, ◌^◌, ◌≤◌, ◌<◌}
use mathlib.Core.Path.{◌≡◌, refl, ap, sym, ◌∙◌}
use mathlib.Core.Bool.{cond}
use mathlib.Core.List.{List, ◌∷◌, ◌++◌}
use mathlib.Core.Option.{Option, none, some}
use native.Mathlib.Omega.{arith}
use borrow.Author.Tests.{lt-ltb, le-ltb}
use lib.Dec.{ltb}
use lib.ListN.{length, get_or, drop}
use lib.Seq.{sets, sets-eq}
use Rattle.words.specs.Answers.{Answer, given, refused, ◌then◌, code}
use Rattle.words.specs.AsCoded.Fill.{filled}
use Rattle.words.specs.Tray.{tray}
use Rattle.words.specs.Laws.TrayLaws.{tray-early, tray-full}
use Rattle.words.proofs.AnswerLaws.{only-refused, only_then, only-number, given_injective, not-both}
use Rattle.words.proofs.Reserves.{zeroed}
use Rattle.light_bounds.specs.declared.bounds.Bounds3.{Bounds3}
use Rattle.light_bvh.specs.Build.{LightBVH, validated, built_bvh, build_check, build_light_bvh}
use Rattle.light_bvh.specs.Build.{summary, nodes_written, table_written, work_written, nodes_reserve, work_reserve}
use Rattle.light_bvh.proofs.BuildLaws.{early_build, Outcome}
use Rattle.light_bvh.proofs.RowsLaws.{accepted-few}
use Rattle.light_c.specs.Codes.{answer_reserve, box_words, summary_list, build_answered}
use Rattle.light_c.specs.AsCoded.ShortAnswer.{short_answer}

module _ (lights : ℕ) (ws : List ℕ) (nodes table work answer : ℕ) where
  -- `build_answered`, of what the checks before the answer's give
  asked : Answer ℕ → Answer LightBVH
  asked x =
      x then λ (m : ℕ). cond (ltb answer answer_reserve) (refused 3) (given m) then λ (m : ℕ).
      validated ws m then λ _. built_bvh ws m

  pub answered-long : answer_reserve ≤ answer
      → build_answered lights ws nodes table work answer ≡ build_light_bvh lights ws nodes table work
  unfolding build_answered build_light_bvh asked ◌then◌
  answered-long h = go (build_check lights ws nodes table work)
    where
      go : (x : Answer ℕ) → asked x ≡ (x then λ (m : ℕ). validated ws m then λ _. built_bvh ws m)
      go (given m) = rw (le-ltb answer answer_reserve h)
      go (refused n) = refl

  pub answered-short : answer < answer_reserve
      → build_answered lights ws nodes table work answer ≡ short_answer lights ws nodes table work
  unfolding build_answered short_answer asked ◌then◌
  answered-short h = go (build_check lights ws nodes table work)
    where
      go : (x : Answer ℕ) → asked x ≡ (x then λ (_ : ℕ). refused 3)
      go (given m) = rw (lt-ltb answer answer_reserve h)
      go (refused n) = refl

-- no refusal of a short answer writes
short-early : (lights : ℕ) (ws : List ℕ) (nodes table work n : ℕ) → refused n ≡ short_answer lights ws nodes table work
    → n ≤ 4
unfolding short_answer
short-early lights ws nodes table work n e =
    only-number {A = LightBVH}
    (only_then (early_build lights ws nodes table work) (λ m. only-refused (omega arith))) (sym e)

-- ---- what an accepted build answers

-- k and the box were given with a tree
summary-given : (x : Answer LightBVH) (k : ℕ) (box : Option Bounds3) → given (k, box) ≡ summary x
    → (b : LightBVH) × (x ≡ given b) × (b.k ≡ k) × (b.all-bounds ≡ box)
summary-given (given b) k box e =
    let is = given_injective (sym e) in
    (b, refl, ap (λ p. p.0) is, ap (λ p. p.1) is)
summary-given (refused n) k box e = absurd (not-both (sym e) refl)

summary-refused : (x : Answer LightBVH) (n : ℕ) → refused n ≡ summary x → x ≡ refused n
summary-refused (given b) n e = absurd (not-both refl (sym e))
summary-refused (refused m) n e = cc

-- ---- the answer's words

length-box_words : (box : Option Bounds3) → length (box_words box) ≡ 6
length-box_words (some b) = refl
length-box_words none = refl

module _ (before : List ℕ) (room : answer_reserve ≤ length before) (b : LightBVH) where
  full : tray summary_list answer_reserve (given b) before ≡ summary_list b ++ drop answer_reserve before
  full = tray-full summary_list answer_reserve before b (omega (arith, length-box_words b.all-bounds))

  answer-set : (k : ℕ) (box : Bounds3) → b.k ≡ k → b.all-bounds ≡ some box
      → sets before 0 (k ∷ box_words (some box)) ≡ tray summary_list answer_reserve (given b) before
  answer-set k box ek eb = sets-eq (k ∷ box_words (some box)) before 0 room ∙ sym (full ∙ rw (ek, eb))

  answer-zero : b.k ≡ 0 → b.all-bounds ≡ none
      → filled before 0 answer_reserve 0 ≡ tray summary_list answer_reserve (given b) before
  answer-zero ek eb = zeroed before (drop answer_reserve before) answer_reserve room refl ∙ sym (full ∙ rw (ek, eb))

-- ---- the whole

module _ (lights : ℕ) (ws nodes table work answer : List ℕ) where
  -- what is to be shown of the number and of what is left in the lent words
  abbrev pub Answered : ℕ → List ℕ → List ℕ → List ℕ → List ℕ → Type 0
  Answered r nodes' table' work' answer' =
      let x = build_answered lights ws (length nodes) (length table) (length work) (length answer) in
      let m = get_or ws 0 0 in
      (r ≡ code x) × ((nodes' ≡ tray nodes_written (nodes_reserve m) x nodes) × ((table' ≡ tray table_written m x table)
      × ((work' ≡ tray work_written (work_reserve m) x work) × (answer' ≡ tray summary_list answer_reserve x answer))))

  pub short : (n : ℕ) → length answer < answer_reserve
      → refused n ≡ short_answer lights ws (length nodes) (length table) (length work) → Answered n nodes table work
      answer
  short n h e =
      let m = get_or ws 0 0 in
      let l = short-early lights ws (length nodes) (length table) (length work) n e in
      rw (answered-short lights ws (length nodes) (length table) (length work) (length answer) h, ← e) (
        refl,
        (
          sym (tray-early nodes_written (nodes_reserve m) nodes n l),
          (
            sym (tray-early table_written m table n l),
            (
              sym (tray-early work_written (work_reserve m) work n l),
              sym (tray-early summary_list answer_reserve answer n
                  l),
            ),
          ),
        ),
      )

  -- the build's own answer
  abbrev own : Answer LightBVH
  own = build_light_bvh lights ws (length nodes) (length table) (length work)

  pub k-fits : {k : ℕ} {box : Option Bounds3} → given (k, box) ≡ summary own → k < 2 ^ 32
  k-fits {k} {box} told =
      let (b, e, is, _) = summary-given own k box told in
      omega (arith, accepted-few lights ws (length nodes) (length table) (length work) b e, is)

  -- of words enough for it
  module _ (room : answer_reserve ≤ length answer) {nodes' table' work' answer' : List ℕ} where
    answered : (r : ℕ) (x : Answer (ℕ × Option Bounds3)) → Outcome lights ws nodes table work x nodes' table' work'
        → r ≡ code own → answer' ≡ tray summary_list answer_reserve own answer → Answered r nodes' table' work' answer'
    answered r x o er ea =
        rw (answered-long lights ws (length nodes) (length table) (length work) (length answer) room)
        (er, (o.1.0, (o.1.1.0, (o.1.1.1, ea))))

    pub tree-answered : {k : ℕ} {box : Bounds3}
        → Outcome lights ws nodes table work (given (k, some box)) nodes' table' work'
        → answer' ≡ sets answer 0 (k ∷ box_words (some box)) → Answered 0 nodes' table' work' answer'
    tree-answered {k} {box} o ea =
        let (b, e, ek, eb) = summary-given own k (some box) o.0 in
        answered 0 (given (k, some box)) o (rw e) (ea ∙ rw e (answer-set answer room b k box ek eb))

    pub none-answered : Outcome lights ws nodes table work (given (0, none)) nodes' table' work'
        → answer' ≡ filled answer 0 answer_reserve 0 → Answered 0 nodes' table' work' answer'
    none-answered o ea =
        let (b, e, ek, eb) = summary-given own 0 none o.0 in
        answered 0 (given (0, none)) o (rw e) (ea ∙ rw e (answer-zero answer room b ek eb))

    pub refused-answered : {r n : ℕ} → Outcome lights ws nodes table work (refused n) nodes' table' work' → r ≡ n
        → answer' ≡ tray summary_list answer_reserve (refused n) answer → Answered r nodes' table' work' answer'
    refused-answered {r} {n} o er ea =
        let e = summary-refused own n o.0 in
        answered r (refused n) o (er ∙ rw e) (ea ∙ rw e)
