-- Which refusals a list can meet, and when: reading it gives 1, 2 or 4, which leave the lent block as it is; its lamps'
-- figures give later ones. Then what `build_light_bounds` comes to in each case. Assumes nothing.
use Prim.Native.Nat.{ℕ, zero, suc, ◌+◌, ◌≤◌, ◌<◌}
use mathlib.Core.Path.{◌≡◌, refl, ap, subst, sym, ◌∙◌}
use mathlib.Core.Bool.{Bool, true, false, cond, ◌&&◌}
use mathlib.Core.List.{List, [], ◌∷◌}
use native.Mathlib.Omega.{arith}
use borrow.Author.Tests.{le-leb, lt-leb}
use lib.Dec.{leb, eqb}
use lib.Ieee.{Float}
use lib.ListN.{length, get_or}
use Rattle.words.specs.Answers.{Answer, given, refused, ◌then◌, count}
use Rattle.words.specs.Limits.{max_lamps, crowded}
use Rattle.words.specs.Heads.{kind_of}
use Rattle.words.specs.AsCoded.Walks.{gathered}
use Rattle.words.proofs.AnswerLaws.{Early, Late, only-given, only-refused, only-cond}
use Rattle.words.proofs.AnswerLaws.{only_then, only-number, then-given, given_injective, not-both, count-given}
use Rattle.words.proofs.LimitLaws.{few-lamps}
use Rattle.words.proofs.RowLaws.{rows-length}
use Rattle.light_bounds.specs.LightBounds.{are_cosines}
use Rattle.light_bounds.specs.Vecmath.{finite_vec}
use Rattle.light_bounds.specs.declared.light_bounds.LightBounds.{LightBounds}
use Rattle.light_bounds.specs.declared.vecmath.Vec3.{Vec3}
use Rattle.light_bounds.proofs.LateLaws.{late-box, late-normalize, late-validate, late-union}
use Rattle.light_rows.specs.Laws.RecordPlaces.{length-record_list}
use Rattle.light_rows.specs.Block.{block_words, bounds_words, bounds_row, pack_exhaustive_bounds}
use Rattle.lamps.specs.BuildBounds.{all_bounds, build_light_bounds}
use Rattle.lamps.specs.LampBounds.{point_box, triangle_bounds, no_area, emission_bad}
use Rattle.lamps.specs.LampBounds.{validate_emission, checked, point_bounds, spot_record}
use Rattle.lamps.specs.LampBounds.{spot_bounds, faced_record, triangle_at, triangle_record}
use Rattle.lamps.specs.LampBounds.{join_next, union_from, group_bounds, light_bounds_for_input}
use Rattle.lamps.specs.LampList.{point_words, spot_words, group_words, triangle_words, lamp_at}
use Rattle.lamps.specs.LampList.{group_fits, lamps_from, in_place, placed_lamps, lamp_list, triangles_of}
use Rattle.lamps.specs.declared.lamp_bounds.AreaTriangleInput.{AreaTriangleInput}
use Rattle.lamps.specs.declared.lamp_list.Lamp.{Lamp}
use Rattle.lamps.specs.declared.lamp_list.Lamp.TheVariants.{Point, Spot, AreaGroup}
use Rattle.lamps.specs.declared.lamp_list.Reading.{Reading}
use Rattle.lamps.proofs.WalkLaws.{lamps_from-length, bounds_walk, bounds_walk-all}

-- ---- the lamps' figures: above 4

late_emission : (value scale : Float) → Late (validate_emission value scale)
late_emission value scale =
    only-cond (emission_bad value scale) (only-refused (omega arith)) only-given

late-checked : (r : LightBounds) → Late (checked r)
unfolding checked
late-checked r = only_then (late-validate r) (λ _. only-given)

late_point : (p : Vec3) (intensity scale : Float) → Late (point_bounds p intensity scale)
unfolding point_bounds
late_point p intensity scale =
    only_then (late_emission intensity scale) (λ _. only_then (late-box (point_box p)) (λ _. late-checked _))

late_spot : (p d : Vec3) (intensity scale cos_o cos_end : Float) → Late (spot_bounds p d intensity scale cos_o cos_end)
unfolding spot_bounds spot_record
late_spot p d intensity scale cos_o cos_end =
    only_then (late_emission intensity scale)
    (λ _. only-cond (are_cosines cos_o cos_end)
    (only_then (late-box (point_box p)) (λ _. only_then (late-normalize d) (λ _. late-checked _)))
    (only-refused (omega arith)))

late_triangle : (emission scale : Float) (side : Bool) (t : AreaTriangleInput) →
    Late (triangle_record emission scale side t)
unfolding triangle_record faced_record
late_triangle emission scale side t =
    only_then (late-box (triangle_bounds t))
    (λ _. only-cond (no_area t.area) (only-refused (omega arith))
    (only_then (late-normalize t.geometric_normal)
    (λ d. only-cond (finite_vec d) (late-checked _) (only-refused (omega arith)))))

late-join : (x : Answer LightBounds) (r : LightBounds) → Late (join_next x r)
late-join (given existing) r = late-union existing r
late-join (refused n) r = only-given

late-union_from : (emission scale : Float) (side : Bool) (ts : List ℕ) (i n : ℕ) (x : Answer LightBounds) → Late x
    → Late (union_from emission scale side ts i n x)
unfolding union_from
late-union_from emission scale side ts i zero x h = h
late-union_from emission scale side ts i (suc n) x h =
    only_then (late_triangle emission scale side (triangle_at ts i))
    (λ r. only_then (late-join x r)
    (λ s. late-union_from emission scale side ts (i + triangle_words) n (given s) only-given))

late_group : (emission scale : Float) (side : Bool) (ts : List ℕ) → Late (group_bounds emission scale side ts)
unfolding group_bounds
late_group emission scale side ts =
    only_then (late_emission emission scale)
    (λ _. late-union_from emission scale side ts 0 _ (refused 9) (only-refused (omega arith)))

late_lamp : (lamp : Lamp) (ts : List ℕ) → Late (light_bounds_for_input lamp ts)
late_lamp (Point h p i s) ts = late_point p i s
late_lamp (Spot h p d i s o e) ts = late_spot p d i s o e
late_lamp (AreaGroup h e s side) ts = late_group e s side ts

pub late-all : (ws : List ℕ) (rs : List Reading) → Late (all_bounds ws rs)
unfolding all_bounds
late-all ws [] = only-given
late-all ws (r ∷ rs) =
    only_then (late_lamp r.lamp (triangles_of ws r)) (λ _. only_then (late-all ws rs) (λ _. only-given))

-- ---- reading: 1, 2 and 4

early_lamp : (ws : List ℕ) (at : ℕ) → Early (lamp_at ws at)
early_lamp ws at =
    let end = length ws in
    let kind = kind_of (get_or ws at 0) in
    only-cond (eqb kind 1) (only-cond (leb (at + point_words) end) only-given (only-refused (omega arith)))
    (only-cond (eqb kind 2) (only-cond (leb (at + spot_words) end) only-given (only-refused (omega arith)))
    (only-cond (eqb kind 3)
    (only-cond (leb (at + group_words) end && group_fits ws at) only-given (only-refused (omega arith)))
    (only-refused (omega arith))))

early-lamps : (m : ℕ) (ws : List ℕ) (at : ℕ) → Early (lamps_from m ws at)
unfolding lamps_from
early-lamps zero ws at = only-cond (eqb at (length ws)) only-given (only-refused (omega arith))
early-lamps (suc m) ws at =
    only_then (early_lamp ws at) (λ r. only_then (early-lamps m ws r.next.at) (λ _. only-given))

early-placed : (ws : List ℕ) → Early (placed_lamps ws)
unfolding placed_lamps
early-placed ws =
    only_then (early-lamps (get_or ws 0 0) ws 1)
    (λ rs. only-cond (in_place 0 rs) only-given (only-refused (omega arith)))

pub early-list : (ws : List ℕ) → Early (lamp_list ws)
early-list ws = only-cond (crowded ws) (only-refused (omega arith)) (early-placed ws)

-- ---- lists read

-- a list that was read: not over the limits, and as many lamps as word 0 says
pub list_read : (ws : List ℕ) (rs : List Reading) → lamp_list ws ≡ given rs
    → (crowded ws ≡ false) × (lamps_from (get_or ws 0 0) ws 1 ≡ given rs) × (length rs ≡ get_or ws 0 0)
unfolding placed_lamps
list_read ws rs e = uncrowded (crowded ws) refl e
  where
    placed : (b : Bool) (l : List Reading) → cond b (given l) (refused 4) ≡ given rs → l ≡ rs
    placed true l e = given_injective e
    placed false l e = absurd (not-both e refl)

    uncrowded : (b : Bool) → crowded ws ≡ b →
        cond b (refused 2) (lamps_from (get_or ws 0 0) ws 1 then λ l. cond (in_place 0 l) (given l) (refused 4))
        ≡ given rs
        → (crowded ws ≡ false) × (lamps_from (get_or ws 0 0) ws 1 ≡ given rs) × (length rs ≡ get_or ws 0 0)
    uncrowded true c e = absurd (not-both e refl)
    uncrowded false c e =
        let (l, el, e') =
        then-given (lamps_from (get_or ws 0 0) ws 1) (λ l. cond (in_place 0 l) (given l) (refused 4)) rs e in
        let same = placed (in_place 0 l) l e' in
        let read : lamps_from (get_or ws 0 0) ws 1 ≡ given rs = el ∙ ap given same in
        (c, read, lamps_from-length (get_or ws 0 0) ws 1 rs read)

-- a list that was counted
pub list_counted : (ws : List ℕ) (m : ℕ) → count (lamp_list ws) ≡ given m
    → (rs : List Reading) × (lamp_list ws ≡ given rs) × (length rs ≡ m) × (m ≡ get_or ws 0 0) × (m ≤ max_lamps)
list_counted ws m e =
    let (rs, read, n) = count-given (lamp_list ws) m e in
    let (uncrowded, lamps, size) = list_read ws rs read in
    (rs, read, n, sym n ∙ size, omega (arith, few-lamps ws uncrowded, n, size))

-- ---- build

pub build_unread : (ws : List ℕ) (room n : ℕ) → lamp_list ws ≡ refused n → build_light_bounds ws room ≡ refused n
unfolding build_light_bounds ◌then◌
build_unread ws room n e = rw e

module _ (ws : List ℕ) (room m : ℕ) (counted : count (lamp_list ws) ≡ given m) where
  pub build-short : room < block_words m → build_light_bounds ws room ≡ refused 3
  unfolding build_light_bounds ◌then◌
  build-short h =
      let (rs, read, n, is, few) = list_counted ws m counted in
      rw (read, lt-leb (block_words (length rs)) room (omega (arith, n, h)))

  module _ (enough : block_words m ≤ room) where
    -- the second walk's answer is that of the definition; its refusals are late
    walked : (build_light_bounds ws room ≡ gathered (bounds_walk ws) m 1) × Late (gathered (bounds_walk ws) m 1)
    unfolding build_light_bounds ◌then◌
    walked =
        let (rs, read, n, is, few) = list_counted ws m counted in
        let (uncrowded, lamps, size) = list_read ws rs read in
        let all = bounds_walk-all m ws 1 rs (subst (λ (k : ℕ). lamps_from k ws 1 ≡ given rs) (sym is) lamps) in (
          rw (read, le-leb (block_words (length rs)) room (omega (arith, n, enough))) (sym all),
          subst Late (sym all)
              (late-all ws rs),
        )

    pub build-refused : (n : ℕ) → gathered (bounds_walk ws) m 1 ≡ refused n →
        (build_light_bounds ws room ≡ refused n) × (4 < n)
    build-refused n e = let (is, late) = walked in (is ∙ e, only-number late e)

    pub build-given : (bs : List LightBounds) → gathered (bounds_walk ws) m 1 ≡ given bs →
        build_light_bounds ws room ≡ given bs
    build-given bs e = walked.0 ∙ e

-- ---- blocks

pub row_width : (i : ℕ) (b : LightBounds) → length (bounds_row i b) ≡ bounds_words
row_width i b = omega (arith, length-record_list b)

pub length-block : (bs : List LightBounds) → length (pack_exhaustive_bounds bs) ≡ block_words (length bs)
unfolding pack_exhaustive_bounds
length-block bs = omega (arith, rows-length bounds_row bounds_words row_width 0 bs)
