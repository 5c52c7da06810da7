-- `alias_table::build`: the game from its start goes on to its last state, and what either stack still holds is whole.
-- Assumes nothing.
use Prim.Native.Nat.{ℕ, ◌+◌, ◌-◌, ◌*◌, ◌≤◌}
use mathlib.Core.List.{List}
use mathlib.Core.Path.{◌≡◌, refl, sym, ap, ◌∙◌}
use native.Mathlib.Omega.{arith}
use lib.ListN.{length, take, drop}
use lib.Seq.{length-take-le}
use Rattle.words.proofs.Reserves.{zeroed}
use Rattle.alias_table.specs.Laws.GameLaws.{length-leftover}
use Rattle.alias_table.specs.AsCoded.Stacks.{played}
use Rattle.alias_table.proofs.WeightLaws.{weighted-length}
use Rattle.alias_table.proofs.LoopLaws.{left-of, wholed-of}
use Rattle.alias_table.proofs.build.Goals as goal
use Rattle.alias_table.proofs.build.Goals.{After-play-last}

-- either stack stands within the work
room : (c : After-play-last) → (0 + 2 * c.play-last.result.under ≤ length c.play-last.new.work)
    × (2 * length c.args.weights.now + 2 * c.play-last.result.over ≤ length c.play-last.new.work)
room c = let g = c.play-last.ensures _ _ _ c.start-first.ensures in
    (omega (arith, g.stacks.room, g.stacks.together), omega (arith, g.stacks.room, g.stacks.together))

-- the part of the work that the over stack stands in
over-part : (m over : ℕ) (work : List ℕ)
    → take (2 * m + 2 * over - 2 * m) (drop (2 * m) work) ≡ take (2 * over) (drop (2 * m) work)
over-part m over work =
    let e : 2 * m + 2 * over - 2 * m ≡ 2 * over = omega arith in
    ap (λ (n : ℕ). take n (drop (2 * m) work)) e

pub overflow_mul-last : goal.overflow_mul-last
overflow_mul-last c = let g = c.play-last.ensures _ _ _ c.start-first.ensures in
    record { fits = omega (arith, g.stacks.together, c.requires.room.few) }

pub slice_bounds-make_whole-end : goal.slice_bounds-make_whole-end
slice_bounds-make_whole-end c = let r = room (goal.at.slice_bounds-make_whole-end c).After-play-last in
    omega (arith, r.0)

pub slice_bounds-make_whole-end-2 : goal.slice_bounds-make_whole-end-2
slice_bounds-make_whole-end-2 c = let r = room (goal.at.slice_bounds-make_whole-end-2 c).After-play-last in
    sym (length-take-le (2 * c.play-last.result.under) c.play-last.new.work (omega (arith, r.0)))

pub overflow_mul-last-2 : goal.overflow_mul-last-2
overflow_mul-last-2 c = let g = c.play-last.ensures _ _ _ c.start-first.ensures in
    record { fits = omega (arith, g.stacks.together, c.requires.room.few) }

pub overflow_add-count : goal.overflow_add-count
overflow_add-count c = let g = c.play-last.ensures _ _ _ c.start-first.ensures in
    record { fits = omega (arith, g.stacks.together, c.requires.room.few) }

pub slice_bounds-make_whole-end-3 : goal.slice_bounds-make_whole-end-3
slice_bounds-make_whole-end-3 c = let r = room (goal.at.slice_bounds-make_whole-end-3 c).After-play-last in
    omega (arith, r.1)

pub make_whole-requires : goal.make_whole-requires
make_whole-requires c = let g = c.play-last.ensures _ _ _ c.start-first.ensures in
    let (under, over) = room (goal.at.make_whole-requires c).After-play-last in
    left-of _ _ g.stacks.under-is g.bins-are g.count under refl

pub make_whole-requires-2 : goal.make_whole-requires-2
make_whole-requires-2 c = let g = c.play-last.ensures _ _ _ c.start-first.ensures in
    let (under, over) = room (goal.at.make_whole-requires-2 c).After-play-last in
    let first = wholed-of _ _ g.stacks.under-is g.bins-are g.count under refl c.make_whole.ensures in
    left-of _ _ g.stacks.over-is first (length-leftover _ _ ∙ g.count) over
    (over-part (length c.args.weights.now) c.play-last.result.over c.play-last.new.work)

pub returns : goal.returns
unfolding played
returns c = let args = c.args in
    let g = c.play-last.ensures _ _ _ c.start-first.ensures in
    let (under, over) = room (goal.at.returns c).After-play-last in
    let first = wholed-of _ _ g.stacks.under-is g.bins-are g.count under refl c.make_whole.ensures in
    let both = wholed-of _ _ g.stacks.over-is first (length-leftover _ _ ∙ g.count) over
    (over-part (length args.weights.now) c.play-last.result.over c.play-last.new.work) c.make_whole-2.ensures
    in record {
      bins_after = rw (weighted-length args.flat args.weights.now) both;
      work_after = c.zero_words.ensures ∙ zeroed _ _ _ g.stacks.room g.stacks.rest;
    }
