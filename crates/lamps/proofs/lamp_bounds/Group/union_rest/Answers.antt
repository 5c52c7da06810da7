-- `lamps::lamp_bounds::Group::union_rest`: what is left to join gives the same answer at each turn. Assumes nothing.
use mathlib.Core.Path.{◌≡◌, sym, ◌∙◌}
use native.Mathlib.Omega.{arith}
use Rattle.std.proofs.Common.{rules}
use Rattle.std.specs.Slice.Iter.{chunks_exact_rest}
use Rattle.words.specs.Answers.{given, ◌then◌}
use Rattle.lamps.specs.LampBounds.{triangle_record, join_next}
use Rattle.lamps.proofs.LampBoundsLaws.{all_from, all_from-end, all_from-chunk}
use Rattle.lamps.proofs.lamp_bounds.Group.union_rest.Goals as goal
use Rattle.lamps.proofs.lamp_bounds.Group.union_rest.Goals.{After-triangle_at}

-- one triangle more
more : (c : After-triangle_at) → let e = c.args.self.emission in let side = c.args.self.two_sided in
    all_from e.max e.scale side c.args.rest.now (given c.args.first)
    ≡ (triangle_record e.max e.scale side c.triangle_at.result then join_next (given c.loop-words.result)) then λ s.
    all_from e.max e.scale side (chunks_exact_rest c.next.new.self) (given s)
more c =
    let e = c.args.self.emission in
    let (size, (cut, length), rest) = c.in-Some.ensures.steps in
    rw (← c.triangle_at.ensures) at (c.loop-words.invariant.1
    ∙ all_from-chunk e.max e.scale c.args.self.two_sided _ c.in-Some.words.now _ c.loop-words.result cut
    (length ∙ c.loop-words.invariant.0))

pub returns : goal.returns
returns c = let e = c.args.self.emission in
    sym (c.loop-words.invariant.1 ∙ all_from-end e.max e.scale c.args.self.two_sided _ _
    (omega (arith, c.in-None.ensures.steps.1.0, c.loop-words.invariant.0)))

pub returns-in_err-result : goal.returns-in_err-result
unfolding ◌then◌
returns-in_err-result c = rw (more (goal.at.returns-in_err-result c).After-triangle_at, ← c.in_err-result.ensures)
    (search rules)

pub loop-words-preserved : goal.loop-words-preserved
unfolding ◌then◌
loop-words-preserved c = (
  c.in-Some.ensures.steps.0 ∙ c.loop-words.invariant.0,
  rw (more (goal.at.loop-words-preserved c).After-triangle_at, ← c.in_ok-result.ensures),
)
