-- `lamps::lamp_bounds::Group::bounds`: the first triangle's record as it is, the rest joined to it. Assumes nothing.
use Prim.Native.Nat.{◌-◌}
use native.Mathlib.Omega.{arith}
use lib.ListN.{length, drop}
use lib.Seq.{take_all}
use Rattle.std.proofs.lemmas.List.{length-drop}
use Rattle.std.proofs.Common.{rules}
use Rattle.words.specs.Answers.{refused, ◌then◌}
use Rattle.lamps.specs.LampBounds.{group_bounds}
use Rattle.lamps.proofs.LampBoundsLaws.{all_from-end, all_from-first}
use Rattle.lamps.proofs.lamp_bounds.Group.bounds.Goals as goal

pub returns-in_err-validate : goal.returns-in_err-validate
unfolding group_bounds ◌then◌
returns-in_err-validate c = rw (← c.in_err-validate.ensures) (search rules)

pub returns-then-triangles-lt-TRIANGLE_WORDS : goal.returns-then-triangles-lt-TRIANGLE_WORDS
unfolding group_bounds ◌then◌
returns-then-triangles-lt-TRIANGLE_WORDS c = let e = c.args.self.emission in
    rw (
      ← c.in_ok-validate.ensures,
      all_from-end e.max e.scale c.args.self.two_sided c.args.triangles.now (refused 9)
          c.if-triangles-lt-TRIANGLE_WORDS.true,
    )

pub returns-in_err-first : goal.returns-in_err-first
unfolding group_bounds ◌then◌
returns-in_err-first c = let e = c.args.self.emission in
    rw (
      ← c.in_ok-validate.ensures,
      all_from-first e.max e.scale c.args.self.two_sided c.args.triangles.now (refused 9)
          c.if-triangles-lt-TRIANGLE_WORDS.false,
      ← c.triangle_at.ensures,
      ← c.in_err-first.ensures,
    ) (search rules)

pub returns : goal.returns
unfolding group_bounds ◌then◌
returns c = let e = c.args.self.emission in
    let ts = c.args.triangles.now in
    rw (
      ← c.in_ok-validate.ensures,
      all_from-first e.max e.scale c.args.self.two_sided c.args.triangles.now (refused 9)
          c.if-triangles-lt-TRIANGLE_WORDS.false,
      ← c.triangle_at.ensures,
      ← c.in_ok-first.ensures,
    )
    (rw (take_all (length ts - 13) (drop 13 ts) (omega (arith, length-drop 13 ts))) at c.union_rest.ensures)
