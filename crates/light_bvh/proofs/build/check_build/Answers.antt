-- `light_bvh::build::check_build`: the layout, the number of records, the handles, the reserves, in that order. Assumes
-- nothing.
use Rattle.std.proofs.Common.{rules}
use mathlib.Core.Bool.{Bool, cond}
use mathlib.Core.Path.{sym, ap, ◌∙◌}
use borrow.Author.Tests.{eq-eqb, ne_eqb}
use lib.ListN.{get_or}
use Rattle.words.specs.Answers.{given, refused, ◌then◌}
use Rattle.light_bvh.specs.Build.{build_check}
use Rattle.light_bvh.proofs.BuildLaws.{handles-count}
use Rattle.light_bvh.proofs.build.check_build.Goals as goal

pub returns-in_err-rows : goal.returns-in_err-rows
unfolding build_check ◌then◌
returns-in_err-rows c = rw (← c.in_err-rows.ensures) (search rules)

pub returns-then-lights-rows : goal.returns-then-lights-rows
unfolding build_check ◌then◌
returns-then-lights-rows c = rw (← c.in_ok-rows.ensures, ne_eqb _ _ c.if-lights-rows.true)

pub returns-in_err-m : goal.returns-in_err-m
unfolding build_check ◌then◌
returns-in_err-m c =
    rw (← c.in_ok-rows.ensures, eq-eqb _ _ c.if-lights-rows.false) (rw (← c.in_err-m.ensures) (search rules))

pub returns-then-is_short : goal.returns-then-is_short
unfolding build_check ◌then◌
returns-then-is_short c =
    let count = handles-count c.args.block.now _ (sym c.in_ok-m.ensures) in
    rw (← c.in_ok-rows.ensures, eq-eqb _ _ c.if-lights-rows.false) (rw (← c.in_ok-m.ensures, count)
    (ap (λ (b : Bool). cond b (refused 3) (given (get_or c.args.block.now 0 0)))
    (rw c.row_count.ensures at (sym c.if-is_short.true ∙ c.is_short.ensures))))

pub returns : goal.returns
unfolding build_check ◌then◌
returns c =
    let count = handles-count c.args.block.now _ (sym c.in_ok-m.ensures) in
    rw (← c.in_ok-rows.ensures, eq-eqb _ _ c.if-lights-rows.false) (rw (← c.in_ok-m.ensures, count)
    (ap (λ (b : Bool). cond b (refused 3) (given (get_or c.args.block.now 0 0)))
    (rw c.row_count.ensures at (sym c.if-is_short.false ∙ c.is_short.ensures))))
