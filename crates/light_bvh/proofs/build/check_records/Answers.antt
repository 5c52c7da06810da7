-- `light_bvh::build::check_records`: up to i every record is valid. Assumes nothing.
use Rattle.std.proofs.Common.{rules, ◌≡◌, refl, sym, ◌∙◌, get_or}
use Rattle.words.specs.Answers.{refused, answered}
use Rattle.words.specs.Refusals.{number}
use Rattle.light_bvh.specs.Build.{validated}
use Rattle.light_bvh.proofs.BuildLaws.{validated-refused, validated-next}
use Rattle.light_bvh.proofs.build.check_records.Goals as goal

pub loop-i-init : goal.loop-i-init
unfolding validated
loop-i-init c = refl

pub loop-i-preserved : goal.loop-i-preserved
loop-i-preserved c =
    validated-next c.args.block.now c.loop-i.i c.loop-i.invariant
    (rw c.light.ensures at (sym c.in_ok-validate.ensures))

pub returns-in_err-validate : goal.returns-in_err-validate
returns-in_err-validate c =
    let why = number c.in_err-validate.field-0.0 in
    let lost = validated-refused c.args.block.now (get_or c.args.block.now 0 0) c.loop-i.i why
    (rw c.row_count-i-end.ensures at c.loop-i-test.true) c.loop-i.invariant
    (rw c.light.ensures at (sym c.in_err-validate.ensures)) in
    let answer : answered c.from_residual.result ≡ refused why = search rules in
    answer ∙ sym lost
