-- `light_bvh::build::build_light_bvh`: a check of the block or of the lent words refuses, or a record does, or the rows
-- are built. Assumes nothing.
use Rattle.std.proofs.Common.{rules, ◌≡◌, sym, ◌∙◌}
use Rattle.words.specs.Answers.{refused}
use Rattle.words.specs.Refusals.{number}
use Rattle.light_bvh.specs.Build.{built}
use Rattle.light_bvh.proofs.BuildLaws.{check-again, outcome-early, outcome_late, outcome-rows}
use Rattle.light_bvh.proofs.build.build_light_bvh.Goals as goal

pub returns-in_err-check_build : goal.returns-in_err-check_build
returns-in_err-check_build c =
    let args = c.args in
    let why = number c.in_err-check_build.field-0.0 in
    let h = outcome-early args.lights args.block.now args.nodes.now args.table.now args.work.now why
    (sym c.in_err-check_build.ensures) in
    let answer : built c.from_residual.result ≡ refused why = search rules in
    record { result_value = answer ∙ h.0; nodes_after = h.1.0; table_after = h.1.1.0; work_after = h.1.1.1 }

pub returns-in-Err : goal.returns-in-Err
returns-in-Err c =
    let args = c.args in
    let told = rw c.row_count.ensures at c.zero_reserves.ensures in
    let h = outcome_late args.lights args.block.now args.nodes.now args.table.now args.work.now
    (sym c.in_ok-check_build.ensures) (number c.in-Err.why) (sym c.in-Err.ensures) told.nodes_after told.table_after
    told.work_after in
    record { result_value = h.0; nodes_after = h.1.0; table_after = h.1.1.0; work_after = h.1.1.1 }

pub build_rows-requires : goal.build_rows-requires
build_rows-requires c = check-again _ _ _ _ _ _ (sym c.in_ok-check_build.ensures)

pub returns : goal.returns
returns c =
    let args = c.args in
    let told = c.build_rows.ensures in
    let h = outcome-rows args.lights args.block.now args.nodes.now args.table.now args.work.now
    (sym c.in_ok-check_build.ensures) (sym c.in_default.ensures) told.result_value told.nodes_after told.table_after
    told.work_after in
    record { result_value = h.0; nodes_after = h.1.0; table_after = h.1.1.0; work_after = h.1.1.1 }
