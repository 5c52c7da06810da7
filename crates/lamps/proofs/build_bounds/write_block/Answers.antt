-- `lamps::build_bounds::write_block`: its loop takes each lamp's bounds and writes them (BlockLoop). Assumes nothing.
use mathlib.Core.Path.{sym, ◌∙◌}
use native.Mathlib.Omega.{arith}
use Rattle.words.specs.Refusals.{number}
use Rattle.lamps.proofs.BlockLoop.{taking-none, taking-next, taking-refused, taking-all}
use Rattle.lamps.proofs.BuildLaws.{list_counted}
use Rattle.lamps.proofs.build_bounds.write_block.Goals as goal

pub overflow_cast-block : goal.overflow_cast-block
overflow_cast-block c = let (rs, read, n, is, few) = list_counted c.args.list.now c.args.m
    c.requires.list_value in omega
    (arith, few)

pub loop-place-init : goal.loop-place-init
loop-place-init c = let args = c.args in
    let (rs, read, n, is, few) = list_counted args.list.now args.m c.requires.list_value in
    rw c.new-cursor.ensures (taking-none args.list.now args.m args.block.now few
    c.requires.m_in_bounds)

pub returns-in-Err : goal.returns-in-Err
returns-in-Err c = let (answer, block) =
    taking-refused c.args.block.now c.loop-place.invariant c.requires.list_value c.requires.m_in_bounds
    (number c.in-Err.why) (omega arith) (sym c.in-Err.ensures) in
    record { result_value = answer; block_after = rw c.block_words.ensures at c.zero_words.ensures ∙ block }

pub loop-place-preserved : goal.loop-place-preserved
loop-place-preserved c =
    rw c.write_row.ensures
    (taking-next c.loop-place.invariant c.in-Ok.passed (omega arith) (sym c.in-Ok.ensures))

pub returns : goal.returns
returns c = let (answer, block) =
    taking-all c.args.block.now c.loop-place.invariant c.requires.list_value c.requires.m_in_bounds (omega arith) in
    record { result_value = answer; block_after = block }
