-- `lamps::build_bounds::write_block`: its loop takes each lamp's bounds and writes them (BlockLoop). Assumes nothing.
use Rattle.lamps.proofs.BlockLoop.{Taking}
use Rattle.lamps.proofs.build_bounds.write_block.Given as goal

abbrev pub invariant-loop-place : goal.invariant-loop-place
invariant-loop-place l = Taking l.list l.m l.initial.block l.block l.place l.cursor.at
