-- `trig::series`: the loop counts the twenty turns down, and what the turns that are left give is what all twenty give.
-- Assumes nothing.
use Rattle.trig.specs.Series.{one64, series_step}
use Rattle.trig.proofs.Turns.{Turning}
use Rattle.trig.proofs.series.Given as goal

abbrev pub invariant-loop-m : goal.invariant-loop-m
invariant-loop-m g l = Turning (series_step g.row.S l.z) 20 one64 l.m l.q
