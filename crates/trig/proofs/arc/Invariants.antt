-- `trig::arc`: the loop counts the sixteen turns down, and the argument times what they give is K. Assumes nothing.
use Rattle.trig.specs.Series.{one64, arc_step}
use Rattle.trig.proofs.Turns.{Turning}
use Rattle.trig.proofs.arc.Given as goal

abbrev pub invariant-loop-m : goal.invariant-loop-m
invariant-loop-m l = Turning (arc_step l.z) 16 one64 l.m l.p
