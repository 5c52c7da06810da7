-- The words so far stand there. Assumes nothing.
use lib.ListN.{take}
use Rattle.packed_bvh.proofs.PackLaws.{Words}
use Rattle.packed_bvh.proofs.pack.write_words.Given as goal

abbrev pub invariant-loop-i : goal.invariant-loop-i
invariant-loop-i l = Words l.initial.out l.place (take l.i l.words) l.out
