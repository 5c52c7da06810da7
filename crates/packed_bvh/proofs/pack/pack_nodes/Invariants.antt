-- `packed_bvh::pack::pack_nodes`: after i turns the words of i nodes stand behind the header (Packing). Assumes
-- nothing.
use Rattle.words.specs.LittleEndian.{words_of}
use Rattle.packed_bvh.proofs.PackLaws.{Packing}
use Rattle.packed_bvh.proofs.pack.pack_nodes.Given as goal

abbrev pub invariant-loop-i : goal.invariant-loop-i
invariant-loop-i l = Packing l.all (words_of l.nodes) l.n l.i l.initial.out l.out
