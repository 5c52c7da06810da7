-- `alias_table::make_whole`: the bins of the entries passed are whole, whichever bins the words are those of. Assumes
-- nothing.
use Prim.Native.Nat.{◌*◌}
use mathlib.Core.Path.{◌≡◌}
use lib.ListN.{length, drop}
use Rattle.std.specs.Slice.Iter.{chunks_exact_rest, chunks_exact_size}
use Rattle.alias_table.proofs.LoopLaws.{Wholing}
use Rattle.alias_table.proofs.make_whole.Given as goal

abbrev pub invariant-loop-entry : goal.invariant-loop-entry
invariant-loop-entry l = record {
  size : chunks_exact_size l.entry-iterator ≡ 2;
  rest : chunks_exact_rest l.entry-iterator ≡ drop (2 * length l.yielded) l.stack;
  wholing : Wholing l.initial.bins l.stack l.bins (length l.yielded);
}
