-- `light_report::lines::put_lines`: a turn puts a group's line behind those that are written. Assumes nothing.
use Prim.Native.Nat.{◌*◌, ◌/◌}
use mathlib.Core.Path.{◌≡◌}
use lib.ListN.{length, drop}
use Rattle.std.specs.Slice.Iter.{chunks_exact_rest, chunks_exact_size}
use Rattle.light_report.proofs.Reported.{Reported}
use Rattle.light_report.proofs.lines.put_lines.Given as goal

abbrev pub invariant-loop-group : goal.invariant-loop-group
invariant-loop-group l = record {
  size : chunks_exact_size l.group-iterator ≡ 28;
  rest : chunks_exact_rest l.group-iterator ≡ drop (28 * length l.yielded) l.groups;
  lines : Reported l.tree.nodes.now l.tree.table.now l.groups l.initial.out (length l.groups / 28) l.out l.at
      (length l.yielded);
}
