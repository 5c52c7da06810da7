-- `light_rows::nodes::bounds_at`: there are words enough, and its record is read, or there is none. Assumes nothing.
use mathlib.Core.Path.{sym}
use Rattle.words.specs.LittleEndian.{words_of}
use Rattle.words.proofs.LittleEndianLaws.{length-words_of}
use Rattle.light_rows.specs.Nodes.{bounds_at}
use Rattle.light_rows.specs.Laws.TreeLaws.{bounds_at-past}
use Rattle.light_rows.proofs.nodes.bounds_at.Goals as goal

pub returns-then-place-nodes : goal.returns-then-place-nodes
unfolding bounds_at
returns-then-place-nodes c = c.read_record_bytes.ensures

pub returns : goal.returns
returns c = let args = c.args in
    sym (bounds_at-past (words_of args.nodes.now) args.place (rw length-words_of c.if-place-nodes.false))
