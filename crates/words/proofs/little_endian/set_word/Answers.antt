-- `words::little_endian::set_word`: the four bytes written over a stretch are the definition's stores. Assumes nothing.
use Rattle.std.proofs.Common.{◌+◌, ◌*◌, ◌∙◌, sym, append_assoc, arith}
use borrow.Author.Tests.{lt-ltb, le-ltb}
use borrow.Rule.Slice.PartMut.{Post-is}
use lib.Seq.{sets-eq}
use Rattle.words.specs.LittleEndian.{bytes_of_word}
use Rattle.words.specs.AsCoded.WordSlices.{set_word}
use Rattle.words.proofs.little_endian.set_word.Goals as goal

pub returns-then-place-bytes : goal.returns-then-place-bytes
unfolding set_word
returns-then-place-bytes c =
    let bytes = c.args.bytes.now in
    let at = 4 * c.args.place in
    let w = bytes_of_word c.args.w in
    simp (
      lt-ltb _ _ c.if-place-bytes.true,
      c.copy_from_slice.ensures.after,
      c.to_le_bytes.ensures,
      Post-is at (at + 4) bytes (omega arith),
    ) (sym (sets-eq w bytes at (omega arith) ∙ append_assoc _ w _))

pub returns-else-place-bytes : goal.returns-else-place-bytes
unfolding set_word
returns-else-place-bytes c = simp (le-ltb _ _ c.if-place-bytes.false)
