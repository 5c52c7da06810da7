-- `light_rows::record_words::write_record`: there is room, or nothing is written. Assumes nothing.
use Rattle.std.proofs.Common.{◌+◌, ◌≤◌, ◌∙◌, sym, append_assoc, length, arith}
use borrow.Author.Tests.{leb-true}
use borrow.Rule.Slice.PartMut.{Post-is}
use lib.Seq.{sets-eq}
use Rattle.light_rows.specs.AsCoded.RecordRow.{written_at}
use Rattle.light_rows.specs.RecordWords.{record_words, record_list}
use Rattle.light_rows.proofs.record_words.write_record.Goals as goal

pub returns-then-fits : goal.returns-then-fits
unfolding written_at record_list
returns-then-fits c = let ws = c.args.words.now in
    let at = c.args.at in
    let r = record_list c.args.«record» in
    let fit = sym c.fits.ensures ∙ c.if-fits.true in
    let room : at + record_words ≤ length ws = leb-true _ _ fit in
    simp (
      fit,
      c.copy_from_slice.ensures.after,
      c.words_of_record.ensures,
      Post-is at (at + record_words) ws (omega arith),
    ) (sym (sets-eq r ws at room ∙ append_assoc _ r _))
