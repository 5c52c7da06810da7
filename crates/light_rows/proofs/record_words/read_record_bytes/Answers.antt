-- `light_rows::record_words::read_record_bytes` judges what it fetches, where there are words enough. Assumes nothing.
use Prim.Native.Nat.{◌+◌, ◌*◌, ◌-◌}
use mathlib.Core.Path.{◌≡◌, ap, sym, ◌∙◌}
use native.Mathlib.Omega.{arith}
use borrow.Author.Tests.{leb-true}
use Rattle.words.specs.LittleEndian.{words_of}
use Rattle.words.proofs.LittleEndianLaws.{length-words_of}
use Rattle.light_rows.specs.AsCoded.RecordRow.{judged_row}
use Rattle.light_rows.specs.Laws.RecordPlaces.{record_at-is, record_at-past, row-part}
use Rattle.light_rows.specs.RecordWords.{record_words}
use Rattle.light_rows.proofs.record_words.read_record_bytes.Goals as goal

pub returns-then-fits : goal.returns-then-fits
returns-then-fits c = let args = c.args in
    let size : 4 * args.at + 4 * record_words - 4 * args.at ≡ 4 * record_words = omega arith in
    c.judged.ensures
    ∙ ap (judged_row 12)
    (rw size at c.row_at.ensures ∙ row-part args.bytes.now args.at (leb-true _ _ (sym c.fits.ensures ∙ c.if-fits.true)))
    ∙ sym (record_at-is 12 (words_of args.bytes.now) args.at
    (rw length-words_of (sym c.fits.ensures ∙ c.if-fits.true)))

pub returns : goal.returns
returns c = let args = c.args in
    sym (record_at-past 12 (words_of args.bytes.now) args.at
    (rw length-words_of (sym c.fits.ensures ∙ c.if-fits.false)))
