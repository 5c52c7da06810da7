-- The test of the room decides between all of the digits and none. Assumes nothing.
use mathlib.Core.Path.{sym, ◌∙◌}
use borrow.Author.Rules.{rules}
use Rattle.text.specs.Text.{decimal_bytes}
use Rattle.text.proofs.PutLaws.{room-told, laid_all, laid-none, length_decimal}
use Rattle.text.proofs.put_decimal.Goals as goal

pub lay_digits-requires : goal.lay_digits-requires
lay_digits-requires c = (search rules, search rules, room-told c.fits.ensures c.if-fits.true)

pub returns-then-fits : goal.returns-then-fits
unfolding decimal_bytes
returns-then-fits c =
    let counted = c.places-count.ensures.value in
    let h = laid_all _ _ _ _ (length_decimal c.args.n ∙ sym counted) (sym c.fits.ensures ∙ c.if-fits.true)
    (rw counted at c.lay_digits.ensures) in
    record { out_after = h.0; value = h.1 }

pub returns : goal.returns
returns c =
    let h = laid-none _ _ _ _ (length_decimal c.args.n ∙ sym c.places-count.ensures.value)
    (sym c.fits.ensures ∙ c.if-fits.false) in
    record { out_after = h.0; value = h.1 }
