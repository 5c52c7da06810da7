-- The test of the room decides between all of the line and none. Assumes nothing.
use Prim.Native.Nat.{◌+◌}
use mathlib.Core.Path.{sym, ◌∙◌}
use borrow.Author.Tests.{leb-true}
use Rattle.text.proofs.PutLaws.{laid_all, laid-none, length_refusal}
use Rattle.text.proofs.put_refused.Goals as goal

pub lay_refused-requires : goal.lay_refused-requires
lay_refused-requires c = let counted = c.places-k.ensures in
    (counted.value, counted.upper_bound, leb-true _ _ (sym c.fits.ensures ∙ c.if-fits.true))

pub returns-then-fits : goal.returns-then-fits
returns-then-fits c =
    let h = laid_all _ _ _ (9 + c.places-k.result) (length_refusal _ ∙ rw c.places-k.ensures.value)
    (sym c.fits.ensures ∙ c.if-fits.true) c.lay_refused.ensures in
    rw (← c.number-n.ensures) (record { out_after = h.0; value = h.1 })

pub returns : goal.returns
returns c =
    let h = laid-none _ _ _ (9 + c.places-k.result)
    (length_refusal c.number-n.result ∙ rw c.places-k.ensures.value)
    (sym c.fits.ensures ∙ c.if-fits.false) in
    rw (← c.number-n.ensures) (record { out_after = h.0; value = h.1 })
