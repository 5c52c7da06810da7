-- The test of the room decides between all of the text and none. Assumes nothing.
use mathlib.Core.Path.{sym, ◌∙◌}
use Rattle.text.proofs.PutLaws.{put_all, put-none}
use Rattle.text.proofs.put_text.Goals as goal

pub returns-then-fits : goal.returns-then-fits
returns-then-fits c =
    let h = put_all _ _ c.args.text.now (sym c.fits.ensures ∙ c.if-fits.true) c.copy_from_slice.ensures.after in
    record { out_after = h.0; value = h.1 }

pub returns : goal.returns
returns c =
    let h = put-none _ _ c.args.text.now (sym c.fits.ensures ∙ c.if-fits.false) in
    record { out_after = h.0; value = h.1 }
