-- Each turn writes the last digit of what is left, before those that are written. Assumes nothing.
use native.Mathlib.Omega.{arith}
use Rattle.text.proofs.PutLaws.{spelled_none, spelled-next, spelled-all, spelled-digit-few}
use Rattle.text.proofs.lay_digits.Goals as goal

pub loop-i-init : goal.loop-i-init
loop-i-init c = spelled_none c.requires

pub glyph-requires : goal.glyph-requires
glyph-requires c = spelled-digit-few c.loop-i.invariant

pub loop-i-preserved : goal.loop-i-preserved
loop-i-preserved c = rw c.glyph.ensures (spelled-next (omega arith) c.loop-i.invariant)

pub shape_of-out : goal.shape_of-out
shape_of-out c = c.loop-i.invariant.same

pub returns : goal.returns
returns c = spelled-all (omega arith) c.loop-i.invariant
