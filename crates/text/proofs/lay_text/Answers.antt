-- Each turn writes a byte behind those that are written. Assumes nothing.
use native.Mathlib.Omega.{arith}
use Rattle.text.proofs.PutLaws.{texted-none, texted-next, texted-all}
use Rattle.text.proofs.lay_text.Goals as goal

pub loop-i-init : goal.loop-i-init
loop-i-init c = texted-none c.requires

pub loop-i-preserved : goal.loop-i-preserved
loop-i-preserved c = texted-next (omega arith) c.loop-i.invariant

pub shape_of-out : goal.shape_of-out
shape_of-out c = c.loop-i.invariant.same

pub returns : goal.returns
returns c = texted-all (omega arith) c.loop-i.invariant
