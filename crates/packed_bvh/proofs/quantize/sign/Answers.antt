-- `packed_bvh::quantize::sign`: by the sign's bit. Assumes nothing.
use lib.Ieee.{neg, of_bits}
use Rattle.packed_bvh.specs.Quantize.{sign}
use Rattle.packed_bvh.proofs.quantize.sign.Goals as goal

pub returns-then-is_sign_negative : goal.returns-then-is_sign_negative
unfolding sign neg of_bits
returns-then-is_sign_negative c = rw (← c.is_sign_negative.ensures, c.if-is_sign_negative.true)

pub returns-else-is_sign_negative : goal.returns-else-is_sign_negative
unfolding sign
returns-else-is_sign_negative c = rw (← c.is_sign_negative.ensures, c.if-is_sign_negative.false)
