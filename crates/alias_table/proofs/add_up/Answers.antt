-- `alias_table::add_up`: the sums of the weights passed go on to the sums of all, and a bad weight ends the pass.
-- Assumes nothing.
use mathlib.Core.Path.{refl}
use native.Mathlib.Omega.{arith}
use lib.Ieee.{of_bits}
use Rattle.alias_table.proofs.WeightLaws.{bad_infinite, bad-below, sums_next, sums_stop, sums-all}
use Rattle.alias_table.proofs.add_up.Goals as goal
use Rattle.alias_table.proofs.add_up.Goals.{then-not-is_finite-via-then-not-is_finite}
use Rattle.alias_table.proofs.add_up.Goals.{then-not-is_finite-via-else-not-is_finite+then-w}

pub loop-word-init : goal.loop-word-init
unfolding of_bits
loop-word-init c = record { within = omega arith; then = refl }

pub returns-then-not-is_finite : goal.returns-then-not-is_finite
unfolding of_bits
returns-then-not-is_finite c = sums_stop c.loop-word.invariant (omega arith) c.of_word-w.ensures
    (elim c.then-not-is_finite.branch [
      | then-not-is_finite-via-then-not-is_finite w ↦ bad_infinite _ w.if-not-is_finite.ensures.value
      | then-not-is_finite-via-else-not-is_finite+then-w w ↦ bad-below _ w.if-w.true
    ])

pub loop-word-preserved : goal.loop-word-preserved
unfolding of_bits
loop-word-preserved c = rw c.widen-double.ensures
    (sums_next c.loop-word.invariant (omega arith) c.of_word-w.ensures
    c.if-not-is_finite.ensures.value c.if-w.false)

pub returns : goal.returns
returns c = sums-all c.loop-word.invariant (omega arith)
