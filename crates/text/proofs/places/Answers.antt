-- Each turn takes a digit off, as each step of the definition does. Assumes nothing.
use native.Mathlib.Omega.{arith}
use Rattle.text.proofs.PutLaws.{counted-one, counted_next, counted-small, counted_ten}
use Rattle.text.proofs.places.Goals as goal

pub loop-k-init : goal.loop-k-init
loop-k-init c = counted-one

pub loop-k-preserved : goal.loop-k-preserved
loop-k-preserved c = counted_next (omega arith) (omega arith) c.loop-k.invariant

pub returns-else-rest-ge10 : goal.returns-else-rest-ge10
returns-else-rest-ge10 c =
    record { value = counted-small (omega arith) c.loop-k.invariant; upper_bound = c.loop-k.invariant.few }

pub returns-after-loop-k : goal.returns-after-loop-k
returns-after-loop-k c =
    record { value = counted_ten (omega arith) c.loop-k.invariant; upper_bound = c.loop-k.invariant.few }
