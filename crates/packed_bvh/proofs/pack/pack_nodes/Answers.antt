-- `packed_bvh::pack::pack_nodes`: after i turns the words of i nodes stand behind the header (Packing); the first node
-- that is refused zeroes them all. Assumes nothing.
use mathlib.Core.Path.{sym}
use native.Mathlib.Omega.{arith}
use Rattle.words.specs.Refusals.{number}
use Rattle.packed_bvh.proofs.PackLaws.{packing-none, packing-one, outcome-refused, outcome-given}
use Rattle.packed_bvh.proofs.pack.pack_nodes.Goals as goal

pub loop-i-init : goal.loop-i-init
loop-i-init c = packing-none _ _ _ _

pub loop-i-preserved : goal.loop-i-preserved
loop-i-preserved c =
    packing-one _ _ _ c.in-Ok.words c.loop-i.invariant (sym c.in-Ok.ensures) (omega arith) c.write_words-in-Ok.ensures

pub returns-in-Err : goal.returns-in-Err
returns-in-Err c =
    let h =
    outcome-refused _ _ _ _ c.requires.n_nonzero c.requires.n_in_bounds
    (rw c.header.ensures at c.write_words.ensures) c.loop-i.invariant (number c.in-Err.why)
    c.loop-i-test.true (sym c.in-Err.ensures) c.zero_reserve.ensures in
    record { result_value = h.0; out_after = h.1 }

pub returns : goal.returns
returns c =
    let h =
    outcome-given _ _ _ _ c.requires.n_nonzero c.requires.n_in_bounds
    (rw c.header.ensures at c.write_words.ensures) c.loop-i.invariant (omega arith) in
    record { result_value = h.0; out_after = h.1 }
