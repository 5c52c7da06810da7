-- `packed_bvh::pack::pack_light_bvh`: the first checks leave the lent bytes as they are; then box, nodes and lamps
-- agree and the nodes are packed, or the reserve is zeroed. Assumes nothing.
use mathlib.Core.Path.{refl, sym}
use mathlib.Core.Option.{some}
use borrow.Author.Rules.{rules}
use Rattle.words.specs.Answers.{optional}
use Rattle.words.specs.Refusals.{number}
use Rattle.packed_bvh.proofs.PackLaws.{check-known, agreed-some, agreed-none, outcome-early, outcome_late}
use Rattle.packed_bvh.proofs.PackLaws.{outcome-agreed, outcome-nothing}
use Rattle.packed_bvh.proofs.pack.pack_light_bvh.Goals as goal
use Rattle.packed_bvh.proofs.pack.pack_light_bvh.Goals.{In_ok-n}

pub returns-in_err-n : goal.returns-in_err-n
returns-in_err-n c =
    let h =
    outcome-early c.args.nodes.now c.args.k (optional c.args.all_bounds) c.args.out.now (number c.in_err-n.field-0.0)
    (sym c.in_err-n.ensures) in
    record { result_value = rw (← h.0) (search rules); out_after = h.1 }

pub pack_nodes-requires : goal.pack_nodes-requires
pack_nodes-requires c =
    let at = (goal.at.pack_nodes-requires c).In_ok-n in
    let (counted, room) = check-known c.args.nodes.now c.args.out.now at.in_ok-n.n (sym at.in_ok-n.ensures) in
    record {
      n_nonzero = rw counted (agreed-some _ _ _ (sym (rw c.in-Ok-Some.field-0-is at c.in-Ok-Some.ensures)));
      n_in_bounds = room;
    }

pub returns-in-Ok-Some : goal.returns-in-Ok-Some
returns-in-Ok-Some c =
    let h =
    outcome-agreed c.args.nodes.now c.args.k (optional c.args.all_bounds) c.args.out.now c.in_ok-n.n
    (sym c.in_ok-n.ensures) (some c.in-Ok-Some.all)
    (sym (rw c.in-Ok-Some.field-0-is at c.in-Ok-Some.ensures)) c.pack_nodes.ensures.result_value
    c.pack_nodes.ensures.out_after in
    record { result_value = h.0; out_after = h.1 }

pub returns-in-Ok-None : goal.returns-in-Ok-None
returns-in-Ok-None c =
    let is = sym (rw c.in-Ok-None.field-0-is at c.in-Ok-None.ensures) in
    let h =
    outcome-nothing c.args.nodes.now c.args.k (optional c.args.all_bounds) c.args.out.now c.in_ok-n.n
    (sym c.in_ok-n.ensures) (agreed-none _ _ _ is) is in
    record { result_value = h.0; out_after = h.1 }

pub returns-in-Err : goal.returns-in-Err
returns-in-Err c =
    let h =
    outcome_late c.args.nodes.now c.args.k (optional c.args.all_bounds) c.args.out.now c.in_ok-n.n
    (sym c.in_ok-n.ensures) (number c.in-Err.why) (sym c.in-Err.ensures) refl c.zero_reserve.ensures in
    record { result_value = h.0; out_after = h.1 }
