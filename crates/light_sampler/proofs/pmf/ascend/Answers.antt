-- The walk that is left comes to what the whole walk comes to. Assumes nothing.
use Prim.Native.Nat.{suc, ◌+◌, ◌-◌}
use mathlib.Core.Path.{◌≡◌, sym, ◌∙◌}
use lib.Ieee.{of_bits}
use native.Mathlib.Nat.{sub-zero}
use native.Mathlib.Omega.{arith}
use Rattle.ieee.specs.Single.{onef}
use Rattle.std.proofs.Common.{rules}
use Rattle.words.specs.Answers.{answered, refused}
use Rattle.words.specs.Refusals.{number}
use Rattle.words.specs.LittleEndian.{words_of}
use Rattle.light_rows.specs.Nodes.{invalid_index}
use Rattle.light_sampler.specs.Walks.{ascend}
use Rattle.light_sampler.proofs.WalkLaws.{ascend_unknown, ascend-spent, ascend-root}
use Rattle.light_sampler.proofs.WalkLaws.{ascend-refused, ascend-nought, ascend-part, ascend-past}
use Rattle.light_sampler.proofs.pmf.ascend.Goals as goal
use Rattle.light_sampler.proofs.pmf.ascend.Goals.{In-loop, Else-parent}

-- one place may be entered, and then those that are left
going : (c : In-loop) → let args = c.args in
    let l = c.loop in
    (ascend (words_of args.nodes.now) args.query (suc (args.count - (l.counter + 1))) l.place l.pmf).outcome
    ≡ (ascend (words_of args.nodes.now) args.query args.count args.leaf onef).outcome
going c = let e : c.args.count - c.loop.counter ≡ suc (c.args.count - (c.loop.counter + 1)) = omega arith in
    rw e at c.loop.invariant.walk

-- the place is not the root's
inner : (c : Else-parent) → c.parent-parent.result ≡ invalid_index → ⊥
inner c = c.if-parent.false

pub loop-init : goal.loop-init
unfolding of_bits
loop-init c = record { stands = c.in_ok-here.ensures; walk = simp sub-zero }

pub returns-in_err-here : goal.returns-in_err-here
returns-in_err-here c =
    let refusal : answered c.from_residual.result ≡ refused (number c.in_err-here.field-0.0) = search rules in
    refusal ∙ sym (ascend_unknown _ _ _ _ _ c.in_err-here.ensures)

pub returns-then-parent : goal.returns-then-parent
returns-then-parent c =
    sym (ascend-root _ _ _ _ _ c.loop.invariant.stands c.parent-parent.ensures c.if-parent.true)
    ∙ going (goal.at.returns-then-parent c).In-loop

pub returns-in_err-above : goal.returns-in_err-above
returns-in_err-above c = let at = goal.at.returns-in_err-above c in
    let why = c.in_err-above in
    let refusal : answered c.from_residual-in_err-above.result ≡ refused (number why.field-0.0) = search rules in
    refusal ∙ sym (ascend-past _ _ _ _ _ c.loop.invariant.stands c.parent-parent.ensures c.prepare-held.ensures
    (inner at.Else-parent) why.ensures)
    ∙ going at.In-loop

pub returns-in_err-share : goal.returns-in_err-share
returns-in_err-share c = let at = goal.at.returns-in_err-share c in
    let why = c.in_err-share in
    let refusal : answered c.from_residual-in_err-share.result ≡ refused (number why.field-0.0) = search rules in
    refusal ∙ sym (ascend-refused _ _ _ _ _ c.loop.invariant.stands c.parent-parent.ensures c.prepare-held.ensures
    (inner at.Else-parent) why.ensures)
    ∙ going at.In-loop

pub returns-in_default : goal.returns-in_default
unfolding of_bits
returns-in_default c = let at = goal.at.returns-in_default c in
    sym (ascend-nought _ _ _ _ _ c.loop.invariant.stands c.parent-parent.ensures c.prepare-held.ensures
    (inner at.Else-parent) (rw c.in_default.is at c.in_ok-share.ensures))
    ∙ going at.In-loop

pub loop-preserved : goal.loop-preserved
loop-preserved c = let at = goal.at.loop-preserved c in record {
  stands = c.in_ok-above.ensures;
  walk =
      sym (ascend-part _ _ _ _ _ c.loop.invariant.stands c.parent-parent.ensures c.prepare-held.ensures
      (inner at.Else-parent) (rw c.in-Some.is at c.in_ok-share.ensures))
      ∙ going at.In-loop;
}

pub returns : goal.returns
returns c = let e : c.args.count - c.loop.counter ≡ 0 = omega arith in
    sym (ascend-spent _ _ _ _) ∙ (rw e at c.loop.invariant.walk)
