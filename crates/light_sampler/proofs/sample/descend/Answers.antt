-- The walk that is left comes to what the whole walk comes to. Assumes nothing.
use Prim.Native.Nat.{suc, ◌+◌, ◌-◌, ◌<◌, ◌^◌}
use mathlib.Core.Path.{◌≡◌, sym, ◌∙◌}
use native.Mathlib.Omega.{arith}
use Rattle.ieee.specs.Single.{onef}
use Rattle.std.proofs.Common.{rules}
use Rattle.words.specs.Answers.{given, refused}
use Rattle.words.specs.Refusals.{number}
use Rattle.words.specs.LittleEndian.{words_of}
use Rattle.words.proofs.LittleEndianLaws.{length-words_of}
use Rattle.light_rows.specs.Nodes.{interior, node_at}
use Rattle.light_sampler.specs.Sampler.{drawn}
use Rattle.light_sampler.specs.Walks.{descend}
use Rattle.light_sampler.proofs.WalkLaws.{node-within, descend-spent, descend-leaf, descend_unknown}
use Rattle.light_sampler.proofs.WalkLaws.{descend-refused, descend-neither, descend-left, descend-right}
use Rattle.light_sampler.proofs.sample.descend.Goals as goal
use Rattle.light_sampler.proofs.sample.descend.Goals.{In-loop, In-Interior, in-Left, in-Right}

-- one place may be entered, and then those that are left
going : (c : In-loop) → let args = c.args in
    let l = c.loop in
    (descend (words_of args.nodes.now) args.query (suc (args.count - (l.counter + 1))) l.place l.pmf l.u).outcome
    ≡ (descend (words_of args.nodes.now) args.query args.count 0 onef args.u).outcome
going c = let e : c.args.count - c.loop.counter ≡ suc (c.args.count - (c.loop.counter + 1)) = omega arith in
    rw e at c.loop.invariant

-- the interior node at the place
stands : (c : In-Interior) → let n = c.in-Interior in
    given (interior n.left_child n.right_child n.parent) ≡ node_at (words_of c.args.nodes.now) c.loop.place
stands c = rw c.in-Interior.is at c.in_ok-light_handle.ensures

-- it stands within the bytes, which are fewer than 2^63
near : (c : In-Interior) → c.loop.place < 2 ^ 60
near c =
    let bytes = c.args.nodes.now in
    let within = node-within (words_of bytes) c.loop.place (stands c) in
    omega (arith, within, length-words_of bytes, c.well_formed.0)

pub turn-requires : goal.turn-requires
turn-requires c = near c

pub overflow_add-place : goal.overflow_add-place
overflow_add-place c = omega (arith, near (goal.at.overflow_add-place c).In-Interior)

pub returns-in_err-light_handle : goal.returns-in_err-light_handle
returns-in_err-light_handle c =
    let refusal : drawn c.from_residual.result ≡ refused (number c.in_err-light_handle.field-0.0) = search rules in
    refusal ∙ sym (descend_unknown _ _ _ _ _ _ c.in_err-light_handle.ensures)
    ∙ going (goal.at.returns-in_err-light_handle c).In-loop

pub returns-in-Leaf : goal.returns-in-Leaf
returns-in-Leaf c =
    sym (descend-leaf _ _ _ _ _ _ (rw c.in-Leaf.is at c.in_ok-light_handle.ensures))
    ∙ going (goal.at.returns-in-Leaf c).In-loop

pub returns-in_err-to-in-Interior : goal.returns-in_err-to-in-Interior
returns-in_err-to-in-Interior c = let at = goal.at.returns-in_err-to-in-Interior c in
    let why = c.in_err-to-in-Interior in
    let refusal : drawn c.from_residual-in_err-to-in-Interior.result ≡ refused (number why.field-0.0) = search rules in
    refusal ∙ sym (descend-refused _ _ _ _ _ _ (stands at.In-Interior) c.prepare-held.ensures why.ensures)
    ∙ going at.In-loop

pub returns-in_default : goal.returns-in_default
returns-in_default c = let at = goal.at.returns-in_default c in
    let nowhere = rw c.in_default.is at c.in_ok-to-in-Interior.ensures in
    sym (descend-neither _ _ _ _ _ _ (stands at.In-Interior) c.prepare-held.ensures nowhere) ∙ going at.In-loop

pub loop-preserved : goal.loop-preserved
loop-preserved c = let at = goal.at.loop-preserved c in
    let node = stands at.In-Interior in
    let to = rw c.in-Some.is at c.in_ok-to-in-Interior.ensures in
    elim c.match-to.branch [
      | in-Left w ↦
          rw w.place-is
          (sym (descend-left _ _ _ _ _ _ node c.prepare-held.ensures (rw w.in-Left.is at to)) ∙ going at.In-loop)
      | in-Right w ↦
          rw w.place-is
          (sym (descend-right _ _ _ _ _ _ node c.prepare-held.ensures (rw w.in-Right.is at to)) ∙ going at.In-loop)
    ]

pub returns : goal.returns
returns c = let e : c.args.count - c.loop.counter ≡ 0 = omega arith in
    sym (descend-spent _ _ _ _ _) ∙ (rw e at c.loop.invariant)
