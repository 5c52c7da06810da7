-- `lamps::lamp_list::check_lamps`: the lamps before `i` are read, and `placed` says whether their handles are their
-- places. Assumes nothing.
use Prim.Native.Nat.{◌+◌}
use mathlib.Core.Path.{◌≡◌, refl, ap, sym, ◌∙◌}
use mathlib.Core.List.{[], ◌∷◌, ◌++◌}
use native.Mathlib.Omega.{arith}
use borrow.Author.Tests.{eq-eqb, ne_eqb}
use lib.ListN.{length, get_or}
use Rattle.std.proofs.Common.{rules}
use Rattle.words.specs.Answers.{given}
use Rattle.words.specs.Refusals.{number}
use Rattle.words.proofs.RowLaws.{walked_none, walked_one}
use Rattle.lamps.specs.LampList.{in_place}
use Rattle.lamps.proofs.WalkLaws.{lamp_walk, in_place-snoc, placed-refused, placed_ragged, placed-all}
use Rattle.lamps.proofs.lamp_list.check_lamps.Goals as goal

pub loop-i-init : goal.loop-i-init
unfolding in_place
loop-i-init c = let list = c.args.list.now in (
  c.wide-m.ensures ∙ c.word_or_zero.ensures,
  ([], rw c.new-cursor.ensures (walked_none (lamp_walk list) (get_or list 0 0) 1), refl),
)

pub returns-in_err-reading : goal.returns-in_err-reading
returns-in_err-reading c = let (m, (done, walked, placed)) = c.loop-i.invariant in
    rw (placed-refused c.args.list.now walked (number c.in_err-reading.field-0.0) (omega (arith, m))
    (sym c.in_err-reading.ensures)) (search rules)

pub loop-i-preserved : goal.loop-i-preserved
loop-i-preserved c = let list = c.args.list.now in
    let (m, (done, walked, placed)) = c.loop-i.invariant in
    let r = c.in_ok-reading.reading in
    let z : 0 + length done ≡ c.loop-i.i = omega (arith, walked.size) in (
      m,
      (
        done ++ r ∷ [],
        walked_one (lamp_walk list) r walked (omega (arith, m)) (sym c.in_ok-reading.ensures),
        c.still_placed-placed.ensures ∙ rw (placed, c.handle.ensures, in_place-snoc 0 done r, z),
      ),
    )

pub returns-then-cursor-list : goal.returns-then-cursor-list
returns-then-cursor-list c = let (m, (done, walked, placed)) = c.loop-i.invariant in
    rw (placed_ragged c.args.list.now walked (omega (arith, m)) (ne_eqb _ _ c.if-cursor-list.true))

pub returns-then-not-placed : goal.returns-then-not-placed
returns-then-not-placed c = let (m, (done, walked, placed)) = c.loop-i.invariant in
    rw (
      placed-all c.args.list.now walked (omega (arith, m)) (eq-eqb _ _ c.if-cursor-list.false),
      ← placed,
      c.if-not-placed.true,
    )

pub returns : goal.returns
returns c = let (m, (done, walked, placed)) = c.loop-i.invariant in
    rw (
      placed-all c.args.list.now walked (omega (arith, m)) (eq-eqb _ _ c.if-cursor-list.false),
      ← placed,
      c.if-not-placed.false,
    ) (ap given (omega (arith, m, walked.size, walked.within)))
