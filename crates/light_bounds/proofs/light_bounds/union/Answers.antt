-- `light_bounds::light_bounds::union`: either operand that fails is 10. Assumes nothing.
use mathlib.Core.Path.{◌≡◌, ap, sym, ◌∙◌}
use mathlib.Core.Bool.{true, false}
use Rattle.std.specs.Prelude.{Result, Ok, Err}
use Rattle.std.specs.Result.{is_err}
use Rattle.words.specs.Answers.{Answer, ◌then◌, given, refused, answered}
use Rattle.words.specs.declared.refusals.Refusal.{Refusal}
use Rattle.light_bounds.specs.LightBounds.{union, operand}
use Rattle.light_bounds.proofs.light_bounds.union.Goals as goal
use Rattle.light_bounds.proofs.light_bounds.union.Goals.{then-is_err-via-then-is_err}
use Rattle.light_bounds.proofs.light_bounds.union.Goals.{then-is_err-via-else-is_err+then-is_err-2}

-- an operand by its test
failed : (r : Result (Unit {0}) Refusal) (x : Answer (Unit {0})) → answered r ≡ x → is_err r ≡ true →
    operand x ≡ refused 10
failed (Ok u) x e h = cc
failed (Err why) x e h = ap operand (sym e)

passed : (r : Result (Unit {0}) Refusal) (x : Answer (Unit {0})) → answered r ≡ x → is_err r ≡ false →
    operand x ≡ given tt
passed (Ok u) x e h = ap operand (sym e)
passed (Err why) x e h = cc

pub returns-then-is_err : goal.returns-then-is_err
unfolding union ◌then◌
returns-then-is_err c = elim c.then-is_err.branch [
  | then-is_err-via-then-is_err w ↦ rw (failed _ _ c.validate.ensures (sym c.is_err.ensures.value ∙ w.if-is_err.true))
  | then-is_err-via-else-is_err+then-is_err-2 w ↦
      rw (passed _ _ c.validate.ensures (sym c.is_err.ensures.value ∙ w.if-is_err.false))
      (rw (failed _ _ w.validate-else-is_err.ensures
      (sym w.is_err-else-is_err.ensures.value ∙ w.if-is_err-2.true)))
]

pub returns : goal.returns
unfolding union ◌then◌
returns c =
    rw (passed _ _ c.validate.ensures (sym c.is_err.ensures.value ∙ c.if-is_err.false))
    (rw (passed _ _ c.validate-else-is_err.ensures
    (sym c.is_err-else-is_err.ensures.value ∙ c.if-is_err-2.false))
    (ap given c.join.ensures))
