-- By the refusal: four leave the tray, and the others zero its reserve. Assumes nothing.
use Prim.Native.Nat.{◌≤◌, ◌<◌}
use mathlib.Core.Path.{◌≡◌, refl, sym, ◌∙◌}
use mathlib.Core.Logic.{◌⊎◌, inl, inr}
use native.Mathlib.Omega.{arith}
use Rattle.words.specs.Refusals.{number}
use Rattle.words.specs.declared.refusals.Refusal.{Refusal}
use Rattle.words.specs.declared.refusals.Refusal.TheVariants.{Ragged, Crowded, ShortTray, Misplaced}
use Rattle.words.specs.Laws.TrayLaws.{tray-early}
use Rattle.words.proofs.Reserves.{tray-zeroed}
use Rattle.light_c.specs.Codes.{answer_reserve, summary_list}
use Rattle.light_c.proofs.refuse_build.Goals as goal
use Rattle.light_c.proofs.refuse_build.Goals.{in-Ragged, in_default}

early : (why : Refusal) → (why ≡ Ragged) ⊎ (why ≡ Crowded) ⊎ (why ≡ ShortTray) ⊎ (why ≡ Misplaced) → number why ≤ 4
early why (inl e) = rw e (omega arith)
early why (inr (inl e)) = rw e (omega arith)
early why (inr (inr (inl e))) = rw e (omega arith)
early why (inr (inr (inr e))) = rw e (omega arith)

late : (why : Refusal) → (why ≡ Ragged → ⊥) → (why ≡ Crowded → ⊥) → (why ≡ ShortTray → ⊥) → (why ≡ Misplaced → ⊥) →
    4 < number why
late why a b c d = grind arith

pub returns-clause-answer_after : goal.returns-clause-answer_after
returns-clause-answer_after c = let answer = c.args.answer.now in
    elim c.match-why.branch [
      | in-Ragged w ↦ let n = early c.args.why w.in-Ragged.is in
          w.answer-is ∙ sym (tray-early summary_list answer_reserve answer _ n)
      | in_default w ↦ let d = w.in_default in
          w.answer-is ∙ w.zero_words.ensures
          ∙ tray-zeroed summary_list answer_reserve answer answer _ c.requires refl
          (late c.args.why d.not-Ragged d.not-Crowded d.not-ShortTray d.not-Misplaced)
    ]
