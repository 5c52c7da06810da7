-- A walk that gathers a list, as loops over a list of lamps take it. Definitions only. Assumes nothing.
use Rattle.std.specs.Prelude.{ℕ, zero, suc, List, ◌∷◌}
use Rattle.words.specs.Answers.{Answer, given, ◌then◌}

-- a walk that gathers a list: what a step from a place gives, the item taken of it, the place past it, and what the
-- place behind the last step answers
pub record Walk (A B : Type 0) : Type 0 where
  pub step : ℕ → Answer A
  pub item : A → B
  pub past : A → ℕ
  pub end : ℕ → Answer (List B)

-- so many steps from a place on
unfoldable pub gathered : {A B : Type 0} → Walk A B → ℕ → ℕ → Answer (List B)
gathered w zero at = w.end at
gathered w (suc n) at = w.step at then λ a. gathered w n (w.past a) then λ bs. given (w.item a ∷ bs)
