-- What a definition answers: a value, or the number of a refusal (docs/REQUIREMENTS.md R11). What code returns is
-- mapped to such an answer, and the promises speak of the answer. Definitions only. Assumes nothing.
use Rattle.std.specs.Prelude.{ℕ, List, length, Result, Ok, Err, Some, None}
use Rattle.std.specs.Prelude.{Option as Option-of-std}
use Rattle.std.proofs.Math.Option.{Option, some, none}
use Rattle.words.specs.Refusals.{number}
use Rattle.words.specs.declared.refusals.Refusal.{Refusal}

infixl 20 ◌then◌
pub data Answer (A : Type 0) : Type 0 where
  given : A → Answer A
  refused : ℕ → Answer A

-- The next step, on what was given. The first refusal ends the steps, so their order in a definition is the order of
-- the checks.
unfoldable pub ◌then◌ : {A B : Type 0} → Answer A → (A → Answer B) → Answer B
◌then◌ (given a) next = next a
◌then◌ (refused n) next = refused n

-- how many were given
abbrev pub count : {A : Type 0} → Answer (List A) → Answer ℕ
count (given xs) = given (length xs)
count (refused n) = refused n

-- for C: 0 where it is done, else the refusal's number
abbrev pub code : {A : Type 0} → Answer A → ℕ
code (given a) = 0
code (refused n) = n

-- what a `Result` answers
abbrev pub answered : {A : Type 0} → Result A Refusal → Answer A
answered (Ok a) = given a
answered (Err why) = refused (number why)

-- what an `Option` of the code's has
abbrev pub optional : {A : Type 0} → Option-of-std A → Option A
optional (Some a) = some a
optional None = none
