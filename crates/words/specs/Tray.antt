-- What a call leaves in a slice that was lent to it for output or work. docs/REQUIREMENTS.md calls such a slice a tray
-- (R12), and the words of it that the call may write its reserve. One rule serves every such slice: refusals 1 to 4
-- change nothing, any later refusal zeroes the reserve, acceptance writes what it has to say and zeroes the rest of the
-- reserve, and words past the reserve never change. Definitions only. Assumes nothing.
use Rattle.std.specs.Prelude.{ℕ, ◌-◌, List, ◌++◌, cond, leb, length, drop, replicate}
use Rattle.words.specs.Answers.{Answer, given, refused}

-- the reserve after words were written to its front, the rest zero
abbrev pub front : ℕ → List ℕ → List ℕ
front reserve ws = ws ++ replicate (reserve - length ws) 0

-- `written` says which words an accepted answer has to write here, at most `reserve` of them
unfoldable pub tray : {A : Type 0} → (A → List ℕ) → ℕ → Answer A → List ℕ → List ℕ
tray written reserve (given a) before = front reserve (written a) ++ drop reserve before
tray written reserve (refused n) before = cond (leb n 4) before (replicate reserve 0 ++ drop reserve before)
