-- A lamp's bounds and the cursor past it, as the walk over a list has them. Definitions only. Assumes nothing.
use Rattle.std.specs.Prelude.{ℕ, List}
use Rattle.words.specs.Answers.{Answer, given, ◌then◌}
use Rattle.lamps.specs.BuildBounds.{bounds_of}
use Rattle.lamps.specs.LampList.{lamp_at}
use Rattle.lamps.specs.declared.build_bounds.Passed.{Passed}

unfoldable pub next_bounds : List ℕ → ℕ → Answer Passed
next_bounds ws at = lamp_at ws at then λ r. bounds_of ws r then λ b. given (record { bounds = b; next = r.next })
