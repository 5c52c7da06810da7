-- A build whose answer's slice is short, as the code takes it. Definitions only. Assumes nothing.
use Rattle.std.specs.Prelude.{ℕ, List}
use Rattle.words.specs.Answers.{Answer, refused, ◌then◌}
use Rattle.light_bvh.specs.Build.{LightBVH, build_check}

-- `build_answered` where the answer's slice is short
unfoldable pub short_answer : ℕ → List ℕ → ℕ → ℕ → ℕ → Answer LightBVH
short_answer lights ws nodes table work = build_check lights ws nodes table work then λ (_ : ℕ). refused 3
