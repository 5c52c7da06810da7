-- What the code's view of a record is. Definitions only. Assumes nothing.
use Rattle.std.specs.Prelude.{Result, Ok, Err}
use Rattle.words.specs.Answers.{Answer, given, refused}
use Rattle.words.specs.Refusals.{number}
use Rattle.words.specs.declared.refusals.Refusal.{Refusal}
use Rattle.light_bounds.specs.declared.importance.View.{View}
use Rattle.light_bounds.specs.declared.importance.View.TheVariants.{Dark, Lit, Facing}
use Rattle.light_bounds.specs.Importance.{Seen, dark, lit, facing}

abbrev pub seen : View → Seen
seen Dark = dark
seen (Lit p d2) = lit p d2
seen (Facing p d2 i) = facing p d2 i

-- what the code's view answers
abbrev pub viewed : Result View Refusal → Answer Seen
viewed (Ok v) = given (seen v)
viewed (Err why) = refused (number why)
