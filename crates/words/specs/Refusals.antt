-- The refusals of docs/REQUIREMENTS.md R11: the number of each. Definitions only. Assumes nothing.
-- tools/refusals makes the lines below of src/refusals.rt.
use Rattle.std.specs.Prelude.{ℕ}
use Rattle.words.specs.declared.refusals.Refusal.{Refusal}
use Rattle.words.specs.declared.refusals.Refusal.TheVariants.{Ragged, Crowded, ShortTray, Misplaced, NotFinite}
use Rattle.words.specs.declared.refusals.Refusal.TheVariants.{Inverted, NoDirection, OutOfRange, NoArea}
use Rattle.words.specs.declared.refusals.Refusal.TheVariants.{LostUnion, BadU, BrokenTree, TooWide}

abbrev pub number : Refusal → ℕ
number Ragged = 1
number Crowded = 2
number ShortTray = 3
number Misplaced = 4
number NotFinite = 5
number Inverted = 6
number NoDirection = 7
number OutOfRange = 8
number NoArea = 9
number LostUnion = 10
number BadU = 11
number BrokenTree = 12
number TooWide = 13
