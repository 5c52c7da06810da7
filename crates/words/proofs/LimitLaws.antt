-- What is not over the limits. Assumes nothing.
use Prim.Native.Nat.{ℕ, ◌≤◌}
use mathlib.Core.Path.{◌≡◌, refl}
use mathlib.Core.Bool.{Bool, true, false, ◌||◌}
use mathlib.Core.List.{List}
use borrow.Author.Tests.{ltb-false}
use lib.Dec.{ltb}
use lib.ListN.{length, get_or}
use Rattle.words.specs.Limits.{max_lamps, max_words, crowded}

pub few-lamps : (ws : List ℕ) → crowded ws ≡ false → get_or ws 0 0 ≤ max_lamps
unfolding crowded
few-lamps ws h = ltb-false max_lamps (get_or ws 0 0) (left (ltb max_lamps (get_or ws 0 0)) h)
  where
    left : (a : Bool) → a || ltb max_words (length ws) ≡ false → a ≡ false
    left true h = h
    left false h = refl
