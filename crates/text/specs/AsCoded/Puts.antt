-- Text that stands at a place of a lent slice, or none where it does not fit. Definitions only. Assumes nothing.
use Rattle.std.specs.Prelude.{ℕ, ◌+◌, ◌≡◌, cond, List, [], leb, length}
use Rattle.std.proofs.lemmas.List.Edits.{sets}

-- text where a slice has room for all of it at a place; else none
unfoldable pub fitting : List ℕ → ℕ → List ℕ → List ℕ
fitting before at text = cond (leb (at + length text) (length before)) text []

-- text stands at a place, and `end` is the place behind it
pub record Put (before : List ℕ) (at : ℕ) (text after : List ℕ) (end : ℕ) : Type 0 where
  pub is : after ≡ sets before at text
  pub past : end ≡ at + length text
