-- A stretch of a slice, filled with one value. Definitions only. Assumes nothing.
use Rattle.std.specs.Prelude.{ℕ, ◌-◌, min, List, ◌++◌, length, take, drop, replicate}

-- v from place `from` up to, not including, place `to`; what of that lies past the end is left out
unfoldable pub filled : {A : Type 0} → List A → ℕ → ℕ → A → List A
filled s from to v =
    let end = min to (length s) in
    let start = min from end in
    take start s ++ (replicate (end - start) v ++ drop end s)
