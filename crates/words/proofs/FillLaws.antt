-- A stretch of a slice that is filled with one value. Assumes nothing.
use Rattle.std.proofs.Common.{◌≡◌, ℕ, ◌-◌, ◌≤◌, ◌<◌, List, ◌++◌, length, take, drop, arith, take-append-drop}
use Rattle.std.proofs.Math.ListN.{replicate}
use Rattle.std.proofs.lemmas.List.{take_all}
use Prim.Native.Nat.{min}
use native.Mathlib.Nat.{sub_self}
use borrow.Rule.Slice.PartMut.{put_mid, Post-is}
use Rattle.words.specs.AsCoded.Fill.{filled}

module _ {A : Type 0} (s : List A) (from to : ℕ) (v : A) where
  -- one that lies within the slice
  pub filled_within : from ≤ to → to ≤ length s
      → filled s from to v ≡ take from s ++ (replicate (to - from) v ++ drop to s)
  unfolding filled
  filled_within h k =
      let e : min to (length s) ≡ to = omega arith in
      let e' : min from to ≡ from = omega arith in
      simp (e, e')

  -- one of no places
  pub filled-none : min to (length s) ≤ from → s ≡ filled s from to v
  unfolding filled
  filled-none h =
      let e : min from (min to (length s)) ≡ min to (length s) = omega arith in
      simp (e, sub_self, take-append-drop)

  -- with n items, up to place e
  pub filled-part : (e n : ℕ) (l : List A) → e ≡ min to (length s) → from < e → take n l ≡ replicate n v
      → length l ≡ n → n ≡ e - from → put_mid from (e - from) s l ≡ filled s from to v
  unfolding filled
  filled-part e n l is h k len count =
      let start : min from e ≡ from = omega arith in
      simp (← is, start, Post-is from e s (omega arith), ← count, ← k, take_all n l (omega arith))
