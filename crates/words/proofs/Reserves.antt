-- A reserve as the code leaves it: filled by a loop that copies, or zeroed. Assumes nothing.
use Prim.Native.Nat.{ℕ, ◌-◌, ◌≤◌, ◌<◌}
use mathlib.Core.Path.{◌≡◌, ◌∙◌}
use mathlib.Core.List.{List, ◌++◌}
use native.Mathlib.Omega.{arith}
use borrow.Author.Tests.{lt-leb}
use lib.ListN.{length, drop, replicate}
use lib.Seq.{take_all}
use Rattle.words.specs.Answers.{given, refused}
use Rattle.words.specs.AsCoded.Fill.{filled}
use Rattle.words.specs.Tray.{tray}
use Rattle.words.specs.Laws.TrayLaws.{tray-full}
use Rattle.words.proofs.FillLaws.{filled_within}
use Rattle.words.proofs.Stores.{Copied}

-- zeros in front of what is behind a reserve
pub zeroed : (l rest : List ℕ) (n : ℕ) → n ≤ length l → drop n l ≡ rest → filled l 0 n 0 ≡ replicate n 0 ++ rest
zeroed l rest n h e =
    let z : n - 0 ≡ n = omega arith in
    filled_within l 0 n 0 (omega arith) h ∙ rw (z, e)

module _ {A : Type 0} (written : A → List ℕ) (reserve : ℕ) (before : List ℕ) where
  -- zeroed after a late refusal, whatever the call had written to the reserve
  pub tray-zeroed : (l : List ℕ) (k : ℕ) → reserve ≤ length l → drop reserve l ≡ drop reserve before → 4 < k
      → filled l 0 reserve 0 ≡ tray written reserve (refused k) before
  unfolding tray
  tray-zeroed l k h e late = zeroed l (drop reserve before) reserve h e ∙ rw (lt-leb k 4 late)

  -- filled by a loop that copies all of what is to be written
  pub tray_copied : {i : ℕ} {l : List ℕ} (a : A) → Copied (written a) before i l → i ≡ reserve
      → length (written a) ≡ reserve
      → l ≡ tray written reserve (given a) before
  tray_copied a c e h =
      c.is ∙ simp (e, take_all reserve (written a) (omega arith), tray-full written reserve before a h)
