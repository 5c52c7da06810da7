-- What a lent slice holds after a call, word by word: the sentences of Tray's header. Assumes nothing.
use Rattle.std.specs.Prelude.{ℕ, ◌-◌, ◌≤◌, ◌<◌, ◌≡◌, refl, Bool, cond, leb, take, replicate, get_or}
use Rattle.std.proofs.Common.{ap, ◌∙◌, add-sub_of_le, arith, length-drop, take-append-drop, take_at}
use Rattle.std.proofs.Common.{get_or-append-add, get_or-drop}
use Rattle.std.proofs.Math.Path.{sym}
use Rattle.std.proofs.Math.Bool.{true, false}
use mathlib.Core.List.{List, ◌++◌, append-nil, append_assoc}
use Rattle.std.proofs.Math.Nat.{sub_self}
use borrow.Author.Tests.{le-leb, lt-leb}
use Rattle.std.proofs.Math.ListN.{length, drop, length-append, length-replicate, get_or-replicate, get_or-append}
use Rattle.std.proofs.Math.Seq.{length-take-le}
use Rattle.words.specs.Answers.{Answer, given, refused}
use Rattle.words.specs.Tray.{front, tray}

-- an element of the second of two lists
behind : (p q : List ℕ) (i : ℕ) → length p ≤ i → get_or (p ++ q) i 0 ≡ get_or q (i - length p) 0
behind p q i h = rw (add-sub_of_le h) at (get_or-append-add p q (i - length p) 0)

front_length : (ws : List ℕ) (reserve : ℕ) → length ws ≤ reserve → length (front reserve ws) ≡ reserve
front_length ws reserve h = simp (length-append, length-replicate) (omega arith)

module _ {A : Type 0} (written : A → List ℕ) (reserve : ℕ) (before : List ℕ) where
  -- refusals 1 to 4 change nothing
  pub tray-early : (n : ℕ) → n ≤ 4 → tray written reserve (refused n) before ≡ before
  unfolding tray
  tray-early n h = simp le-leb

  -- a later one leaves zeros in the reserve
  pub tray_late : (n i : ℕ) → 4 < n → i < reserve → get_or (tray written reserve (refused n) before) i 0 ≡ 0
  unfolding tray
  tray_late n i h k =
      simp (lt-leb n 4 h)
      (get_or-append (replicate reserve 0) (drop reserve before) 0 i (rw length-replicate k)
      ∙ get_or-replicate reserve i 0 0 k)

  -- acceptance writes its words, and zeros after them
  pub tray-given : (a : A) (i : ℕ) → i < length (written a)
      → get_or (tray written reserve (given a) before) i 0 ≡ get_or (written a) i 0
  unfolding tray
  tray-given a i h =
      get_or-append (front reserve (written a)) (drop reserve before) 0 i (simp length-append (omega arith))
      ∙ get_or-append (written a) (replicate (reserve - length (written a)) 0) 0 i h

  pub tray-rest : (a : A) (i : ℕ) → length (written a) ≤ i → i < reserve
      → get_or (tray written reserve (given a) before) i 0 ≡ 0
  unfolding tray
  tray-rest a i h k =
      get_or-append (front reserve (written a)) (drop reserve before) 0 i
      (simp (length-append, length-replicate) (omega arith))
      ∙ behind (written a) (replicate (reserve - length (written a)) 0) i h
      ∙ get_or-replicate (reserve - length (written a)) (i - length (written a)) 0 0 (omega arith)

  -- words that fill the reserve
  pub tray-full : (a : A) → length (written a) ≡ reserve
      → tray written reserve (given a) before ≡ written a ++ drop reserve before
  unfolding tray
  tray-full a e = simp (e, sub_self, append-nil)

  -- the reserve alone is written
  tray-is : (answer : Answer A) → ((a : A) → answer ≡ given a → length (written a) ≤ reserve) → reserve ≤ length before
      → (l : List ℕ) × (length l ≡ reserve) × (tray written reserve answer before ≡ l ++ drop reserve before)
  unfolding tray
  tray-is (given a) fits room = (front reserve (written a), front_length (written a) reserve (fits a refl), refl)
  tray-is (refused n) fits room = go (leb n 4)
    where
      go : (b : Bool)
          → (l : List ℕ) × (length l ≡ reserve)
          × (cond b before (replicate reserve 0 ++ drop reserve before) ≡ l ++ drop reserve before)
      go true = (take reserve before, length-take-le reserve before room, sym (take-append-drop reserve before))
      go false = (replicate reserve 0, length-replicate reserve 0, refl)

  module _ (answer : Answer A) (fits : (a : A) → answer ≡ given a → length (written a) ≤ reserve)
      (room : reserve ≤ length before) where
    pub tray-length : length (tray written reserve answer before) ≡ length before
    tray-length =
        let (l, e, is) = tray-is answer fits room in
        simp (is, length-append, length-drop) (omega arith)

    pub tray-past : (i : ℕ) → reserve ≤ i → get_or (tray written reserve answer before) i 0 ≡ get_or before i 0
    tray-past i h =
        let (l, e, is) = tray-is answer fits room in
        rw (is, behind l (drop reserve before) i (omega arith), e, get_or-drop, add-sub_of_le)

-- what an accepted call has written stands at the front of its tray
pub tray-front : {A : Type 0} (written : A → List ℕ) (reserve n : ℕ) (a : A) (before : List ℕ) → length (written a) ≡ n
    → take n (tray written reserve (given a) before) ≡ written a
unfolding tray
tray-front written reserve n a before e =
    ap (take n) (append_assoc (written a) _ (drop reserve before)) ∙ take_at (written a) _ n e
