-- A loop that writes a slice from the front, one store or a run of stores a turn. Assumes nothing.
use Prim.Native.Nat.{ℕ, suc, ◌+◌, ◌≤◌, zero-le}
use mathlib.Core.Path.{◌≡◌, refl, ◌∙◌}
use mathlib.Core.List.{List, [], ◌∷◌, ◌++◌}
use native.Mathlib.Omega.{arith}
use lib.ListN.{length, take, drop, set, length-append, length-drop}
use lib.Seq.{sets, sets-eq, length-sets, take_at, drop_at, drop-drop, drop-set-lt, take-add, length-take-le}

-- stores behind a front p that has been written
pub stored : (p d vs : List ℕ) (n : ℕ) → length p ≡ n → n + length vs ≤ length d
    → sets (p ++ drop n d) n vs ≡ p ++ vs ++ drop (n + length vs) d
stored p d vs n e h =
    sets-eq vs (p ++ drop n d) n (simp (length-append, length-drop) (omega arith))
    ∙ simp (take_at p (drop n d) n e, ← drop-drop, drop_at p (drop n d) n e)

-- l is d with its first n elements taken from s
pub record Copied (s d : List ℕ) (n : ℕ) (l : List ℕ) : Type 0 where
  pub within : n ≤ length s
  pub same : length l ≡ length d
  pub is : l ≡ take n s ++ drop n d

pub copied_none : {s d : List ℕ} → Copied s d 0 d
copied_none = record { within = zero-le; same = refl; is = refl }

pub copied_run : {s d l : List ℕ} {n : ℕ} (vs : List ℕ) → Copied s d n l → take (length vs) (drop n s) ≡ vs
    → n + length vs ≤ length s → n + length vs ≤ length d → Copied s d (n + length vs) (sets l n vs)
copied_run {s} {d} {l} {n} vs c e hs hd =
    record {
      within = hs;
      same = length-sets l n vs ∙ c.same;
      is = rw c.is (stored (take n s) d vs n (length-take-le n s c.within) hd ∙ simp (take-add, e));
    }

-- stores one after the other are stores behind each other
pub sets-append : (l : List ℕ) (i : ℕ) (vs us : List ℕ) → sets l i (vs ++ us) ≡ sets (sets l i vs) (i + length vs) us
sets-append l i [] us = let e : i + 0 ≡ i = omega arith in rw e
sets-append l i (v ∷ vs) us =
    let e : suc i + length vs ≡ i + suc (length vs) = omega arith in
    sets-append (set l i v) (suc i) vs us ∙ rw e

-- what lies behind stores stays
pub drop-sets : (n : ℕ) (vs l : List ℕ) (i : ℕ) → i + length vs ≤ n → drop n (sets l i vs) ≡ drop n l
drop-sets n [] l i h = refl
drop-sets n (v ∷ vs) l i h =
    drop-sets n vs (set l i v) (suc i) (omega arith) ∙ drop-set-lt n l i v (omega arith)
