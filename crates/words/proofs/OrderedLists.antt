-- Lists of numbers that ascend, the sort, and how often a number stands in a list. What ascends is its own sort
-- (`sorted_ascending`); the sort has the same numbers as often (`sorted-count`), none above the next (`sorted_rises`).
-- Assumes nothing.
use Prim.Native.Nat.{ℕ, zero, suc, ◌+◌, ◌≤◌, ◌<◌}
use mathlib.Core.Path.{◌≡◌, refl, ap, ◌∙◌}
use mathlib.Core.Bool.{Bool, true, false, cond, not}
use mathlib.Core.List.{List, [], ◌∷◌, ◌++◌}
use native.Mathlib.Omega.{arith}
use borrow.Author.Tests.{le-leb, leb-true, leb-false, eqb-true, eq-eqb}
use lib.Dec.{leb, eqb}
use lib.ListN.{length, take, drop}
use Rattle.words.specs.Lists.{kept, insert, sorted, once, often}
use Rattle.words.proofs.ListLaws.{All}

-- ---- lists that ascend

-- below the first, and each below the next
abbrev pub Over : ℕ → List ℕ → Type 0
Over x [] = Unit
Over x (y ∷ ys) = (x < y) × Over y ys

-- each below the next
abbrev pub Ascends : List ℕ → Type 0
Ascends [] = Unit
Ascends (x ∷ xs) = Over x xs

over-lower : (x y : ℕ) (ys : List ℕ) → x ≤ y → Over y ys → Over x ys
over-lower x y [] l h = tt
over-lower x y (z ∷ zs) l h = (omega (arith, h.0), h.1)

pub over_ascends : (x : ℕ) (xs : List ℕ) → Over x xs → Ascends xs
over_ascends x [] h = tt
over_ascends x (y ∷ ys) h = h.1

over-one : (b : Bool) (x y : ℕ) (ys : List ℕ) → x < y → Over y ys → Over x (cond b (y ∷ ys) ys)
over-one true x y ys l h = (l, h)
over-one false x y ys l h = over-lower x y ys (omega arith) h

over-kept : (test : ℕ → Bool) (x : ℕ) (xs : List ℕ) → Over x xs → Over x (kept test xs)
unfolding kept
over-kept test x [] h = tt
over-kept test x (y ∷ ys) h = over-one (test y) x y (kept test ys) h.0 (over-kept test y ys h.1)

ascends-one : (b : Bool) (x : ℕ) (xs : List ℕ) → Over x xs → Ascends (cond b (x ∷ xs) xs)
ascends-one true x xs h = h
ascends-one false x xs h = over_ascends x xs h

pub kept_ascends : (test : ℕ → Bool) (xs : List ℕ) → Ascends xs → Ascends (kept test xs)
unfolding kept
kept_ascends test [] h = tt
kept_ascends test (x ∷ xs) h = ascends-one (test x) x (kept test xs) (over-kept test x xs h)

over-take : (n x : ℕ) (xs : List ℕ) → Over x xs → Over x (take n xs)
over-take zero x xs h = tt
over-take (suc n) x [] h = tt
over-take (suc n) x (y ∷ ys) h = (h.0, over-take n y ys h.1)

pub take_ascends : (n : ℕ) (xs : List ℕ) → Ascends xs → Ascends (take n xs)
take_ascends zero xs h = tt
take_ascends (suc n) [] h = tt
take_ascends (suc n) (x ∷ xs) h = over-take n x xs h

pub drop_ascends : (n : ℕ) (xs : List ℕ) → Ascends xs → Ascends (drop n xs)
drop_ascends zero xs h = h
drop_ascends (suc n) [] h = tt
drop_ascends (suc n) (x ∷ xs) h = drop_ascends n xs (over_ascends x xs h)

over-snoc : (x n : ℕ) (xs : List ℕ) → x < n → All (λ (y : ℕ). y < n) xs → Over x xs → Over x (xs ++ n ∷ [])
over-snoc x n [] l b h = (l, tt)
over-snoc x n (y ∷ ys) l b h = (h.0, over-snoc y n ys b.0 b.1 h.1)

pub ascends-snoc : (n : ℕ) (xs : List ℕ) → All (λ (y : ℕ). y < n) xs → Ascends xs → Ascends (xs ++ n ∷ [])
ascends-snoc n [] b h = tt
ascends-snoc n (x ∷ xs) b h = over-snoc x n xs b.0 b.1 h

-- ---- the sort

insert-first : (x : ℕ) (xs : List ℕ) → Over x xs → insert x xs ≡ x ∷ xs
unfolding insert
insert-first x [] h = refl
insert-first x (y ∷ ys) h = rw (le-leb x y (omega (arith, h.0)))

pub sorted_ascending : (xs : List ℕ) → Ascends xs → sorted xs ≡ xs
unfolding sorted
sorted_ascending [] h = refl
sorted_ascending (x ∷ xs) h = rw (sorted_ascending xs (over_ascends x xs h)) (insert-first x xs h)

-- ---- how often a number stands in a list

pub often-append : (x : ℕ) (xs ys : List ℕ) → often x (xs ++ ys) ≡ often x xs + often x ys
unfolding often
often-append x [] ys = omega arith
often-append x (y ∷ xs) ys = omega (arith, often-append x xs ys)

pub often-none : (x : ℕ) (xs : List ℕ) → length xs ≡ 0 → often x xs ≡ 0
unfolding often
often-none x [] e = refl
often-none x (y ∷ ys) e = absurd (omega arith)

-- a member of which something is said
pub all-counted : (P : ℕ → Type 0) (x : ℕ) (xs : List ℕ) → All P xs → 1 ≤ often x xs → P x
unfolding often
all-counted P x [] h l = absurd (omega arith)
all-counted P x (y ∷ ys) h l = go (eqb x y) refl l (λ l'. all-counted P x ys h.1 l')
  where
    go : (b : Bool) → eqb x y ≡ b → 1 ≤ cond b 1 0 + often x ys → (1 ≤ often x ys → P x) → P x
    go true e l later = rw (eqb-true x y e) h.0
    go false e l later = later (omega arith)

pub counted-all : (P : ℕ → Type 0) (xs : List ℕ) → ((x : ℕ) → 1 ≤ often x xs → P x) → All P xs
unfolding often
counted-all P [] h = tt
counted-all P (y ∷ ys) h = (h y (rw (eq-eqb y y refl) (omega arith)), counted-all P ys (λ x l. h x (omega arith)))

often-sides : (b : Bool) (x y : ℕ) (xs ys : List ℕ) (n : ℕ) → often x xs + often x ys ≡ n
    → often x (cond b (y ∷ xs) xs) + often x (cond (not b) (y ∷ ys) ys) ≡ once x y + n
unfolding often
often-sides true x y xs ys n h = omega arith
often-sides false x y xs ys n h = omega arith

-- each item passes one of two tests
pub often-kept : (l r : ℕ → Bool) → ((h : ℕ) → r h ≡ not (l h)) → (x : ℕ) (xs : List ℕ)
    → often x (kept l xs) + often x (kept r xs) ≡ often x xs
unfolding kept often
often-kept l r other x [] = refl
often-kept l r other x (y ∷ ys) =
    rw (other y) (often-sides (l y) x y (kept l ys) (kept r ys) (often x ys) (often-kept l r other x ys))

-- ---- the sort is one: of the same numbers, none above the next

often_swap : (b : Bool) (x z y : ℕ) (ys zs : List ℕ) → often x zs ≡ once x z + often x ys
    → often x (cond b (z ∷ y ∷ ys) (y ∷ zs)) ≡ once x z + often x (y ∷ ys)
unfolding often
often_swap true x z y ys zs e = refl
often_swap false x z y ys zs e = omega arith

often-insert : (x z : ℕ) (xs : List ℕ) → often x (insert z xs) ≡ once x z + often x xs
unfolding insert often
often-insert x z [] = refl
often-insert x z (y ∷ ys) = often_swap (leb z y) x z y ys (insert z ys) (often-insert x z ys)

pub sorted-count : (x : ℕ) (xs : List ℕ) → often x (sorted xs) ≡ often x xs
unfolding sorted often
sorted-count x [] = refl
sorted-count x (y ∷ ys) = often-insert x y (sorted ys) ∙ ap (λ (n : ℕ). once x y + n) (sorted-count x ys)

-- at most the first, and none above the next
abbrev pub From : ℕ → List ℕ → Type 0
From x [] = Unit
From x (y ∷ ys) = (x ≤ y) × From y ys

abbrev pub Rises : List ℕ → Type 0
Rises [] = Unit
Rises (x ∷ xs) = From x xs

from-insert : (w z : ℕ) (xs : List ℕ) → w ≤ z → From w xs → From w (insert z xs)
unfolding insert
from-insert w z [] l h = (l, tt)
from-insert w z (y ∷ ys) l h = go (leb z y) refl (λ k. from-insert y z ys k h.1)
  where
    go : (b : Bool) → leb z y ≡ b → (y ≤ z → From y (insert z ys)) → From w (cond b (z ∷ y ∷ ys) (y ∷ insert z ys))
    go true e later = (l, (leb-true z y e, h.1))
    go false e later = (h.0, later (omega (arith, leb-false z y e)))

rises-insert : (z : ℕ) (xs : List ℕ) → Rises xs → Rises (insert z xs)
unfolding insert
rises-insert z [] h = tt
rises-insert z (y ∷ ys) h = go (leb z y) refl
  where
    go : (b : Bool) → leb z y ≡ b → Rises (cond b (z ∷ y ∷ ys) (y ∷ insert z ys))
    go true e = (leb-true z y e, h)
    go false e = from-insert y z ys (omega (arith, leb-false z y e)) h

pub sorted_rises : (xs : List ℕ) → Rises (sorted xs)
unfolding sorted
sorted_rises [] = tt
sorted_rises (x ∷ xs) = rises-insert x (sorted xs) (sorted_rises xs)
