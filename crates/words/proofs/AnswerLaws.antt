-- Laws of answers: steps in a row, which refusals an answer can have, what it gives, and counts. Assumes nothing.
use Prim.Native.Nat.{ℕ, ◌≤◌, ◌<◌}
use mathlib.Core.Path.{◌≡◌, refl, ap, subst, sym, ◌∙◌}
use mathlib.Core.Bool.{Bool, true, false, cond}
use mathlib.Core.List.{List}
use lib.ListN.{length}
use Rattle.words.specs.Answers.{Answer, given, refused, ◌then◌, count, code}

pub then_assoc : {A B C : Type 0} (x : Answer A) (f : A → Answer B) (g : B → Answer C) →
    (x then f) then g ≡ x then (λ (a : A). f a then g)
unfolding ◌then◌
then_assoc (given a) f g = refl
then_assoc (refused n) f g = refl

-- steps that are the same on whatever is given
pub then_same : {A B : Type 0} (x : Answer A) (f g : A → Answer B) → ((a : A) → f a ≡ g a) → x then f ≡ x then g
unfolding ◌then◌
then_same (given a) f g h = h a
then_same (refused n) f g h = refl

pub then-refused : {A B : Type 0} (x : Answer A) (f : A → Answer B) (n : ℕ) → x ≡ refused n → x then f ≡ refused n
unfolding ◌then◌
then-refused x f n e = rw e

pub then_is : {A B : Type 0} (x : Answer A) (f : A → Answer B) (a : A) → x ≡ given a → x then f ≡ f a
unfolding ◌then◌
then_is x f a e = rw e

-- by which steps in a row close
pub ruleset steps = (then_is, then-refused)

-- ---- which refusals

-- a refusal, if any, has the property
abbrev OnlyAt : {A : Type 0} → (ℕ → Type 0) → Answer A → Type 0
OnlyAt P (given a) = Unit
OnlyAt P (refused n) = P n

pub record Only {A : Type 0} (P : ℕ → Type 0) (x : Answer A) : Type 0 where
  pub number : OnlyAt P x

-- refusals 1 to 4 leave trays as they are, later ones zero them
abbrev pub Early : {A : Type 0} → Answer A → Type 0
Early x = Only (λ (n : ℕ). n ≤ 4) x

abbrev pub Late : {A : Type 0} → Answer A → Type 0
Late x = Only (λ (n : ℕ). 4 < n) x

module _ {P : ℕ → Type 0} where
  pub only-given : {A : Type 0} {a : A} → Only P (given a)
  only-given = record { number = tt }

  pub only-refused : {A : Type 0} {n : ℕ} → P n → Only {A = A} P (refused n)
  only-refused h = record { number = h }

  pub only-cond : {A : Type 0} (b : Bool) {x y : Answer A} → Only P x → Only P y → Only P (cond b x y)
  only-cond true h k = h
  only-cond false h k = k

  pub only_then : {A B : Type 0} {x : Answer A} {f : A → Answer B} → Only P x → ((a : A) → Only P (f a)) →
      Only P (x then f)
  unfolding ◌then◌
  only_then {x = given a} h k = k a
  only_then {x = refused n} h k = record { number = h.number }

  pub only-number : {A : Type 0} {x : Answer A} {n : ℕ} → Only P x → x ≡ refused n → P n
  only-number h e = (subst (Only P) e h).number

-- ---- what is given

abbrev GivesAt : {A : Type 0} → (A → Type 0) → Answer A → Type 0
GivesAt P (given a) = P a
GivesAt P (refused n) = Unit

-- what is given, if anything, has the property
pub record Gives {A : Type 0} (P : A → Type 0) (x : Answer A) : Type 0 where
  pub value : GivesAt P x

module _ {A : Type 0} {P : A → Type 0} where
  pub gives : {a : A} → P a → Gives P (given a)
  gives h = record { value = h }

  pub gives_none : {n : ℕ} → Gives P (refused n)
  gives_none = record { value = tt }

  pub gives-cond : (b : Bool) {x y : Answer A} → Gives P x → Gives P y → Gives P (cond b x y)
  gives-cond true h k = h
  gives-cond false h k = k

  pub gives-value : {x : Answer A} {a : A} → Gives P x → x ≡ given a → P a
  gives-value h e = (subst (Gives P) e h).value

  -- by the last step, on what the one before gives
  pub gives_then : {B : Type 0} {Q : B → Type 0} {x : Answer B} {f : B → Answer A} → Gives Q x →
      ((b : B) → Q b → Gives P (f b)) → Gives P (x then f)
  unfolding ◌then◌
  gives_then {x = given b} h k = k b h.value
  gives_then {x = refused n} h k = record { value = tt }

-- nothing said of it
pub gives-any : {A : Type 0} (x : Answer A) → Gives (λ (a : A). Unit {0}) x
gives-any (given a) = gives tt
gives-any (refused n) = gives_none

pub gives_of : {A : Type 0} {P : A → Type 0} (x : Answer A) → ((a : A) → x ≡ given a → P a) → Gives P x
gives_of (given a) h = gives (h a refl)
gives_of (refused n) h = gives_none

-- ---- given and refused apart

abbrev pub Given : {A : Type 0} → Answer A → Type 0
Given (given a) = Unit
Given (refused n) = ⊥

pub not-both : {A : Type 0} {x : Answer A} {a : A} {n : ℕ} → x ≡ given a → x ≡ refused n → ⊥
not-both g r = subst Given (sym g ∙ r) tt

-- the value, or another where there is none
abbrev pub value_or : {A : Type 0} → A → Answer A → A
value_or a (given b) = b
value_or a (refused n) = a

pub given_injective : {A : Type 0} {a b : A} → given a ≡ given b → a ≡ b
given_injective {a} e = ap (value_or a) e

abbrev pub number_of : {A : Type 0} → Answer A → ℕ
number_of (given a) = 0
number_of (refused n) = n

pub refused_injective : {A : Type 0} {m n : ℕ} → ◌≡◌ {A = Answer A} (refused m) (refused n) → m ≡ n
refused_injective e = ap number_of e

-- what was given was given step by step
pub then-given : {A B : Type 0} (x : Answer A) (f : A → Answer B) (b : B) → x then f ≡ given b →
    (a : A) × (x ≡ given a) × (f a ≡ given b)
unfolding ◌then◌
then-given (given a) f b e = (a, refl, e)
then-given (refused n) f b e = absurd (not-both e refl)

-- by a test: where it gives, and where it refuses
pub cond-given : {A : Type 0} (b : Bool) (x : A) (n : ℕ) (y : A) → cond b (given x) (refused n) ≡ given y
    → (b ≡ true) × (x ≡ y)
cond-given true x n y e = (refl, given_injective e)
cond-given false x n y e = absurd (not-both e refl)

pub cond-kept : {A : Type 0} (b : Bool) (x : A) (n : ℕ) (y : A) → cond b (refused n) (given x) ≡ given y
    → (b ≡ false) × (x ≡ y)
cond-kept true x n y e = absurd (not-both e refl)
cond-kept false x n y e = (refl, given_injective e)

-- ---- counts

pub count-given : {A : Type 0} (x : Answer (List A)) (n : ℕ) → count x ≡ given n →
    (l : List A) × (x ≡ given l) × (length l ≡ n)
count-given (given l) n e = (l, refl, given_injective e)
count-given (refused m) n e = absurd (not-both e refl)

pub count-refused : {A : Type 0} (x : Answer (List A)) (n : ℕ) → count x ≡ refused n → x ≡ refused n
count-refused (given l) n e = absurd (not-both refl e)
count-refused (refused m) n e = ap refused (refused_injective e)

pub code-count : {A : Type 0} (x : Answer (List A)) → code (count x) ≡ code x
code-count (given l) = refl
code-count (refused n) = refl
