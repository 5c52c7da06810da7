-- Laws of rows, once for every width and every function that writes a row: length, what stands at a place, one row
-- more, the loop that writes them; tests at every place; and the state of a walk that gathers a list. Assumes nothing.
use Prim.Native.Nat.{ℕ, zero, suc, ◌+◌, ◌*◌, ◌-◌, ◌≤◌, ◌<◌}
use mathlib.Core.Path.{◌≡◌, refl, ap, subst, sym, ◌∙◌}
use mathlib.Core.Bool.{Bool, true, false, ◌&&◌, and-false}
use mathlib.Core.List.{List, [], ◌∷◌, ◌++◌, append_assoc, append-nil}
use native.Mathlib.Nat.{mul-suc, mul-zero}
use native.Mathlib.Numerals.{add-one}
use native.Mathlib.Omega.{arith}
use lib.Dec.{T}
use lib.ListN.{length, get_or, drop, length-append}
use lib.Seq.{sets, length-sets, sets-eq, drop-cons, drop-drop, drop-nil, drop-append-add}
use Rattle.words.specs.Answers.{Answer, given, refused, ◌then◌}
use Rattle.words.specs.Rows.{rows_from, below}
use Rattle.words.specs.AsCoded.Walks.{Walk, gathered}
use Rattle.words.proofs.Stores.{stored}

-- ---- tests at every place

below_more : (test : ℕ → Bool) (i k : ℕ) → test i ≡ false → below test (k + suc i) ≡ false
unfolding below
below_more test i zero h = let e : 0 + suc i ≡ suc i = omega arith in rw (e, h) (and-false (below test i))
below_more test i (suc k) h = let e : suc k + suc i ≡ suc (k + suc i) = omega arith in rw (e, below_more test i k h)

pub below_false : (test : ℕ → Bool) (n i : ℕ) → i < n → test i ≡ false → below test n ≡ false
below_false test n i h e =
    let p : n - suc i + suc i ≡ n = omega arith in
    subst (λ (k : ℕ). below test k ≡ false) p (below_more test i (n - suc i) e)

pub below_next : (test : ℕ → Bool) (i : ℕ) → below test (i + 1) ≡ below test i && test i
unfolding below
below_next test i = rw (add-one i)

pub below_true : (test : ℕ → Bool) (n : ℕ) → ((i : ℕ) → i < n → test i ≡ true) → below test n ≡ true
unfolding below
below_true test zero h = refl
below_true test (suc n) h = rw (below_true test n (λ i l. h i (omega arith)), h n (omega arith))

pub below_at : (test : ℕ → Bool) (n i : ℕ) → below test n ≡ true → i < n → test i ≡ true
below_at test n i e h = go (test i) refl
  where
    go : (b : Bool) → test i ≡ b → test i ≡ true
    go true is = is
    go false is = absurd (subst T (sym e ∙ below_false test n i h is) tt)

-- ---- rows

module _ {A : Type 0} (row : ℕ → A → List ℕ) where
  pub rows_snoc : (i : ℕ) (done : List A) (a : A) →
      rows_from row i (done ++ a ∷ []) ≡ rows_from row i done ++ row (i + length done) a
  unfolding rows_from
  rows_snoc i [] a = let e : i + 0 ≡ i = omega arith in rw e (append-nil (row i a))
  rows_snoc i (d ∷ done) a =
      let e : suc i + length done ≡ i + suc (length done) = omega arith in
      rw (rows_snoc (suc i) done a, e)
      (sym (append_assoc (row i d) (rows_from row (suc i) done) (row (i + suc (length done)) a)))

  module _ (width : ℕ) (each : (i : ℕ) (a : A) → length (row i a) ≡ width) where
    pub rows-length : (i : ℕ) (xs : List A) → length (rows_from row i xs) ≡ width * length xs
    unfolding rows_from
    rows-length i [] = sym (mul-zero width)
    rows-length i (x ∷ xs) =
        length-append (row i x) (rows_from row (suc i) xs) ∙
        omega (arith, each i x, rows-length (suc i) xs, mul-suc width (length xs))

    pub rows_drop : (i k : ℕ) (xs : List A) → drop (width * k) (rows_from row i xs) ≡ rows_from row (i + k) (drop k xs)
    unfolding rows_from
    rows_drop i zero xs = let e : i + 0 ≡ i = omega arith in rw (mul-zero width, e)
    rows_drop i (suc k) [] = drop-nil (width * suc k)
    rows_drop i (suc k) (x ∷ xs) =
        let e : width * suc k ≡ length (row i x) + width * k = omega (arith, each i x, mul-suc width k) in
        let e' : suc i + k ≡ i + suc k = omega arith in
        rw e (drop-append-add (row i x) (rows_from row (suc i) xs) (width * k)) ∙ rows_drop (suc i) k xs ∙ rw e'

    -- what stands from row k on
    pub row_at : (i k : ℕ) (xs : List A) (d : A) → k < length xs
        → drop (width * k) (rows_from row i xs) ≡ row (i + k) (get_or xs k d) ++
        rows_from row (suc (i + k)) (drop (suc k) xs)
    unfolding rows_from
    row_at i k xs d h = rows_drop i k xs ∙ rw (drop-cons xs k d h)

    -- l is d with a head and these rows in front
    pub record Written (head : List ℕ) (done : List A) (d l : List ℕ) : Type 0 where
      pub same : length l ≡ length d
      pub is : l ≡ (head ++ rows_from row 0 done) ++ drop (length head + width * length done) d

    front_length : (head : List ℕ) (done : List A) →
        length (head ++ rows_from row 0 done) ≡ length head + width * length done
    front_length head done = length-append head (rows_from row 0 done) ∙ omega (arith, rows-length 0 done)

    pub written_none : (head d : List ℕ) → length head ≤ length d → Written head [] d (sets d 0 head)
    unfolding rows_from
    written_none head d h =
        let e : length head + width * 0 ≡ length head = omega (arith, mul-zero width) in
        let z : 0 + length head ≡ length head = omega arith in
        record { same = length-sets d 0 head; is = stored [] d head 0 refl (omega arith) ∙ rw (append-nil head, e, z) }

    pub written_one : {head : List ℕ} {done : List A} {d l : List ℕ} (a : A) (at : ℕ) → Written head done d l →
        length head + width * length done ≡ at
        → at + width ≤ length d → Written head (done ++ a ∷ []) d (sets l at (row (length done) a))
    written_one {head} {done} {d} {l} a at w place room =
        let more : length (done ++ a ∷ []) ≡ suc (length done) = length-append done (a ∷ []) ∙ add-one (length done) in
        let z : 0 + length done ≡ length done = omega arith in
        let fit : at + length (row (length done) a) ≤ length d = omega (arith, each (length done) a) in
        let end : at + length (row (length done) a) ≡ length head + width * length (done ++ a ∷ []) =
        rw more (omega (arith, each (length done) a, mul-suc width (length done))) in
        let put : sets l at (row (length done) a) ≡ head ++ rows_from row 0 done ++ row (length done) a ++
        drop (at + length (row (length done) a)) d =
        ap (λ (x : List ℕ). sets x at (row (length done) a)) (w.is ∙ rw place)
        ∙ stored (head ++ rows_from row 0 done) d (row (length done) a) at (front_length head done ∙ place) fit in
        record {
          same = length-sets l at (row (length done) a) ∙ w.same;
          is = put ∙ rw (end, rows_snoc 0 done a, z, append_assoc head (rows_from row 0 done) (row (length done) a));
        }

    -- the head may as well be written before
    pub written-under : {head : List ℕ} {done : List A} {l : List ℕ} (d : List ℕ) →
        Written head done (sets d 0 head) l → length head ≤ length d
        → Written head done d l
    written-under {head} {done} {l} d w h =
        let n = length head + width * length done in
        let e : n ≡ length head + (n - length head) = omega arith in
        let z : 0 + length head ≡ length head = omega arith in
        let behind : drop n (sets d 0 head) ≡ drop n d =
        rw (sets-eq head d 0 (omega arith), e, z)
        (drop-append-add head (drop (length head) d) (n - length head) ∙ drop-drop (n - length head)
        (length head) d) in
        record { same = w.same ∙ length-sets d 0 head; is = w.is ∙ rw behind }

    -- what lies behind the rows stays
    pub written_behind : {head : List ℕ} {done : List A} {d l : List ℕ} (n : ℕ) → Written head done d l →
        length head + width * length done ≤ n
        → drop n l ≡ drop n d
    written_behind {head} {done} {d} {l} n w h =
        let front = head ++ rows_from row 0 done in
        let size = length head + width * length done in
        let e : n ≡ length front + (n - size) = omega (arith, front_length head done) in
        let e' : size + (n - size) ≡ n = omega arith in
        ap (λ (k : ℕ). drop k l) e
        ∙ ap (drop (length front + (n - size))) w.is
        ∙ drop-append-add front (drop size d) (n - size)
        ∙ drop-drop (n - size) size d
        ∙ ap (λ (k : ℕ). drop k d) e'

-- ---- a walk that gathers a list

-- what is gathered behind what was
abbrev pub behind : {B : Type 0} → List B → Answer (List B) → Answer (List B)
behind done (given rest) = given (done ++ rest)
behind done (refused n) = refused n

module _ {A B : Type 0} (w : Walk A B) where
  -- after i of m steps from `first` the walk stands at `at` and has gathered `done`
  pub record Walked (m first i at : ℕ) (done : List B) : Type 0 where
    pub within : i ≤ m
    pub size : length done ≡ i
    pub is : gathered w m first ≡ behind done (gathered w (m - i) at)

  behind-none : (x : Answer (List B)) → x ≡ behind [] x
  behind-none (given rest) = refl
  behind-none (refused n) = refl

  pub walked_none : (m first : ℕ) → Walked m first 0 first []
  walked_none m first =
      let e : m - 0 ≡ m = omega arith in
      record { within = omega arith; size = refl; is = rw e (behind-none (gathered w m first)) }

  -- one step, taken and not
  stepped : (n at : ℕ) → 0 < n →
      gathered w n at ≡ w.step at then λ a. gathered w (n - 1) (w.past a) then λ bs. given (w.item a ∷ bs)
  unfolding gathered
  stepped zero at h = absurd (omega arith)
  stepped (suc n) at h = let e : suc n - 1 ≡ n = omega arith in rw e

  snoc : (done : List B) (b : B) (x : Answer (List B)) →
      behind done (x then λ bs. given (b ∷ bs)) ≡ behind (done ++ b ∷ []) x
  unfolding ◌then◌
  snoc done b (given rest) = ap given (sym (append_assoc done (b ∷ []) rest))
  snoc done b (refused n) = refl

  pub walked_one : {m first i at : ℕ} {done : List B} (a : A) → Walked m first i at done → i < m → w.step at ≡ given a
      → Walked m first (i + 1) (w.past a) (done ++ w.item a ∷ [])
  unfolding ◌then◌
  walked_one {m} {first} {i} {at} {done} a s h e =
      let e' : m - i - 1 ≡ m - (i + 1) = omega arith in
      record {
        within = omega arith;
        size = length-append done (w.item a ∷ []) ∙ ap (λ (n : ℕ). n + 1) s.size;
        is =
            rw (s.is, stepped (m - i) at (omega arith), e, e')
            (snoc done (w.item a) (gathered w (m - (i + 1)) (w.past a)));
      }

  pub walked-refused : {m first i at n : ℕ} {done : List B} → Walked m first i at done → i < m →
      w.step at ≡ refused n → gathered w m first ≡ refused n
  unfolding ◌then◌
  walked-refused {m} {first} {i} {at} s h e = rw (s.is, stepped (m - i) at (omega arith), e)

  pub walked_all : {m first i at : ℕ} {done : List B} → Walked m first i at done → m ≤ i →
      gathered w m first ≡ behind done (w.end at)
  unfolding gathered
  walked_all {m} {first} {i} s h = let e : m - i ≡ 0 = omega arith in rw (s.is, e)
