-- Words and their little-endian bytes: lengths, the word at a place, and reading back what was written. Assumes
-- nothing.
use Prim.Native.Nat.{ℕ, zero, suc, ◌+◌, ◌*◌, ◌/◌, ◌%◌, ◌^◌, ◌<◌}
use mathlib.Core.Path.{◌≡◌, refl, ap, ap₂}
use mathlib.Core.List.{List, [], ◌∷◌, ◌++◌}
use native.Mathlib.Nat.{div-div-eq-div-mul}
use native.Mathlib.Omega.{arith}
use native.Mathlib.Numerals.{unary_clauses}
use lib.ListN.{length, get_or, take, drop}
use Rattle.words.proofs.ListLaws.{All, all-at}
use Rattle.words.specs.LittleEndian.{word_of, words_of, bytes_of_word, bytes_of}

pub length-words_of : (bs : List ℕ) → length (words_of bs) ≡ length bs / 4
unfolding words_of
length-words_of [] = refl
length-words_of (a ∷ []) = refl
length-words_of (a ∷ b ∷ []) = refl
length-words_of (a ∷ b ∷ c ∷ []) = refl
length-words_of (a ∷ b ∷ c ∷ d ∷ rest) = omega (arith, length-words_of rest)

pub length-bytes_of : (ws : List ℕ) → length (bytes_of ws) ≡ 4 * length ws
unfolding bytes_of
length-bytes_of [] = refl
length-bytes_of (w ∷ rest) = omega (arith, length-bytes_of rest)

-- the word at a place
pub words_of-at : (bs : List ℕ) (i : ℕ) → i < length bs / 4
    → get_or (words_of bs) i 0
    ≡ word_of (get_or bs (4 * i) 0) (get_or bs (4 * i + 1) 0) (get_or bs (4 * i + 2) 0) (get_or bs (4 * i + 3) 0)
unfolding words_of
words_of-at [] i h = omega arith
words_of-at (a ∷ []) i h = omega arith
words_of-at (a ∷ b ∷ []) i h = omega arith
words_of-at (a ∷ b ∷ c ∷ []) i h = omega arith
words_of-at (a ∷ b ∷ c ∷ d ∷ rest) zero h = refl
words_of-at (a ∷ b ∷ c ∷ d ∷ rest) (suc i) h =
    simp unary_clauses (simp unary_clauses at (words_of-at rest i (omega arith)))

-- the bytes of the word at a place
pub bytes_of-at : (ws : List ℕ) (i : ℕ) → i < length ws
    → take 4 (drop (4 * i) (bytes_of ws)) ≡ bytes_of_word (get_or ws i 0)
unfolding bytes_of
bytes_of-at [] i h = absurd (omega arith)
bytes_of-at (w ∷ rest) zero h = refl
bytes_of-at (w ∷ rest) (suc i) h = simp unary_clauses (bytes_of-at rest i (omega arith))

pub bytes_of-append : (xs ys : List ℕ) → bytes_of (xs ++ ys) ≡ bytes_of xs ++ bytes_of ys
unfolding bytes_of
bytes_of-append [] ys = refl
bytes_of-append (x ∷ xs) ys = ap (λ (z : List ℕ). bytes_of_word x ++ z) (bytes_of-append xs ys)

-- words below 2 ^ 32 come back from their bytes
pub words_of-bytes_of : (ws : List ℕ) → ((i : ℕ) → get_or ws i 0 < 2 ^ 32) → words_of (bytes_of ws) ≡ ws
unfolding words_of bytes_of
words_of-bytes_of [] h = refl
words_of-bytes_of (w ∷ rest) h =
    let top : w / 16777216 % 256 ≡ w / 16777216 = omega (arith, h 0) in
    ap₂ ◌∷◌ (omega (arith, div-div-eq-div-mul w 256 256, div-div-eq-div-mul w 65536 256))
    (words_of-bytes_of rest (λ i. h (suc i)))

-- and bytes from the words that they make up
pub bytes_of-words_of : (bs : List ℕ) → ((i : ℕ) → get_or bs i 0 < 256) → length bs % 4 ≡ 0
    → bytes_of (words_of bs) ≡ bs
unfolding words_of bytes_of
bytes_of-words_of [] h e = refl
bytes_of-words_of (a ∷ []) h e = absurd (omega arith)
bytes_of-words_of (a ∷ b ∷ []) h e = absurd (omega arith)
bytes_of-words_of (a ∷ b ∷ c ∷ []) h e = absurd (omega arith)
bytes_of-words_of (a ∷ b ∷ c ∷ d ∷ rest) h e =
    let small : (a < 256) × (b < 256) × (c < 256) × (d < 256) = (h 0, h 1, h 2, h 3) in
    let ih = bytes_of-words_of rest (λ i. h (suc (suc (suc (suc i))))) (omega arith) in
    ap₂ ◌∷◌ (omega arith) (ap₂ ◌∷◌ (omega arith) (ap₂ ◌∷◌ (omega arith) (ap₂ ◌∷◌ (omega arith) ih)))

-- ---- words below 2 ^ 32

abbrev pub IsWord : ℕ → Type 0
IsWord w = w < 2 ^ 32

pub words_back : (ws : List ℕ) → All IsWord ws → words_of (bytes_of ws) ≡ ws
words_back ws h = words_of-bytes_of ws (all-at IsWord 0 (omega arith) ws h)
