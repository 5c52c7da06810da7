-- What the definitions of Lines and Report come to: lines written chunk by chunk are the whole ones, and the
-- tree is that of the bytes that the block takes. Assumes nothing.
use Prim.Native.Nat.{ℕ, zero, suc, ◌+◌, ◌-◌, ◌*◌, ◌/◌, ◌%◌, ◌≤◌, ◌<◌}
use Rattle.std.specs.Prelude.{◌≡◌, Bool, cond, List, [], ◌∷◌, ◌++◌, get_or, drop}
use Rattle.std.proofs.Math.Path.{refl, sym}
use Rattle.std.proofs.Common.{ap, subst, ◌∙◌, append_assoc, append-nil, length-drop, take_all, take-take}
use Rattle.std.proofs.Common.{length-take-le}
use Rattle.std.proofs.Math.Bool.{true, false}
use Rattle.std.proofs.Math.Option.{some}
use native.Mathlib.Omega.{arith}
use borrow.Author.Tests.{ltb-true, ltb-false, lt-ltb, le-ltb, eq-eqb}
use Rattle.std.proofs.Math.Dec.{ltb}
use Rattle.std.specs.Float.Ieee.{of_bits, to_bits}
use Rattle.std.proofs.Math.ListN.{length, take, length-append}
use Rattle.std.proofs.lemmas.List.{take-append-le, drop-append-le}
use Rattle.std.proofs.Math.Seq.{drop-append-add}
use Rattle.ieee.specs.Single.{single}
use Rattle.words.specs.Answers.{Answer, given, refused, ◌then◌}
use Rattle.words.specs.LittleEndian.{words_of}
use Rattle.words.proofs.AnswerLaws.{given_injective, not-both}
use Rattle.text.specs.Text.{places_in, decimal_bytes, hex_bytes}
use Rattle.light_report.specs.Lines.{chance_bytes, line_bytes, group_line, group_lines, part_line, report_lines}
use Rattle.light_report.specs.Report.{report_lamps, block_bytes, block_lamps, tree_of, report_tree}

-- ---- lines

-- R14.1's `1 3f000000 3f000000`
pub pair_line : line_bytes (given (some (1, (single 0x3f00_0000, single 0x3f00_0000))))
    ≡ 49 ∷ 32 ∷ 51 ∷ 102 ∷ 48 ∷ 48 ∷ 48 ∷ 48 ∷ 48 ∷ 48 ∷ 32 ∷ 51 ∷ 102 ∷ 48 ∷ 48 ∷ 48 ∷ 48 ∷ 48 ∷ 48 ∷ 10 ∷ []
unfolding line_bytes decimal_bytes places_in hex_bytes chance_bytes of_bits to_bits
pair_line = refl

-- ---- chunks

module _ (nodes table : List ℕ) where
  -- the lines of groups that lie within the front
  lines-front : (a b : List ℕ) (n : ℕ) → 28 * n ≤ length a
      → group_lines nodes table (a ++ b) n ≡ group_lines nodes table a n
  unfolding group_lines
  lines-front a b zero h = refl
  lines-front a b (suc n) h =
      let long : 28 ≤ length (drop (28 * n) a) = rw (length-drop (28 * n) a) (omega (arith, h)) in
      let here : take 28 (drop (28 * n) (a ++ b)) ≡ take 28 (drop (28 * n) a) =
      rw (drop-append-le (28 * n) a b (omega (arith, h))) (take-append-le 28 (drop (28 * n) a) b long) in
      rw (lines-front a b n (omega (arith, h)), here)

  lines-behind : (a b : List ℕ) (n m : ℕ) → length a ≡ 28 * n
      → group_lines nodes table (a ++ b) (n + m) ≡ group_lines nodes table a n ++ group_lines nodes table b m
  unfolding group_lines
  lines-behind a b n zero e =
      let all : n + 0 ≡ n = omega arith in
      rw all (lines-front a b n (omega (arith, e)) ∙ sym (append-nil (group_lines nodes table a n)))
  lines-behind a b n (suc m) e =
      let next : n + suc m ≡ suc (n + m) = omega arith in
      let at : 28 * (n + m) ≡ length a + 28 * m = omega (arith, e) in
      rw (next, at, drop-append-add a b (28 * m), lines-behind a b n m e)
      (append_assoc (group_lines nodes table a n) (group_lines nodes table b m)
      (group_line nodes table (take 28 (drop (28 * m) b))))

  -- a chunk of whole groups, and what comes behind it
  pub report_chunks : (chunk rest : List ℕ) → length chunk % 28 ≡ 0
      → report_lines nodes table (chunk ++ rest) ≡ report_lines nodes table chunk ++ report_lines nodes table rest
  unfolding report_lines part_line
  report_chunks chunk rest whole =
      let long = length-append chunk rest in
      let groups : length (chunk ++ rest) / 28 ≡ length chunk / 28 + length rest / 28 = rw long
      (omega (arith, whole)) in
      let part : length (chunk ++ rest) % 28 ≡ length rest % 28 = rw long (omega (arith, whole)) in
      let front : length chunk ≡ 28 * (length chunk / 28) = omega (arith, whole) in
      rw (
        groups,
        part,
        lines-behind chunk rest (length chunk / 28) (length rest / 28) front,
        eq-eqb
            (length chunk % 28) 0 whole,
      )
      (rw (append-nil (group_lines nodes table chunk (length chunk / 28)))
      (append_assoc (group_lines nodes table chunk (length chunk / 28))
      (group_lines nodes table rest (length rest / 28)) (part_line rest)))

-- ---- the block

first_word : (k : ℕ) (input : List ℕ)
    → get_or (words_of (take (suc (suc (suc (suc k)))) input)) 0 0 ≡ get_or (words_of input) 0 0
unfolding words_of
first_word k [] = refl
first_word k (a ∷ []) = refl
first_word k (a ∷ b ∷ []) = refl
first_word k (a ∷ b ∷ c ∷ []) = refl
first_word k (a ∷ b ∷ c ∷ d ∷ rest) = refl

pub front-word : (input : List ℕ) (k : ℕ) → 4 ≤ k → get_or (words_of (take k input)) 0 0 ≡ get_or (words_of input) 0 0
front-word input k word =
    let e : suc (suc (suc (suc (k - 4)))) ≡ k = omega (arith, word) in
    subst (λ (n : ℕ). get_or (words_of (take n input)) 0 0 ≡ get_or (words_of input) 0 0) e (first_word (k - 4) input)

-- a block that is taken has as many lamps as its word 0 says, no more than a report takes, and is all there
pub lamps-there : (input : List ℕ) (m : ℕ) → block_lamps input ≡ given m
    → (get_or (words_of input) 0 0 ≡ m) × (m ≤ report_lamps) × (block_bytes m ≤ length input)
unfolding block_lamps
lamps-there input m e = go (ltb (length input) 4) e
  where
    n : ℕ
    n = get_or (words_of input) 0 0

    Is : Type 0
    Is = (n ≡ m) × (m ≤ report_lamps) × (block_bytes m ≤ length input)

    all : (b : Bool) → n ≤ report_lamps → ltb (length input) (block_bytes n) ≡ b
        → cond b (refused 1) (given n) ≡ given m → Is
    all true few is e = absurd (not-both e refl)
    all false few is e = rw (← given_injective e) (refl, few, ltb-false (length input) (block_bytes n) is)

    some : (b : Bool) → ltb report_lamps n ≡ b
        → cond b (refused 2) (cond (ltb (length input) (block_bytes n)) (refused 1) (given n)) ≡ given m → Is
    some true is e = absurd (not-both e refl)
    some false is e = all (ltb (length input) (block_bytes n)) (ltb-false report_lamps n is) refl e

    go : (b : Bool) → cond b (refused 1)
        (cond (ltb report_lamps n) (refused 2) (cond (ltb (length input) (block_bytes n)) (refused 1) (given n))) ≡
        given m
        → Is
    go true e = absurd (not-both e refl)
    go false e = some (ltb report_lamps n) refl e

-- as many bytes as word 0, and as the block where it is taken, tell what all of the input tells
module _ (input : List ℕ) (k : ℕ) (word : 4 ≤ k)
    (reaches : (m : ℕ) → block_lamps input ≡ given m → block_bytes m ≤ k) where
  abbrev m : ℕ
  m = get_or (words_of input) 0 0

  -- of so many bytes and of all
  abbrev told : ℕ → Answer ℕ
  told n = cond (ltb n 4) (refused 1) (cond (ltb report_lamps m) (refused 2)
      (cond (ltb n (block_bytes m)) (refused 1) (given m)))

  told-all : told (length input) ≡ block_lamps input
  unfolding block_lamps
  told-all = refl

  lamps-front : block_lamps (take k input) ≡ block_lamps input
  unfolding block_lamps
  lamps-front = go (ltb k (length input)) refl
    where
      cut : (b : Bool) → k < length input → ltb report_lamps m ≡ false → ltb (length input) (block_bytes m) ≡ b
          → told k ≡ told (length input)
      cut true less few is =
          let short = ltb-true (length input) (block_bytes m) is in
          simp (le-ltb k 4 word, le-ltb (length input) 4 (omega arith), few, is, lt-ltb k (block_bytes m) (omega arith))
      cut false less few is =
          let taken : block_lamps input ≡ given m = sym told-all ∙ simp
          (le-ltb (length input) 4 (omega arith), few, is) in
          simp (
            le-ltb k 4 word,
            le-ltb (length input) 4 (omega arith),
            few,
            is,
            le-ltb k (block_bytes m)
                (reaches m taken),
          )

      crowd : (b : Bool) → k < length input → ltb report_lamps m ≡ b → told k ≡ told (length input)
      crowd true less is = simp (le-ltb k 4 word, le-ltb (length input) 4 (omega arith), is)
      crowd false less is = cut (ltb (length input) (block_bytes m)) less is refl

      go : (b : Bool) → ltb k (length input) ≡ b → block_lamps (take k input) ≡ block_lamps input
      go true is =
          let less = ltb-true k (length input) is in
          rw (front-word input k word, length-take-le k input (omega arith)) (crowd (ltb report_lamps m) less refl)
      go false is = ap block_lamps (take_all k input (ltb-false k (length input) is))

  pub tree-front : report_tree (take k input) ≡ report_tree input
  unfolding report_tree ◌then◌
  tree-front = rw lamps-front (go (block_lamps input) refl)
    where
      go : (x : Answer ℕ) → block_lamps input ≡ x
          → (x then λ (n : ℕ). tree_of n (words_of (take (block_bytes n) (take k input)))) ≡
          (x then λ (n : ℕ). tree_of n (words_of (take (block_bytes n) input)))
      go (given n) is = rw (take-take (block_bytes n) k input (reaches n is))
      go (refused n) is = refl
