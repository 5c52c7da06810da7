-- Bins and stacks in words: what each store does to the bins and to the two stacks. Assumes nothing.
use Prim.Native.Nat.{ℕ, zero, suc, ◌+◌, ◌-◌, ◌*◌, ◌≤◌, ◌<◌}
use mathlib.Core.Path.{◌≡◌, refl, ◌∙◌}
use mathlib.Core.Bool.{Bool, true, false, cond}
use mathlib.Core.List.{List, [], ◌∷◌, ◌++◌}
use mathlib.Core.Logic.{◌⊎◌, inl, inr, ⊎_elim}
use native.Mathlib.Nat.{zero-add}
use native.Mathlib.Numerals.{add-one}
use native.Mathlib.Omega.{arith}
use borrow.Author.Count.{below_more}
use lib.Dec.{T}
use lib.Ieee.{Float, binary32, of_bits, to_bits, fits, lt}
use lib.Ieee.Bits.{of_bits-to_bits}
use lib.ListN.{length, get_or, set, drop, length-set}
use lib.Seq.{drop-set-lt, get_or-set_same, get_or-set_other}
use Rattle.ieee.specs.Single.{onef}
use Rattle.words.specs.Rows.{rows_from}
use Rattle.words.proofs.RowLaws.{rows-length}
use Rattle.alias_table.specs.AliasTable.{Bin, Entry, State, push, update, settle, whole, bin_row, bin_words}
use Rattle.alias_table.specs.AsCoded.Stacks.{entry_at, stack_at, put, top, Stack, Stacks}

-- ---- bins

three : (i : ℕ) → 3 * suc i ≡ suc (suc (suc (3 * i)))
three i = omega arith

three-two : (i : ℕ) → 3 * suc i + 2 ≡ suc (suc (suc (3 * i + 2)))
three-two i = omega arith

pub bin_width : (i : ℕ) (b : Bin) → length (bin_row i b) ≡ 3
bin_width i b = refl

pub length-bin_words : (bs : List Bin) → length (bin_words bs) ≡ 3 * length bs
length-bin_words bs = rows-length bin_row 3 bin_width 0 bs

pub settle-words : (k : ℕ) (bs : List Bin) (i : ℕ) (w : Float) (a : ℕ) (rest : List ℕ) → i < length bs
    → set (set (rows_from bin_row k bs ++ rest) (3 * i) (to_bits binary32 w)) (3 * i + 2) a ≡
    rows_from bin_row k (update bs i (settle w a)) ++ rest
unfolding rows_from update
settle-words k [] i w a rest h = absurd (omega arith)
settle-words k (b ∷ bs) zero w a rest h = refl
settle-words k (b ∷ bs) (suc i) w a rest h = rw (three-two, three, settle-words (suc k) bs i w a rest (omega arith))

one_word : to_bits binary32 onef ≡ 0x3f80_0000
unfolding to_bits of_bits
one_word = refl

pub whole_words : (k : ℕ) (bs : List Bin) (i : ℕ) (rest : List ℕ) → i < length bs
    → set (rows_from bin_row k bs ++ rest) (3 * i) 0x3f80_0000 ≡ rows_from bin_row k (update bs i whole) ++ rest
unfolding rows_from update
whole_words k [] i rest h = absurd (omega arith)
whole_words k (b ∷ bs) zero rest h = rw one_word
whole_words k (b ∷ bs) (suc i) rest h = rw (three, whole_words (suc k) bs i rest (omega arith))

-- ---- one stack

stack_same : (base n : ℕ) (work work' : List ℕ) →
    ((j : ℕ) → base ≤ j → j < base + 2 * n → get_or work' j 0 ≡ get_or work j 0)
    → stack_at base work' n ≡ stack_at base work n
unfolding stack_at
stack_same base zero work work' s = refl
stack_same base (suc n) work work' s =
    let below = stack_same base n work work' (λ j h k. s j h (omega arith)) in
    rw (s (base + 2 * n) (omega arith) (omega arith), s (base + 2 * n + 1) (omega arith) (omega arith), below)

module _ {m base n : ℕ} {work : List ℕ} {es : List Entry} (g : Stack m base work n es) (at : ℕ) (w : Float) (i : ℕ)
  where
    -- an entry's words elsewhere
    stack_beside : (at + 1 < base) ⊎ (base + 2 * n ≤ at) → Stack m base (put work at w i) n es
    stack_beside out =
        let same : (j : ℕ) → base ≤ j → j < base + 2 * n → get_or (put work at w i) j 0 ≡ get_or work j 0 = λ j h k.
        get_or-set_other (set work at (to_bits binary32 w)) (at + 1) j i 0
        (λ e. ⊎_elim (λ l. omega arith) (λ l. omega arith) out)
        ∙ get_or-set_other work at j (to_bits binary32 w) 0 (λ e. ⊎_elim (λ l. omega arith) (λ l. omega arith) out) in
        record {
          are = stack_same base n work (put work at w i) same ∙ g.are;
          sound =
              λ k l. rw (
                same (base + 2 * k + 1) (omega arith) (omega arith),
                same (base + 2 * k) (omega arith)
                    (omega arith),
              ) (g.sound k l);
        }

    -- and on its top
    stack-more : base + 2 * n ≡ at → at + 1 < length work → T (fits binary32 w) → i < m
        → Stack m base (put work at w i) (n + 1) (record { weight = w; index = i } ∷ es)
    unfolding stack_at
    stack-more place h fit low =
        let below = stack_beside (inr (omega arith)) in
        let weight : get_or (put work at w i) at 0 ≡ to_bits binary32 w =
        get_or-set_other (set work at (to_bits binary32 w)) (at + 1) at i 0 (λ e. omega arith) ∙
        get_or-set_same work at (to_bits binary32 w) 0 (omega arith) in
        let index : get_or (put work at w i) (at + 1) 0 ≡
        i = get_or-set_same (set work at (to_bits binary32 w)) (at + 1) i 0 (rw length-set h) in
        record {
          are = rw (add-one n, place, weight, index, of_bits-to_bits binary32 w fit, below.are);
          sound = below_more _ n below.sound (rw (place, weight, index, of_bits-to_bits binary32 w fit) (low, refl));
        }

pub stack_top : (base : ℕ) (work : List ℕ) (n : ℕ) → 0 < n →
    stack_at base work n ≡ entry_at base work (n - 1) ∷ stack_at base work (n - 1)
unfolding stack_at
stack_top base work zero h = absurd (omega arith)
stack_top base work (suc n) h = let e : suc n - 1 ≡ n = omega arith in rw e

-- the same entries stand in a part of the words
pub stack-part : (base n : ℕ) (work part : List ℕ)
    → ((i j : ℕ) → j ≡ base + i → i < 2 * n → get_or part i 0 ≡ get_or work j 0)
    → stack_at 0 part n ≡ stack_at base work n
unfolding stack_at
stack-part base zero work part s = refl
stack-part base (suc n) work part s =
    let below = stack-part base n work part (λ i j e h. s i j e (omega arith)) in
    let weight = s (0 + 2 * n) (base + 2 * n) (omega arith) (omega arith) in
    let index = s (0 + 2 * n + 1) (base + 2 * n + 1) (omega arith) (omega arith) in
    rw (weight, index, below)

-- ---- both stacks

pub stacks-none : (m : ℕ) (work : List ℕ) (bs : List Bin) → 4 * m ≤ length work
    → Stacks m (drop (4 * m) work) (record { bins = bs; under = []; over = [] }) work 0 0
unfolding stack_at
stacks-none m work bs h =
    record {
      under-is = record { are = refl; sound = λ k l. absurd (omega arith) };
      over-is = record { are = refl; sound = λ k l. absurd (omega arith) };
      together = omega arith;
      room = h;
      rest = refl;
    }

module _ {m : ℕ} {work_rest : List ℕ} {s : State} {work : List ℕ} {under over : ℕ}
    (g : Stacks m work_rest s work under over) where
  -- the top of each stack taken
  pub popped : (bs : List Bin)
      → Stacks m work_rest (record {
        bins = bs;
        under = stack_at 0 work (under - 1);
        over = stack_at (2 * m) work
            (over - 1);
      }) work (under - 1) (over - 1)
  popped bs =
      record {
        under-is = record { are = refl; sound = λ k l. g.under-is.sound k (omega arith) };
        over-is = record { are = refl; sound = λ k l. g.over-is.sound k (omega arith) };
        together = omega (arith, g.together);
        room = g.room;
        rest = g.rest;
      }

  module _ (w : Float) (i : ℕ) (fit : T (fits binary32 w)) (low : i < m) (more : under + over < m) where
    rest_put : (at : ℕ) → at + 1 < 4 * m → drop (4 * m) (put work at w i) ≡ work_rest
    rest_put at h =
        drop-set-lt (4 * m) (set work at (to_bits binary32 w)) (at + 1) i h ∙
        drop-set-lt (4 * m) work at (to_bits binary32 w) (omega arith) ∙ g.rest

    -- an entry pushed, and its words put on top of its stack
    pub stacks-push : (below : Bool) → lt w onef ≡ below
        → Stacks m work_rest (push (record { weight = w; index = i }) s) (put work (top m under over below) w i)
        (cond below (under + 1) under) (cond below over (over + 1))
    unfolding push
    stacks-push true l =
        rw l
        (record {
          under-is = stack-more g.under-is (2 * under) w i (zero-add (2 * under)) (omega (arith, g.room)) fit low;
          over-is = stack_beside g.over-is (2 * under) w i (inl (omega arith));
          together = omega arith;
          room = simp length-set g.room;
          rest = rest_put (2 * under) (omega arith);
        })
    stacks-push false l =
        rw l
        (record {
          under-is = stack_beside g.under-is (2 * m + 2 * over) w i (inr (omega arith));
          over-is = stack-more g.over-is (2 * m + 2 * over) w i refl (omega (arith, g.room)) fit low;
          together = omega arith;
          room = simp length-set g.room;
          rest = rest_put (2 * m + 2 * over) (omega arith);
        })
