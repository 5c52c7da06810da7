-- The power alias table, step by step as `build_power_alias_table` of `light_sampler.rs` has it. A weight is a word,
-- its value an f32; a bin is three words: q, p, alias. Definitions only. Assumes nothing.
use Rattle.std.specs.Prelude.{ℕ, zero, suc, ◌*◌, Bool, false, cond, not, ◌||◌, ◌&&◌, List, [], ◌∷◌, map, ltb, leb}
use Rattle.std.specs.Prelude.{pos, Float, length, replicate}
use Rattle.std.specs.Float.{Format, binary32, binary64}
use Rattle.std.specs.Float.Ieee.{to_bits, of_int, add, lt, eq}
use Rattle.std.specs.Float.Ieee.Scale.{finite}
use Rattle.ieee.specs.Narrow.{narrow}
use Rattle.ieee.specs.Single.{◌⊕◌, ◌⊖◌, ◌⊗◌, ◌⊘◌, single, zerof, onef}
use Rattle.words.specs.Answers.{Answer, given, refused}
use Rattle.words.specs.Limits.{max_lamps}
use Rattle.words.specs.Rows.{rows_from}

-- `PowerAliasBin`
pub record Bin : Type 0 where
  pub q : Float
  pub p : Float
  pub alias : ℕ

-- no alias: u32::MAX
abbrev pub none : ℕ
none = 0xffff_ffff

-- ---- weights

-- "finite and non-negative"; -0 is not below zero
abbrev pub bad : Float → Bool
bad w = not (finite w) || lt w zerof

unfoldable pub any_bad : List Float → Bool
any_bad [] = false
any_bad (w ∷ ws) = bad w || any_bad ws

-- a sum, left to right, at a format
unfoldable pub sum_from : Format → Float → List Float → Float
sum_from f s [] = s
sum_from f s (w ∷ ws) = sum_from f (add f s w) ws

-- where the f32 sum is zero, every weight becomes one
unfoldable pub filled_in : List Float → List Float
filled_in ws = cond (eq (sum_from binary32 zerof ws) zerof) (replicate (length ws) onef) ws

-- the sum is taken in f64 and narrowed
unfoldable pub total : List Float → Float
total ws = narrow (sum_from binary64 zerof ws)

-- ---- bins and stacks

abbrev pub bin : Float → Float → Bin
bin sum w = record { q = zerof; p = w ⊘ sum; alias = none }

-- a bin in the game: its weight, and its place
pub record Entry : Type 0 where
  pub weight : Float
  pub index : ℕ

-- the bins, and the two stacks, the last pushed first
pub record State : Type 0 where
  pub bins : List Bin
  pub under : List Entry
  pub over : List Entry

-- below one to `under`, else to `over`
unfoldable pub push : Entry → State → State
push e s =
    cond (lt e.weight onef)
    (record { bins = s.bins; under = e ∷ s.under; over = s.over })
    (record { bins = s.bins; under = s.under; over = e ∷ s.over })

-- each bin from place i on is pushed with p_hat = p × count
unfoldable pub push_all : Float → ℕ → List Bin → State → State
push_all count i [] s = s
push_all count i (b ∷ bs) s = push_all count (suc i) bs (push (record { weight = b.p ⊗ count; index = i }) s)

unfoldable pub start : List Float → State
start ws =
    let bs = map (bin (total ws)) ws in
    push_all (of_int binary32 (pos (length ws))) 0 bs (record { bins = bs; under = []; over = [] })

-- ---- the game

-- the bin at a place, changed
unfoldable pub update : List Bin → ℕ → (Bin → Bin) → List Bin
update [] i f = []
update (b ∷ bs) zero f = f b ∷ bs
update (b ∷ bs) (suc i) f = b ∷ update bs i f

abbrev pub settle : Float → ℕ → Bin → Bin
settle w a b = record { q = w; p = b.p; alias = a }

abbrev pub whole : Bin → Bin
whole b = record { q = onef; p = b.p; alias = b.alias }

-- one turn: a bin is taken from each stack; the under one is settled, the over one pushed again with what it has left
unfoldable pub turned : List Bin → List Entry → List Entry → State
turned bs (u ∷ us) (o ∷ os) =
    push
    (record { weight = u.weight ⊕ o.weight ⊖ onef; index = o.index })
    (record { bins = update bs u.index (settle u.weight o.index); under = us; over = os })
turned bs [] os = record { bins = bs; under = []; over = os }
turned bs (u ∷ us) [] = record { bins = bs; under = u ∷ us; over = [] }

abbrev pub turn : State → State
turn s = turned s.bins s.under s.over

-- "while neither is empty". Each turn takes one bin out of the game, so as many turns as bins are enough: GameLaws.ends
unfoldable pub turns : ℕ → State → State
turns zero s = s
turns (suc n) s = turns n (turn s)

-- what is left over is whole: q is 1; the first pushed comes first
unfoldable pub leftover : List Entry → List Bin → List Bin
leftover [] bs = bs
leftover (e ∷ es) bs = update (leftover es bs) e.index whole

-- under before over
abbrev pub finish : State → List Bin
finish s = leftover s.over (leftover s.under s.bins)

unfoldable pub table : List Float → List Bin
table ws = finish (turns (length ws) (start (filled_in ws)))

-- ---- the answer

-- 2, 3, then 8
unfoldable pub build_power_alias_table : List ℕ → ℕ → ℕ → Answer (List Bin)
build_power_alias_table words binsRoom workRoom =
    let m = length words in
    let ws = map single words in
    cond (ltb max_lamps m) (refused 2)
    (cond (leb (3 * m) binsRoom && leb (4 * m) workRoom)
    (cond (any_bad ws) (refused 8) (given (table ws)))
    (refused 3))

-- a bin's three words; those of bins, in their order
abbrev pub bin_row : ℕ → Bin → List ℕ
bin_row place b = to_bits binary32 b.q ∷ to_bits binary32 b.p ∷ b.alias ∷ []

abbrev pub bin_words : List Bin → List ℕ
bin_words bs = rows_from bin_row 0 bs
