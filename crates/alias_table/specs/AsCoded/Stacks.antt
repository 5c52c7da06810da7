-- The game of AliasTable.antt in words: how the two stacks stand in the lent work, and what each step of the code does
-- to the words. Definitions only. Assumes nothing.
use Rattle.std.specs.Prelude.{Option, Some, None}
use Rattle.std.specs.Prelude.{ℕ, zero, suc, ◌+◌, ◌*◌, ◌/◌, ◌≤◌, ◌<◌, ◌≡◌, Bool, cond, List, [], ◌∷◌, ◌++◌, map, Float}
use Rattle.std.specs.Prelude.{length, get_or, set, drop, replicate}
use Rattle.std.specs.Float.{binary32, binary64}
use Rattle.std.specs.Float.Ieee.{to_bits}
use Rattle.ieee.specs.Single.{single, zerof, onef}
use Rattle.words.specs.Limits.{max_lamps}
use Rattle.alias_table.specs.AliasTable.{Bin, Entry, State, any_bad, sum_from}
use Rattle.alias_table.specs.AliasTable.{start, turns, leftover, finish, bin_words}
use Rattle.alias_table.specs.declared.Sums.{Sums}

-- ---- weights

-- both sums, from what has been summed so far; none where a weight is bad
unfoldable pub sums_from : Float → Float → List Float → Option Sums
sums_from s d ws =
    cond (any_bad ws) None (Some (record { single = sum_from binary32 s ws; double = sum_from binary64 d ws }))

abbrev pub sums_of : List Float → Option Sums
sums_of ws = sums_from zerof zerof ws

-- the weights, or as many ones
unfoldable pub weighted : Bool → List ℕ → List Float
weighted flat words = cond flat (replicate (length words) onef) (map single words)

-- the table of weights that need no filling in
unfoldable pub played : List Float → List Bin
played ws = finish (turns (length ws) (start ws))

-- ---- stacks

-- the entry at a place of the stack that starts at word `base`
abbrev pub entry_at : ℕ → List ℕ → ℕ → Entry
entry_at base work k = record {
  weight = single (get_or work (base + 2 * k) 0);
  index = get_or work
      (base + 2 * k + 1) 0;
}

-- n entries, the last first
unfoldable pub stack_at : ℕ → List ℕ → ℕ → List Entry
stack_at base work zero = []
stack_at base work (suc n) = entry_at base work n ∷ stack_at base work n

-- an entry's two words at a place
abbrev pub put : List ℕ → ℕ → Float → ℕ → List ℕ
put work at weight index = set (set work at (to_bits binary32 weight)) (at + 1) index

-- where the next entry goes: on `under` where it is below one, else on `over`
abbrev pub top : ℕ → ℕ → ℕ → Bool → ℕ
top m under over below = cond below (2 * under) (2 * m + 2 * over)

-- an entry's place is one of m, and its word is that of its weight
abbrev pub SoundAt : ℕ → ℕ → List ℕ → ℕ → Type 0
SoundAt m base work k =
    (get_or work (base + 2 * k + 1) 0 < m) ×
    (to_bits binary32 (single (get_or work (base + 2 * k) 0)) ≡ get_or work (base + 2 * k) 0)

abbrev pub Sound : ℕ → ℕ → List ℕ → ℕ → Type 0
Sound m base work n = (k : ℕ) → k < n → SoundAt m base work k

-- n entries from word `base` on are these
pub record Stack (m base : ℕ) (work : List ℕ) (n : ℕ) (es : List Entry) : Type 0 where
  pub are : stack_at base work n ≡ es
  pub sound : Sound m base work n

-- The stacks of a state as they stand in the work: `under` from word 0 on, `over` from word 2m on; after 4m words
-- `work_rest`.
pub record Stacks (m : ℕ) (work_rest : List ℕ) (s : State) (work : List ℕ) (under over : ℕ) : Type 0 where
  pub under-is : Stack m 0 work under s.under
  pub over-is : Stack m (2 * m) work over s.over
  pub together : under + over ≤ m
  pub room : 4 * m ≤ length work
  pub rest : drop (4 * m) work ≡ work_rest

-- The words of a game's state: m bins, then `bins_rest`; and the stacks.
pub record Game (m : ℕ) (bins_rest work_rest : List ℕ) (s : State) (bins work : List ℕ) (under over : ℕ) : Type 0 where
  pub bins-are : bins ≡ bin_words s.bins ++ bins_rest
  pub count : length s.bins ≡ m
  pub stacks : Stacks m work_rest s work under over

-- ---- what each step asks, and what it does

pub record Room (m : ℕ) (bins work : List ℕ) : Type 0 where
  pub few : m ≤ max_lamps
  pub bins-room : 3 * m ≤ length bins
  pub work-room : 4 * m ≤ length work

abbrev pub Started : ℕ → List Float → List ℕ → List ℕ → List ℕ → List ℕ → ℕ → ℕ → Type 0
Started m ws bins₀ work₀ bins work under over =
    Game m (drop (3 * m) bins₀) (drop (4 * m) work₀) (start ws) bins work under over

abbrev pub Playing : ℕ → List ℕ → List ℕ → ℕ → ℕ → Type 0
Playing m bins work under over =
    (bins_rest : List ℕ) × (work_rest : List ℕ) × (s : State) × Game m bins_rest work_rest s bins work under over

abbrev pub Played : ℕ → List ℕ → List ℕ → ℕ → ℕ → List ℕ → List ℕ → ℕ → ℕ → Type 0
Played m bins₀ work₀ under₀ over₀ bins work under over =
    (bins_rest work_rest : List ℕ) (s : State) → Game m bins_rest work_rest s bins₀ work₀ under₀ over₀
    → Game m bins_rest work_rest (turns m s) bins work under over

-- what is left on a stack, of the words that it stands in
abbrev pub Left : List ℕ → List ℕ → Type 0
Left bins stack =
    (bs : List Bin) × (bins_rest : List ℕ) × (bins ≡ bin_words bs ++ bins_rest) ×
    Sound (length bs) 0 stack (length stack / 2)

abbrev pub Wholed : List ℕ → List ℕ → List ℕ → Type 0
Wholed bins₀ stack bins =
    (bs : List Bin) (bins_rest : List ℕ) → bins₀ ≡ bin_words bs ++ bins_rest
    → Sound (length bs) 0 stack (length stack / 2)
    → bins ≡ bin_words (leftover (stack_at 0 stack (length stack / 2)) bs) ++ bins_rest
