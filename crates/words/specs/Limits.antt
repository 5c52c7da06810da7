-- How much is taken: refusal 2 (R11.2). Definitions only. Assumes nothing.
use Rattle.std.specs.Prelude.{ℕ, Bool, ◌||◌, List, ltb, length, get_or}

-- lamps of a list or a block, and weights
abbrev pub max_lamps : ℕ
max_lamps = 4096

-- words of a list or a block: 2^20
abbrev pub max_words : ℕ
max_words = 0x10_0000

-- over the limits: of lists and of blocks, which both count their lamps in word 0
unfoldable pub crowded : List ℕ → Bool
crowded ws = ltb max_lamps (get_or ws 0 0) || ltb max_words (length ws)
