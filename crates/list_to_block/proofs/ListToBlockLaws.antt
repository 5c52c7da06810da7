-- What was read of a list that is too long tells as much as all of it. Assumes nothing.
use Rattle.std.specs.Prelude.{ℕ, ◌*◌, ◌%◌, ◌≤◌, ◌<◌, ◌≡◌, refl, Bool, true, false, ◌||◌, List, ltb, length, get_or}
use Rattle.std.specs.Prelude.{take}
use Rattle.std.proofs.Common.{sym, ◌∙◌, arith, lt-ltb, length-take-le}
use Rattle.words.specs.Limits.{max_lamps, max_words, crowded}
use Rattle.words.specs.LittleEndian.{words_of}
use Rattle.words.proofs.LittleEndianLaws.{length-words_of}
use Rattle.text.specs.Text.{refusal_line}
use Rattle.list_to_block.specs.ListToBlock.{answered, answer_bytes, converted, lamps_to_block}

-- more words than the limits allow are refusal 2, whatever they are
too_long : (list : List ℕ) (stray : ℕ) → max_words < length list → converted list stray ≡ refusal_line 2
unfolding converted answered answer_bytes crowded
too_long list stray long = simp (lt-ltb max_words (length list) long, or-true (ltb max_lamps (get_or list 0 0)))
  where
    or-true : (b : Bool) → b || true ≡ true
    or-true true = refl
    or-true false = refl

pub list-front : (input : List ℕ) (k : ℕ) → max_words < k → k ≤ length (words_of input)
    → lamps_to_block (take (4 * k) input) ≡ lamps_to_block input
unfolding lamps_to_block
list-front input k long there =
    let words = length-words_of input in
    let cut = length-take-le (4 * k) input (omega (arith, words, there)) in
    let few : max_words < length (words_of (take (4 * k) input)) = rw (length-words_of (take (4 * k) input), cut)
    (omega (arith, long)) in
    too_long (words_of (take (4 * k) input)) (length (take (4 * k) input) % 4) few
    ∙ sym (too_long (words_of input) (length input % 4) (omega (arith, long, there)))
