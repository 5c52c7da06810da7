-- What reading and writing words as bytes answers and leaves. Definitions only. Assumes nothing.
use Rattle.std.specs.Prelude.{ℕ, ◌*◌, ◌/◌, ◌%◌, List, cond, ltb, leb, eqb, length}
use Rattle.std.proofs.lemmas.List.Edits.{sets}
use Rattle.words.specs.Answers.{Answer, given, refused, ◌then◌}
use Rattle.words.specs.LittleEndian.{bytes_of_word}

-- bytes with the word at a place written, and unchanged where they hold no word there
unfoldable pub set_word : List ℕ → ℕ → ℕ → List ℕ
set_word bytes place w = cond (ltb place (length bytes / 4)) (sets bytes (4 * place) (bytes_of_word w)) bytes

-- How many words bytes hold. A length that is no multiple of four is refusal 1.
unfoldable pub word_count : List ℕ → Answer ℕ
word_count bytes = cond (eqb (length bytes % 4) 0) (given (length bytes / 4)) (refused 1)

-- Reading the words of bytes into a slice of `room` words: a part of a word is refusal 1, too little room 3.
unfoldable pub read_words : List ℕ → ℕ → Answer ℕ
unfolding word_count ◌then◌
read_words bytes room = word_count bytes then (λ (n : ℕ). cond (leb n room) (given n) (refused 3))

-- Writing words into a slice of `room` bytes: too little room is refusal 3.
unfoldable pub written_words : List ℕ → ℕ → Answer ℕ
written_words words room = cond (leb (4 * length words) room) (given (length words)) (refused 3)
