-- `words::little_endian::words_of_bytes`: its steps are the definition's, and the loop has passed all words. Assumes
-- nothing.
use Rattle.std.proofs.Common.{◌≡◌, ℕ, List, arith, sym, ◌∙◌, refl, rules, ◌/◌}
use Rattle.std.proofs.lemmas.List.{take_all, length-take-le}
use Rattle.std.proofs.lemmas.Grind.{common_steps}
use Rattle.std.proofs.Math.ListN.{length}
use borrow.Author.Tests.{le-leb, lt-leb}
use Rattle.words.specs.Answers.{given, ◌then◌}
use Rattle.words.specs.LittleEndian.{words_of}
use Rattle.words.specs.AsCoded.WordSlices.{word_count, read_words}
use Rattle.words.specs.Tray.{tray}
use Rattle.words.specs.Laws.TrayLaws.{tray-early, tray-full}
use Rattle.words.proofs.AnswerLaws.{Early, only-cond, only-given, only-refused, only-number, cond-given}
use Rattle.words.proofs.LittleEndianLaws.{length-words_of}
use Rattle.words.proofs.little_endian.words_of_bytes.Goals as goal

count-early : (bytes : List ℕ) → Early (word_count bytes)
unfolding word_count
count-early bytes = only-cond _ only-given (only-refused (omega arith))

counted : (bytes : List ℕ) (n : ℕ) → given n ≡ word_count bytes → length bytes / 4 ≡ n
unfolding word_count
counted bytes n is = (cond-given _ (length bytes / 4) 1 n (sym is)).1

pub returns-in_err-count : goal.returns-in_err-count
unfolding read_words ◌then◌
returns-in_err-count c =
    let early = only-number (count-early c.args.bytes.now) (sym c.in_err-count.ensures) in
    rw (← c.in_err-count.ensures) (record {
      result_value = search rules;
      words_after = sym (tray-early (λ (n : ℕ). words_of c.args.bytes.now) (length c.args.bytes.now / 4) _ _ early);
    })

pub returns-then-words-count : goal.returns-then-words-count
unfolding read_words ◌then◌ tray
returns-then-words-count c =
    rw (← c.in_ok-count.ensures, lt-leb _ _ c.if-words-count.true) (record { result_value = refl; words_after = refl })

pub loop-i-preserved : goal.loop-i-preserved
loop-i-preserved c = let len = length-words_of c.args.bytes.now in
    let count = length-take-le _ _ c.if-words-count.false in
    let is = counted _ _ c.in_ok-count.ensures in
    grind (arith, common_steps, len, count, is)

pub returns : goal.returns
unfolding read_words ◌then◌
returns c =
    let count = length-take-le _ _ c.if-words-count.false in
    let ws = words_of c.args.bytes.now in
    let len = length-words_of c.args.bytes.now in
    let so = counted _ _ c.in_ok-count.ensures in
    let is : c.loop-i.word-items ≡ ws =
    sym (take_all c.loop-i.i _ (omega arith)) ∙ c.loop-i.invariant ∙ take_all c.loop-i.i ws (omega arith) in
    rw (← c.in_ok-count.ensures, le-leb _ _ c.if-words-count.false, is, so)
    (record { result_value = refl; words_after = sym (tray-full _ _ _ _ (len ∙ so)) })
