-- `parts_c::union_words`: both records are found, then there is room, then they are joined; what is refused before
-- leaves the words as they are. Assumes nothing.
use mathlib.Core.Path.{refl, sym}
use mathlib.Core.List.{List}
use Prim.Native.Nat.{ℕ}
use native.Mathlib.Omega.{arith}
use borrow.Author.Rules.{rules}
use borrow.Author.Tests.{lt-leb, le-leb}
use lib.ListN.{length}
use Rattle.words.specs.Answers.{◌then◌}
use Rattle.words.specs.Laws.TrayLaws.{tray-early}
use Rattle.words.proofs.AnswerLaws.{Early, only-cond, only-given, only-refused, only-number}
use Rattle.light_rows.specs.RecordWords.{record_at, record_list, record_words}
use Rattle.parts_c.specs.PartCodes.{union_words}
use Rattle.parts_c.proofs.union_words.Goals as goal

record-early : (ws : List ℕ) → Early (record_at 1 ws 0)
unfolding record_at
record-early ws = only-cond _ only-given (only-refused (omega arith))

pub returns-in_err-first : goal.returns-in_err-first
unfolding union_words ◌then◌
returns-in_err-first c =
    let early = only-number (record-early c.args.a.now) (sym c.in_err-first.ensures) in
    rw (← c.in_err-first.ensures) (record {
      result_value = search rules;
      out_after = sym (tray-early record_list record_words c.args.out.now _ early);
    })

pub returns-in_err-second : goal.returns-in_err-second
unfolding union_words ◌then◌
returns-in_err-second c =
    let early = only-number (record-early c.args.b.now) (sym c.in_err-second.ensures) in
    rw (← c.read_record.ensures, c.in_ok-first.was)
    (rw (← c.in_err-second.ensures) (record {
      result_value = search rules;
      out_after = sym (tray-early record_list record_words c.args.out.now _ early);
    }))

pub returns-then-out-lt-RECORD_WORDS : goal.returns-then-out-lt-RECORD_WORDS
unfolding union_words ◌then◌
returns-then-out-lt-RECORD_WORDS c = rw (← c.read_record.ensures, c.in_ok-first.was)
    (rw (← c.read_record-2.ensures, c.in_ok-second.was)
    (rw (lt-leb 13 (length c.args.out.now) (omega arith)) (record {
      result_value = refl;
      out_after = sym (tray-early record_list record_words c.args.out.now 3 (omega arith));
    })))

pub returns : goal.returns
unfolding union_words ◌then◌
returns c = rw (← c.read_record.ensures, c.in_ok-first.was)
    (rw (← c.read_record-2.ensures, c.in_ok-second.was)
    (rw (le-leb 13 (length c.args.out.now) (omega arith)) c.write_union.ensures))
