-- A short answer is judged by the checks alone; with one that is long enough the build's own answer, as words, is the
-- definition's. Assumes nothing.
use Prim.Native.Nat.{ℕ}
use mathlib.Core.Option.{Option}
use mathlib.Core.Path.{◌≡◌, sym, ap, ◌∙◌}
use Rattle.std.specs.Prelude.{Result, Ok, Option as Option-of-std}
use Rattle.words.specs.Answers.{Answer}
use Rattle.words.specs.declared.refusals.Refusal.{Refusal}
use Rattle.light_bounds.specs.declared.bounds.Bounds3.{Bounds3}
use Rattle.light_bvh.specs.Build.{built}
use Rattle.light_bvh.specs.declared.build.Built.{Built}
use Rattle.light_c.proofs.Answered.{short, k-fits, tree-answered, none-answered, refused-answered}
use Rattle.light_c.proofs.light_build.Goals as goal

-- what a build that is not refused answers
told : {r : Result (Option-of-std Built) Refusal} {own got : Option-of-std Built} {x : Answer (ℕ × Option Bounds3)}
    → r ≡ Ok own → own ≡ got → built r ≡ x → built (Ok got) ≡ x
told is got e = sym (ap built (is ∙ ap Ok got)) ∙ e

pub returns-then-answer-lt-ANSWER_WORDS : goal.returns-then-answer-lt-ANSWER_WORDS
returns-then-answer-lt-ANSWER_WORDS c =
    let s = c.args in
    let h = short s.lights s.block.now s.nodes.now s.table.now s.work.now s.answer.now _
    c.if-answer-lt-ANSWER_WORDS.true c.refuse_short.ensures in
    record { value = h.0; nodes_after = h.1.0; table_after = h.1.1.0; work_after = h.1.1.1.0; answer_after = h.1.1.1.1 }

pub write_summary-requires : goal.write_summary-requires
write_summary-requires c =
    let s = c.args in
    record {
      k_bound =
          k-fits s.lights s.block.now s.nodes.now s.table.now s.work.now s.answer.now
          (told c.in-Ok-Some.is c.in-Ok-Some.field-0-is c.build_light_bvh.ensures.result_value);
      answer_reserve_in_bounds = c.if-answer-lt-ANSWER_WORDS.false;
    }

pub returns-in-Ok-Some : goal.returns-in-Ok-Some
returns-in-Ok-Some c =
    let s = c.args in
    let e = c.build_light_bvh.ensures in
    let h = tree-answered s.lights s.block.now s.nodes.now s.table.now s.work.now s.answer.now
    c.if-answer-lt-ANSWER_WORDS.false
    (told c.in-Ok-Some.is c.in-Ok-Some.field-0-is e.result_value, (e.nodes_after, (e.table_after, e.work_after)))
    c.write_summary.ensures in
    record { value = h.0; nodes_after = h.1.0; table_after = h.1.1.0; work_after = h.1.1.1.0; answer_after = h.1.1.1.1 }

pub returns-in-Ok-None : goal.returns-in-Ok-None
returns-in-Ok-None c =
    let s = c.args in
    let e = c.build_light_bvh.ensures in
    let h = none-answered s.lights s.block.now s.nodes.now s.table.now s.work.now s.answer.now
    c.if-answer-lt-ANSWER_WORDS.false
    (told c.in-Ok-None.is c.in-Ok-None.field-0-is e.result_value, (e.nodes_after, (e.table_after, e.work_after)))
    c.zero_words.ensures in
    record { value = h.0; nodes_after = h.1.0; table_after = h.1.1.0; work_after = h.1.1.1.0; answer_after = h.1.1.1.1 }

pub returns-in-Err : goal.returns-in-Err
returns-in-Err c =
    let s = c.args in
    let e = c.build_light_bvh.ensures in
    let told = c.refuse_build.ensures in
    let h = refused-answered s.lights s.block.now s.nodes.now s.table.now s.work.now s.answer.now
    c.if-answer-lt-ANSWER_WORDS.false
    (sym (ap built c.in-Err.is) ∙ e.result_value, (e.nodes_after, (e.table_after, e.work_after)))
    told.value told.answer_after in
    record { value = h.0; nodes_after = h.1.0; table_after = h.1.1.0; work_after = h.1.1.1.0; answer_after = h.1.1.1.1 }
