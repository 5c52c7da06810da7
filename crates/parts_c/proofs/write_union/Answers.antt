-- `parts_c::write_union`: its words fill the reserve, or zeros do. Assumes nothing.
use mathlib.Core.Path.{refl, sym, ap, ◌∙◌}
use mathlib.Core.List.{[]}
use Rattle.words.specs.Answers.{answered}
use Rattle.words.specs.Laws.TrayLaws.{tray-full}
use Rattle.words.proofs.AnswerLaws.{only-number}
use Rattle.words.proofs.Reserves.{tray-zeroed}
use Rattle.words.proofs.Stores.{stored}
use Rattle.light_rows.specs.RecordWords.{record_list, record_words}
use Rattle.light_bounds.proofs.LateLaws.{late-union}
use Rattle.light_rows.specs.Laws.RecordPlaces.{written_at-sets}
use Rattle.parts_c.proofs.write_union.Goals as goal

pub returns-in-Ok-clause-out_after : goal.returns-in-Ok-clause-out_after
unfolding record_list
returns-in-Ok-clause-out_after c =
    let out = c.args.out.now in
    let r = c.in-Ok.«record» in
    rw (sym c.union-answer.ensures ∙ ap answered c.in-Ok.is)
    (c.write_record.ensures ∙ written_at-sets out 0 r c.requires
    ∙ stored [] out (record_list r) 0 refl c.requires ∙ sym (tray-full record_list record_words out r refl))

pub returns-in-Err-clause-out_after : goal.returns-in-Err-clause-out_after
returns-in-Err-clause-out_after c =
    let out = c.args.out.now in
    let told = sym c.union-answer.ensures ∙ ap answered c.in-Err.is in
    rw told
    (c.zero_words.ensures
    ∙ tray-zeroed record_list record_words out out _ c.requires refl (only-number (late-union _ _) told))
