-- `lamps::build_bounds::build_light_bounds`: the list is read, then there is room, then it is written. Assumes nothing.
use Prim.Native.Nat.{◌≤◌}
use mathlib.Core.Path.{refl, sym}
use native.Mathlib.Omega.{arith}
use lib.ListN.{length, get_or}
use Rattle.std.proofs.Common.{rules}
use Rattle.words.specs.Limits.{max_lamps}
use Rattle.words.specs.Refusals.{number}
use Rattle.words.specs.Tray.{tray}
use Rattle.words.specs.Laws.TrayLaws.{tray-early}
use Rattle.words.proofs.AnswerLaws.{count-refused, only-number}
use Rattle.light_rows.specs.Block.{block_words, pack_exhaustive_bounds}
use Rattle.lamps.specs.LampList.{lamp_list}
use Rattle.lamps.proofs.BuildLaws.{list_counted, build_unread, build-short, early-list}
use Rattle.lamps.proofs.build_bounds.build_light_bounds.Goals as goal
use Rattle.lamps.proofs.build_bounds.build_light_bounds.Goals.{In_ok-m}

few : (c : In_ok-m) → c.in_ok-m.m ≤ max_lamps
few c = let (rs, lamps, n, is, h) = list_counted c.args.list.now c.in_ok-m.m (sym c.in_ok-m.ensures) in h

pub overflow_cast-m : goal.overflow_cast-m
overflow_cast-m c = omega (arith, few c)

pub returns-then-block-block_words : goal.returns-then-block-block_words
unfolding tray
returns-then-block-block_words c = let args = c.args in
    rw (build-short args.list.now (length args.block.now) _ (sym c.in_ok-m.ensures)
    (omega (arith, c.block_words.ensures)))
    (record { result_value = refl; block_after = refl })

pub returns-in_err-m : goal.returns-in_err-m
returns-in_err-m c = let args = c.args in
    let n = number c.in_err-m.field-0.0 in
    let unread = count-refused (lamp_list args.list.now) n (sym c.in_err-m.ensures) in
    rw (build_unread args.list.now (length args.block.now) n unread)
    (record {
      result_value = search rules;
      block_after =
          sym (tray-early pack_exhaustive_bounds (block_words (get_or args.list.now 0 0)) args.block.now n
          (only-number (early-list args.list.now) unread));
    })
