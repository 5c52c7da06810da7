-- `alias_table::build_power_alias_table`: its tests are the definition's, and where they pass the sums say which answer
-- is left. Assumes nothing.
use borrow.Author.Tests.{lt-ltb, le-ltb, lt-leb, le-leb}
use Prim.Native.Nat.{◌*◌}
use mathlib.Core.Path.{refl, sym, ◌∙◌}
use mathlib.Core.List.{append-nil}
use native.Mathlib.Nat.{sub_self, sub-zero}
use native.Mathlib.Omega.{arith}
use lib.ListN.{length}
use Rattle.words.specs.Tray.{tray}
use Rattle.words.proofs.Reserves.{tray-zeroed}
use Rattle.alias_table.specs.AliasTable.{build_power_alias_table}
use Rattle.alias_table.specs.AsCoded.Stacks.{Room}
use Rattle.alias_table.proofs.StackLaws.{length-bin_words}
use Rattle.alias_table.proofs.TableLaws.{answer-bad, answer-given, total-is, played-length}
use Rattle.alias_table.proofs.build_power_alias_table.Goals as goal
use Rattle.alias_table.proofs.build_power_alias_table.Goals.{Else-work-m}
use Rattle.alias_table.proofs.build_power_alias_table.Goals.{then-bins-m-via-then-bins-m}
use Rattle.alias_table.proofs.build_power_alias_table.Goals.{then-bins-m-via-else-bins-m+then-work-m}

-- the tests have passed
room : (c : Else-work-m) → let args = c.args in
    Room (length args.weights.now) args.bins.now args.work.now
room c =
    record {
      few = c.if-m-gt-MAX_LAMPS.false;
      bins-room = c.if-bins-m.false;
      work-room = c.if-work-m.false;
    }

pub returns-then-m-gt-MAX_LAMPS : goal.returns-then-m-gt-MAX_LAMPS
unfolding build_power_alias_table tray
returns-then-m-gt-MAX_LAMPS c =
    simp (lt-ltb _ _ c.if-m-gt-MAX_LAMPS.true) (record { result_value = refl; bins_after = refl; work_after = refl })

pub returns-then-bins-m : goal.returns-then-bins-m
unfolding build_power_alias_table tray
returns-then-bins-m c = let args = c.args in
    let few = le-ltb _ _ c.if-m-gt-MAX_LAMPS.false in
    let work = lt-leb (4 * length args.weights.now) (length args.work.now) in
    elim c.then-bins-m.branch [
      | then-bins-m-via-then-bins-m w ↦
          simp (few, lt-leb _ _ w.if-bins-m.true) (record { result_value = refl; bins_after = refl; work_after = refl })
      | then-bins-m-via-else-bins-m+then-work-m w ↦
          simp (few, le-leb _ _ w.if-bins-m.false, work w.if-work-m.true)
          (record { result_value = refl; bins_after = refl; work_after = refl })
    ]

pub build-requires : goal.build-requires
build-requires c = record {
  room = room (goal.at.build-requires c).Else-work-m;
  sum_value = c.total.ensures ∙ total-is _ _ (sym c.in-Some.is ∙ c.add_up.ensures);
}

pub returns : goal.returns
unfolding tray
returns c = let built = c.build.ensures in
    let sums = sym c.in-Some.is ∙ c.add_up.ensures in
    let len = played-length c.args.weights.now _ sums in
    rw (answer-given _ (room (goal.at.returns c).Else-work-m) _ sums) (record {
      result_value = rw len refl;
      bins_after = built.bins_after ∙ simp (length-bin_words, len, sub_self, append-nil);
      work_after = built.work_after ∙ simp sub-zero;
    })

pub returns-in_default : goal.returns-in_default
returns-in_default c = let r = room (goal.at.returns-in_default c).Else-work-m in
    rw (answer-bad _ r (sym c.in_default.is ∙ c.add_up.ensures)) (record {
      result_value = refl;
      bins_after = c.zero_words.ensures ∙ tray-zeroed _ _ _ _ 8 r.bins-room refl (omega arith);
      work_after = c.zero_words-in_default.ensures ∙ tray-zeroed _ _ _ _ 8 r.work-room refl (omega arith);
    })
