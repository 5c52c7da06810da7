-- `lamps::lamp_list::check_lamps`: the lamps before `i` are read, and `placed` says whether their handles are their
-- places. Assumes nothing.
use mathlib.Core.Path.{◌≡◌}
use mathlib.Core.List.{List}
use lib.ListN.{get_or}
use Rattle.lamps.specs.LampList.{in_place}
use Rattle.lamps.specs.declared.lamp_list.Reading.{Reading}
use Rattle.lamps.proofs.WalkLaws.{LampsRead}
use Rattle.lamps.proofs.lamp_list.check_lamps.Given as goal

abbrev pub invariant-loop-i : goal.invariant-loop-i
invariant-loop-i l = (l.m ≡ get_or l.list 0 0) ×
    ((done : List Reading) × LampsRead l.list l.i l.cursor.at done × (l.placed ≡ in_place 0 done))
