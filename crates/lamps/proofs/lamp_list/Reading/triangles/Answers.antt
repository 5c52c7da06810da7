-- `lamps::lamp_list::Reading::triangles`: a stretch that is turned round or passes the end is empty. Assumes nothing.
use Prim.Native.Nat.{ℕ, ◌-◌}
use denote.Ref.{Bor}
use mathlib.Core.Path.{◌≡◌, refl}
use mathlib.Core.Bool.{cond, ◌&&◌}
use mathlib.Core.List.{List, []}
use native.Mathlib.Omega.{arith}
use lib.Dec.{leb}
use lib.ListN.{length, take, drop}
use Rattle.std.proofs.lemmas.Bool.Decides.{nat_tests}
use Rattle.std.specs.Option.{unwrap_or}
use Rattle.std.specs.Prelude.{Option, Some, None}
use Rattle.std.specs.Slice.{IsGetRangeResult}
use Rattle.lamps.proofs.lamp_list.Reading.triangles.Goals as goal

stretch : (ws : List ℕ) (i j : ℕ) (o : Option (Bor (List ℕ))) (none : Bor (List ℕ)) → none.now ≡ [] →
    IsGetRangeResult ws i j o
    → (unwrap_or o none).now ≡ cond (leb i j && leb j (length ws)) (take (j - i) (drop i ws)) []
stretch ws i j None none e h = grind (arith, nat_tests)
stretch ws i j (Some x) none e h = grind (arith, nat_tests)

pub returns : goal.returns
returns c = let r = c.args.self in
    rw c.unwrap_or.ensures (stretch c.args.list.now r.triangles r.next.at c.get.result _ refl c.get.ensures.lookup)
