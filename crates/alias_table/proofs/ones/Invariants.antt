-- `alias_table::ones`: the sum of the ones passed goes on to the sum of all. Assumes nothing.
use Prim.Native.Nat.{◌-◌}
use mathlib.Core.Path.{◌≡◌}
use lib.Ieee.{binary64}
use lib.ListN.{replicate}
use Rattle.ieee.specs.Single.{zerof, onef}
use Rattle.alias_table.specs.AliasTable.{sum_from}
use Rattle.alias_table.proofs.ones.Given as goal

abbrev pub invariant-loop : goal.invariant-loop
invariant-loop l =
    sum_from binary64 l.s (replicate (l.m - l.counter) onef) ≡ sum_from binary64 zerof (replicate l.m onef)
