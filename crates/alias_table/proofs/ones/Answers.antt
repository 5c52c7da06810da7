-- `alias_table::ones`: the sum of the ones passed goes on to the sum of all. Assumes nothing.
use Prim.Native.Nat.{suc, ◌+◌, ◌-◌}
use mathlib.Core.Path.{◌≡◌}
use native.Mathlib.Omega.{arith}
use lib.Ieee.{of_bits}
use Rattle.alias_table.specs.AliasTable.{sum_from}
use Rattle.alias_table.proofs.ones.Goals as goal

pub loop-preserved : goal.loop-preserved
unfolding of_bits sum_from
loop-preserved c = let e : c.args.m - c.loop.counter ≡
    suc (c.args.m - (c.loop.counter + 1)) = omega arith in
    rw e at c.loop.invariant

pub returns : goal.returns
unfolding sum_from
returns c = let e : c.args.m - c.loop.counter ≡ 0 = omega arith in
    rw e at c.loop.invariant
