-- `light_split::split::choose_split`: the axes that are left lead to the same cut at each turn. Assumes nothing.
use Prim.Native.Nat.{◌-◌}
use mathlib.Core.Path.{◌≡◌}
use Rattle.light_split.specs.Split.{choose_split}
use Rattle.light_split.proofs.SplitLaws.{axes}
use Rattle.light_split.proofs.split.choose_split.Given as goal

abbrev pub invariant-loop-dimension : goal.invariant-loop-dimension
invariant-loop-dimension l =
    axes l.block l.handles l.ends l.parent (3 - l.dimension) l.best ≡ choose_split l.block l.handles
