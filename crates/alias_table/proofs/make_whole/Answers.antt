-- `alias_table::make_whole`: the bins of the entries passed are whole, whichever bins the words are those of. Assumes
-- nothing.
use Prim.Native.Nat.{◌+◌, ◌*◌, ◌/◌, ◌<◌}
use mathlib.Core.Path.{◌≡◌}
use mathlib.Core.List.{[], ◌∷◌}
use native.Mathlib.Omega.{arith}
use lib.ListN.{length, get_or, drop, length-append}
use Rattle.std.specs.Slice.Iter.{chunks_exact_rest}
use Rattle.alias_table.proofs.LoopLaws.{wholing-none, entry-cut, whole_in, wholing-next}
use Rattle.alias_table.proofs.make_whole.Goals as goal
use Rattle.alias_table.proofs.make_whole.Goals.{In-Some}

-- the entry is the next one, behind those that were taken
cut : (c : In-Some) → let k = length c.loop-entry.yielded in
    (k < length c.args.stack.now / 2)
    × (get_or c.in-Some.entry.now 1 0 ≡ get_or c.args.stack.now (0 + 2 * k + 1) 0)
    × (chunks_exact_rest c.next.new.self ≡ drop (2 * (k + 1)) c.args.stack.now)
cut c =
    let before = c.loop-entry.invariant in
    let (size, (cut, length), _) = c.in-Some.ensures.steps in
    entry-cut _ c.in-Some.entry.now _ before.rest cut (omega (arith, length, before.size))

pub loop-entry-init : goal.loop-entry-init
loop-entry-init c =
    let items = c.chunks_exact-entry-items.ensures in
    rw c.into_iter-entry-iterator.ensures.into_iter_gives
    (record { size = items.size; rest = items.rest; wholing = wholing-none })

pub bounds-bins-entry : goal.bounds-bins-entry
bounds-bins-entry c =
    let next = cut (goal.at.bounds-bins-entry c).In-Some in
    whole_in c.loop-entry.invariant.wholing next.0 next.1 c.requires

pub loop-entry-preserved : goal.loop-entry-preserved
loop-entry-preserved c =
    let (more, index, rest) = cut (goal.at.loop-entry-preserved c).In-Some in
    let taken = length-append c.loop-entry.yielded (c.in-Some.entry ∷ []) in
    rw taken (record {
      size = omega (arith, c.in-Some.ensures.steps.0, c.loop-entry.invariant.size);
      rest = rest;
      wholing = wholing-next c.loop-entry.invariant.wholing more index;
    })
