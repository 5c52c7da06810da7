-- `light_report::lines::put_lines`: a turn puts a group's line behind those that are written. Assumes nothing.
use Prim.Native.Nat.{◌+◌, ◌*◌, ◌/◌, ◌≤◌, ◌<◌}
use mathlib.Core.Path.{◌≡◌}
use mathlib.Core.List.{[], ◌∷◌}
use native.Mathlib.Omega.{arith}
use lib.ListN.{length, take, drop, length-append}
use Rattle.std.specs.Slice.Iter.{chunks_exact_rest}
use Rattle.light_report.proofs.Reported.{reported-none, reported-next, reported-all, reported-part, group-cut}
use Rattle.light_report.proofs.Reported.{groups-end}
use Rattle.light_report.proofs.lines.put_lines.Goals as goal
use Rattle.light_report.proofs.lines.put_lines.Goals.{In-Some, In-None}

-- the group is the next one, behind those that were taken
cut : (c : In-Some) → let i = length c.loop-group.yielded in
    (i < length c.args.groups.now / 28)
    × (take 28 (drop (28 * i) c.args.groups.now) ≡ c.in-Some.group.now)
    × (chunks_exact_rest c.next.new.self ≡ drop (28 * (i + 1)) c.args.groups.now)
cut c =
    let (size, (cut, length), _) = c.in-Some.ensures.steps in
    group-cut _ _ c.loop-group.invariant.rest cut (omega (arith, length, c.loop-group.invariant.size))

-- no whole group is left
all : (c : In-None) → length c.args.groups.now / 28 ≤ length c.loop-group.yielded
all c = groups-end _ _ c.loop-group.invariant.rest
    (omega (arith, c.in-None.ensures.steps.1.0, c.loop-group.invariant.size))

pub loop-group-init : goal.loop-group-init
loop-group-init c =
    let items = c.chunks_exact-group-items.ensures in
    rw c.into_iter-group-iterator.ensures.into_iter_gives
    (record { size = items.size; rest = items.rest; lines = reported-none c.requires })

pub put_group-at-requires : goal.put_group-at-requires
put_group-at-requires c =
    let next = cut (goal.at.put_group-at-requires c).In-Some in
    let written = c.loop-group.invariant.lines in
    omega (arith, next.0, written.short, written.room, written.same)

pub loop-group-preserved : goal.loop-group-preserved
loop-group-preserved c =
    let (more, next, rest) = cut (goal.at.loop-group-preserved c).In-Some in
    let taken = length-append c.loop-group.yielded (c.in-Some.group ∷ []) in
    rw taken (record {
      size = omega (arith, c.in-Some.ensures.steps.0, c.loop-group.invariant.size);
      rest = rest;
      lines =
          reported-next more c.loop-group.invariant.lines (rw next c.put_group-at.ensures.put)
          c.put_group-at.ensures.upper_bound;
    })

pub returns-then-groups-eq0 : goal.returns-then-groups-eq0
returns-then-groups-eq0 c =
    let end = all (goal.at.returns-then-groups-eq0 c).In-None in
    let lines = reported-all end c.if-groups-eq0.true c.loop-group.invariant.lines in
    record { out_after = lines.0; value = lines.1.0; upper_bound = lines.1.1 }

pub returns : goal.returns
returns c =
    let put = c.put_line.ensures in
    let end = all (goal.at.returns c).In-None in
    let lines = reported-part end c.if-groups-eq0.false c.loop-group.invariant.lines
    (record { is = put.out_after; past = put.value }) put.upper_bound in
    record { out_after = lines.0; value = lines.1.0; upper_bound = lines.1.1 }
