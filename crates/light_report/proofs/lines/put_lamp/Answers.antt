-- Its four parts stand behind each other; the handle has ten digits at the most. Assumes nothing.
use Prim.Native.Nat.{◌+◌, ◌≤◌}
use native.Mathlib.Omega.{arith}
use lib.ListN.{length}
use Rattle.text.specs.Text.{decimal_bytes}
use Rattle.text.specs.AsCoded.Puts.{Put}
use Rattle.text.proofs.PutLaws.{put-fits, put_then, put_one, decimal-short}
use Rattle.light_report.specs.Lines.{line_bytes}
use Rattle.light_report.proofs.lines.put_lamp.Goals as goal
use Rattle.light_report.proofs.lines.put_lamp.Goals.{After-put_decimal, After-put_chance-end}

module _ (c : After-put_decimal) where
  handle : Put c.args.out.now c.args.at (decimal_bytes c.args.lamp.handle) c.put_decimal.new.out
      (c.args.at + c.put_decimal.result)
  handle =
      put-fits (omega (arith, decimal-short c.args.lamp.handle, c.requires)) c.put_decimal.ensures.out_after
      c.put_decimal.ensures.value

  few : c.put_decimal.result ≤ 10
  few = omega (arith, handle.past, decimal-short c.args.lamp.handle)

module _ (c : After-put_chance-end) (few : c.put_decimal.result ≤ 10) where
  short : c.put_chance-end.result + 1 ≤ c.args.at + 29
  short = omega (arith, few, c.put_chance-named_at.ensures.value, c.put_chance-end.ensures.value)

  room : c.put_chance-end.result + 1 ≤ length c.put_chance-end.new.out
  room = omega (arith, short, c.requires)

pub overflow_add-drawn_at : goal.overflow_add-drawn_at
overflow_add-drawn_at c = omega (arith, few (goal.at.overflow_add-drawn_at c).After-put_decimal, c.requires)

pub put_chance-named_at-requires : goal.put_chance-named_at-requires
put_chance-named_at-requires c =
    omega (arith, few (goal.at.put_chance-named_at-requires c).After-put_decimal, c.requires)

pub put_chance-end-requires : goal.put_chance-end-requires
put_chance-end-requires c =
    let digits = few (goal.at.put_chance-end-requires c).After-put_decimal in
    omega (arith, digits, c.put_chance-named_at.ensures.value, c.requires)

pub bounds-out-end : goal.bounds-out-end
bounds-out-end c =
    let at = goal.at.bounds-out-end c in
    omega (arith, room at.After-put_chance-end (few at.After-put_decimal))

pub overflow_add-result : goal.overflow_add-result
overflow_add-result c =
    let at = goal.at.overflow_add-result c in
    omega (arith, room at.After-put_chance-end (few at.After-put_decimal))

pub returns : goal.returns
unfolding line_bytes
returns c =
    let at = goal.at.returns c in
    let number = handle at.After-put_decimal in
    record {
      put =
          put_then (put_then (put_then number c.put_chance-named_at.ensures.put) c.put_chance-end.ensures.put)
          (put_one _ _ 10);
      upper_bound = short at.After-put_chance-end (few at.After-put_decimal);
    }
