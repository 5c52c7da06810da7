-- The space, then the digits behind it; there is room for all eight. Assumes nothing.
use Prim.Native.Nat.{◌+◌}
use mathlib.Core.Path.{◌≡◌}
use native.Mathlib.Omega.{arith}
use lib.ListN.{set, length-set}
use Rattle.text.specs.Text.{hex_bytes}
use Rattle.text.specs.AsCoded.Puts.{Put}
use Rattle.text.proofs.PutLaws.{put-fits, put_then, put_one, length_hex}
use Rattle.light_report.specs.Lines.{chance_bytes}
use Rattle.light_report.proofs.lines.put_chance.Goals as goal
use Rattle.light_report.proofs.lines.put_chance.Goals.{After-put_hex}

module _ (c : After-put_hex) where
  digits : Put (set c.args.out.now c.args.at 32) (c.args.at + 1) (hex_bytes c.word.result) c.put_hex.new.out
      (c.args.at + 1 + c.put_hex.result)
  digits =
      put-fits
      (rw (length_hex c.word.result, length-set c.args.out.now c.args.at 32) (omega (arith, c.requires)))
      c.put_hex.ensures.out_after c.put_hex.ensures.value

  end : c.args.at + 1 + c.put_hex.result ≡ c.args.at + 9
  end = omega (arith, digits.past, length_hex c.word.result)

pub overflow_add-result : goal.overflow_add-result
overflow_add-result c = omega (arith, end (goal.at.overflow_add-result c).After-put_hex, c.requires)

pub returns : goal.returns
unfolding chance_bytes
returns c =
    let at = (goal.at.returns c).After-put_hex in
    rw (← c.word.ensures)
    (record { put = put_then (put_one c.args.out.now c.args.at 32) (digits at); value = end at })
