-- A way for each kind of answer; there is room for the longest line. Assumes nothing.
use Prim.Native.Nat.{◌+◌, ◌≤◌}
use native.Mathlib.Omega.{arith}
use Rattle.words.specs.Refusals.{number}
use Rattle.text.specs.Text.{refusal_line}
use Rattle.text.specs.AsCoded.Puts.{Put}
use Rattle.text.proofs.PutLaws.{put-fits, refusal-short}
use Rattle.light_report.specs.Lines.{none_bytes, line_bytes}
use Rattle.light_report.proofs.lines.put_line.Goals as goal
use Rattle.light_report.proofs.lines.put_line.Goals.{After-put_refused, After-put_text}

none : (c : After-put_text) → Put c.args.out.now c.args.at none_bytes c.put_text.new.out (c.args.at + c.put_text.result)
none c = put-fits (omega (arith, c.requires)) c.put_text.ensures.out_after c.put_text.ensures.value

module _ (c : After-put_refused) where
  put : Put c.args.out.now c.args.at (refusal_line (number c.in-Err.why)) c.put_refused.new.out
      (c.args.at + c.put_refused.result)
  put = put-fits (omega (arith, refusal-short (number c.in-Err.why), c.requires))
      c.put_refused.ensures.out_after c.put_refused.ensures.value

  short : c.args.at + c.put_refused.result ≤ c.args.at + 29
  short = omega (arith, put.past, refusal-short (number c.in-Err.why))

pub overflow_add-result : goal.overflow_add-result
overflow_add-result c = omega (arith, (none (goal.at.overflow_add-result c).After-put_text).past, c.requires)

pub overflow_add-result-in-Err : goal.overflow_add-result-in-Err
overflow_add-result-in-Err c =
    omega (arith, short (goal.at.overflow_add-result-in-Err c).After-put_refused, c.requires)

pub returns-in-Ok-None : goal.returns-in-Ok-None
unfolding line_bytes
returns-in-Ok-None c =
    let put = none (goal.at.returns-in-Ok-None c).After-put_text in
    rw (c.in-Ok-None.is, rw c.in-Ok-None.is at c.in-Ok-None.field-0-is)
    (record { out_after = put.is; value = put.past; upper_bound = omega (arith, put.past) })

pub returns-in-Err : goal.returns-in-Err
unfolding line_bytes
returns-in-Err c =
    let at = (goal.at.returns-in-Err c).After-put_refused in
    let put = put at in
    rw c.in-Err.is (record { out_after = put.is; value = put.past; upper_bound = short at })
