-- `light_bounds::importance::smallest_angle`: inside the cone both clamped differences are those of 0. Assumes nothing.
use Rattle.light_bounds.proofs.Clamped.{cut-cos, cut-sin, kept-cos, kept-sin}
use Rattle.light_bounds.specs.Importance.{cos_p, sine}
use Rattle.light_bounds.proofs.importance.smallest_angle.Goals as goal

pub returns-then-w-o : goal.returns-then-w-o
unfolding cos_p
returns-then-w-o c = let w = c.cos_w-w.result in
    let o = c.args.record.cos_theta_o in
    rw (← c.cos_w-w.ensures, cut-sin (sine w) w (sine o) o c.if-w-o.true)
    (rw (cut-cos (sine w) w (sine o) o c.if-w-o.true) c.less_the_box.ensures)

pub returns : goal.returns
unfolding cos_p
returns c = let w = c.cos_w-w.result in
    let o = c.args.record.cos_theta_o in
    rw (
      ← c.cos_w-w.ensures,
      kept-sin (sine w) w (sine o) o
          c.if-w-o.false,
    )
    (rw (
      kept-cos (sine w) w (sine o) o c.if-w-o.false,
      ← c.sine-sin_w.ensures,
      ← c.sine-sin_o.ensures,
    )
    c.less_the_box-2.ensures)
