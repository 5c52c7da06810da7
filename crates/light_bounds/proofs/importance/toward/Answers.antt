-- Where nothing but the direction counts, the box is not looked at; else the box, the smallest angle, then the cone's
-- edge. Assumes nothing.
use mathlib.Core.Path.{sym, ◌∙◌}
use Rattle.light_bounds.specs.Importance.{toward}
use Rattle.light_bounds.proofs.PlainView.{plain}
use Rattle.light_bounds.proofs.importance.toward.Goals as goal

pub returns-then-is_plain : goal.returns-then-is_plain
returns-then-is_plain c = let a = c.args in
    let told = sym c.is_plain.ensures ∙ c.if-is_plain.true in
    sym (plain a.record a.p a.wi a.d2 a.normal told)

pub returns-then-cos_p-record : goal.returns-then-cos_p-record
unfolding toward
returns-then-cos_p-record c = rw (← c.subtended-cos_b.ensures, ← c.smallest_angle-cos_p.ensures, c.if-cos_p-record.true)

pub returns : goal.returns
unfolding toward
returns c = rw (← c.subtended-cos_b.ensures, ← c.smallest_angle-cos_p.ensures, c.if-cos_p-record.false)
    c.with_unit.ensures
