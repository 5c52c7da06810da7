-- `light_bounds::light_bounds::validate_range`: 7 before 8. Assumes nothing.
use Rattle.light_bounds.specs.LightBounds.{range_check}
use Rattle.light_bounds.proofs.light_bounds.validate_range.Goals as goal

pub returns-then-dot : goal.returns-then-dot
unfolding range_check
returns-then-dot c = rw (← c.dot.ensures, c.if-dot.true)

pub returns-then-record : goal.returns-then-record
unfolding range_check
returns-then-record c = rw (← c.dot.ensures, c.if-dot.false, c.if-record.true)

pub returns-then-are_cosines : goal.returns-then-are_cosines
unfolding range_check
returns-then-are_cosines c = rw (← c.dot.ensures, c.if-dot.false, c.if-record.false)
    (rw (← c.are_cosines.ensures, c.if-are_cosines.true))

pub returns : goal.returns
unfolding range_check
returns c = rw (← c.dot.ensures, c.if-dot.false, c.if-record.false)
    (rw (← c.are_cosines.ensures, c.if-are_cosines.false))
