-- `lamps::build_bounds::next_bounds`: the lamp here, then its bounds. Assumes nothing.
use Rattle.std.proofs.Common.{rules}
use Rattle.words.specs.Answers.{◌then◌}
use Rattle.lamps.specs.AsCoded.Passed.{next_bounds}
use Rattle.lamps.proofs.build_bounds.next_bounds.Goals as goal

pub returns-in_err-reading : goal.returns-in_err-reading
unfolding next_bounds ◌then◌
returns-in_err-reading c = rw (← c.in_err-reading.ensures) (search rules)

pub returns-in_err-bounds : goal.returns-in_err-bounds
unfolding next_bounds ◌then◌
returns-in_err-bounds c = rw (← c.in_ok-reading.ensures, ← c.triangles.ensures, ← c.in_err-bounds.ensures)
    (search rules)

pub returns : goal.returns
unfolding next_bounds ◌then◌
returns c = rw (← c.in_ok-reading.ensures, ← c.triangles.ensures, ← c.in_ok-bounds.ensures)
