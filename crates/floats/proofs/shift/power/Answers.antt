-- `floats::shift::power`: a one shifted by less than the width loses nothing. Assumes nothing.
use Rattle.ieee.specs.Laws.Patterns.{one_shifted}
use Rattle.floats.proofs.shift.power.Goals as goal

pub returns : goal.returns
returns c = one_shifted c.args.k 32 c.requires
