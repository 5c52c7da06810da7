-- `lamps::lamp_bounds::Group::union_rest`: what is left to join gives the same answer at each turn. Assumes nothing.
use mathlib.Core.Path.{◌≡◌}
use Rattle.std.specs.Slice.Iter.{chunks_exact_rest, chunks_exact_size}
use Rattle.words.specs.Answers.{given}
use Rattle.lamps.proofs.LampBoundsLaws.{all_from}
use Rattle.lamps.proofs.lamp_bounds.Group.union_rest.Given as goal

abbrev pub invariant-loop-words : goal.invariant-loop-words
invariant-loop-words l =
    (chunks_exact_size l.words-iterator ≡ 13) ×
    (all_from l.self.emission.max l.self.emission.scale l.self.two_sided l.rest (given l.initial.result)
    ≡ all_from l.self.emission.max l.self.emission.scale l.self.two_sided (chunks_exact_rest l.words-iterator)
    (given l.result))
