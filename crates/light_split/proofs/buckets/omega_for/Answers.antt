-- `light_split::buckets::omega_for`: each cosine is that of its word. Assumes nothing.
use mathlib.Core.Path.{◌≡◌, ◌∙◌}
use Rattle.std.proofs.Common.{arith}
use Rattle.std.proofs.lemmas.Grind.{common_steps}
use Rattle.light_split.proofs.BucketLaws.{of_its_word}
use Rattle.light_split.proofs.buckets.omega_for.Goals as goal

pub returns-then-eq : goal.returns-then-eq
returns-then-eq c =
    let w : c.in-Some.omega.cosines.0 ≡ c.word.result = grind (arith, common_steps) in
    let v : c.in-Some.omega.cosines.1 ≡ c.word-2.result = grind (arith, common_steps) in
    let o = of_its_word _ _ c.well_formed.1.0.1 c.word.ensures in
    let e = of_its_word _ _ c.well_formed.1.1.0.1 c.word-2.ensures in
    c.in-Some.omega.right ∙ rw (w, v, o, e)

pub invariant_of-last : goal.invariant_of-last
invariant_of-last c =
    let o = of_its_word _ _ c.well_formed.1.0.1 c.word.ensures in
    let e = of_its_word _ _ c.well_formed.1.1.0.1 c.word-2.ensures in
    record { right = rw (o, e) c.m_omega-m_omega.ensures }
