-- `light_bounds::cones::subtended`: the diagonal's length that is handed in is the definition's. Assumes nothing.
use mathlib.Core.Path.{◌≡◌, sym, ◌∙◌, ap}
use lib.Ieee.{neg, of_bits}
use Rattle.light_bounds.specs.Bounds.{centroid, diagonal}
use Rattle.light_bounds.specs.Cones.{bound_subtended_directions}
use Rattle.light_bounds.specs.Vecmath.{dot, minus, vec_length}
use Rattle.light_bounds.specs.declared.vecmath.Vec3.{Vec3}
use Rattle.light_bounds.proofs.cones.subtended.Goals as goal
use Rattle.light_bounds.proofs.cones.subtended.Goals.{After-dot-d2, Start}

size : (c : Start) → vec_length (diagonal c.args.bounds) ≡ c.args.diagonal_length
size c = sym c.requires

-- the raw squared distance to the centre
distance : (c : After-dot-d2) → (let s = c.args in dot (minus (centroid s.bounds) s.p)
    (minus (centroid s.bounds) s.p)) ≡ c.dot-d2.result
distance c =
    let p = c.args.p in
    sym (c.dot-d2.ensures ∙ ap (λ (v : Vec3). dot v v)
    (c.sub-to_center.ensures ∙ ap (λ (v : Vec3). minus v p) c.centroid.ensures))

pub returns-then-d2-radius : goal.returns-then-d2-radius
unfolding bound_subtended_directions neg of_bits
returns-then-d2-radius c =
    let at = goal.at.returns-then-d2-radius c in
    rw (size at.Start, distance at.After-dot-d2, c.if-d2-radius.true)

pub returns-then-d2 : goal.returns-then-d2
unfolding bound_subtended_directions neg of_bits
returns-then-d2 c =
    let at = goal.at.returns-then-d2 c in
    rw (size at.Start, distance at.After-dot-d2, c.if-d2-radius.false, c.if-d2.true)

pub returns : goal.returns
unfolding bound_subtended_directions
returns c =
    let at = goal.at.returns c in
    rw (size at.Start, distance at.After-dot-d2, c.if-d2-radius.false) (rw c.if-d2.false c.safe_sqrt.ensures)
