-- `light_bounds::vecmath::add`: axis by axis. Assumes nothing.
use mathlib.Core.Path.{◌≡◌}
use Rattle.std.proofs.Common.{of_calls, rules}
use Rattle.ieee.specs.Single.{◌⊕◌}
use Rattle.light_bounds.specs.Vecmath.{plus}
use Rattle.light_bounds.proofs.vecmath.add.Goals as goal

pub returns : goal.returns
unfolding plus
returns c =
    let h = c.by_axis.ensures in
    let a = c.args.a in
    let b = c.args.b in
    let r = c.by_axis.result in
    let x : r.x ≡ a.x ⊕ b.x = search (rules, of_calls) in
    let y : r.y ≡ a.y ⊕ b.y = search (rules, of_calls) in
    let z : r.z ≡ a.z ⊕ b.z = search (rules, of_calls) in
    λ i. record { x = x i; y = y i; z = z i }
