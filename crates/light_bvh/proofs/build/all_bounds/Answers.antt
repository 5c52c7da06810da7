-- The invariant: the box of the powered rows up to i, absent at the start. Assumes nothing.
use mathlib.Core.Path.{refl, sym, ap, ◌∙◌}
use Rattle.words.specs.Answers.{optional}
use Rattle.light_bvh.specs.Build.{all_bounds}
use Rattle.light_bvh.proofs.BuildLaws.{all_in, all-out}
use Rattle.light_bvh.proofs.build.all_bounds.Goals as goal
use Rattle.light_bvh.proofs.build.all_bounds.Goals.{else-is_powered, then-is_powered}

pub loop-i-init : goal.loop-i-init
unfolding all_bounds
loop-i-init c = refl

pub loop-i-preserved : goal.loop-i-preserved
loop-i-preserved c =
    let block = c.args.block.now in
    let i = c.loop-i.i in
    let powered = sym c.is_powered.ensures in
    elim c.if-is_powered.branch [
      | then-is_powered w ↦ ap optional w.all-is ∙ w.grow-all.ensures ∙
          rw (c.loop-i.invariant, w.light_box.ensures) (sym (all_in block i (powered ∙ w.if-is_powered.true)))
      | else-is_powered w ↦ ap optional w.all-is ∙ c.loop-i.invariant ∙
          sym (all-out block i (powered ∙ w.if-is_powered.false))
    ]
