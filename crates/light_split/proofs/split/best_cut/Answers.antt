-- `light_split::split::best_cut`: the left side and the best of the cuts so far, which a cut behind an empty bucket
-- does not change. Assumes nothing.
use Prim.Native.Nat.{◌+◌, ◌<◌}
use mathlib.Core.Path.{◌≡◌, refl, sym, ◌∙◌}
use native.Mathlib.Omega.{arith}
use lib.ListN.{length, take}
use lib.Seq.{get_or-take}
use Rattle.std.specs.Prelude.{None}
use Rattle.std.proofs.lemmas.Result.{err_from_is_err_and}
use Rattle.words.specs.Answers.{given, ◌then◌}
use Rattle.light_split.specs.Buckets.{union_range}
use Rattle.light_split.specs.Split.{cuts}
use Rattle.light_split.proofs.SplitLaws.{joined-some, joined-none, cut-next, cut-empty, left_lost, right_lost}
use Rattle.light_split.proofs.split.best_cut.Goals as goal
use Rattle.light_split.proofs.split.best_cut.Goals.{Joined-here, in-Some+in_ok-join_to, in_default}
use Rattle.light_split.proofs.split.best_cut.Goals.{then-bucket-eq0+in_ok-right, else-bucket-eq0+else-is_some}

-- the left side with the bucket at hand
side : (c : Joined-here)
    → union_range None (take (c.loop-bucket.bucket + 1) c.args.buckets.now) ≡ given c.match-here.left
unfolding ◌then◌
side c =
    let loop = c.loop-bucket in
    let bs = c.args.buckets.now in
    let here = sym (get_or-take 11 bs loop.bucket None (omega arith)) in
    elim c.match-here.branch [
      | in-Some+in_ok-join_to w ↦ rw w.left-is
          (joined-some bs loop.bucket loop.left w.in-Some.bounds (omega arith) (here ∙ w.in-Some.is)
          loop.invariant.left_is ∙ sym w.in_ok-join_to.ensures)
      | in_default w ↦ rw w.left-is
          (joined-none bs loop.bucket (omega arith) (here ∙ w.in_default.is) ∙ loop.invariant.left_is)
    ]

pub loop-bucket-init : goal.loop-bucket-init
unfolding union_range cuts
loop-bucket-init c = record { left_is = refl; best_is = refl }

pub returns-in_err-join_to : goal.returns-in_err-join_to
unfolding ◌then◌
returns-in_err-join_to c =
    let args = c.args in
    let loop = c.loop-bucket in
    let bs = args.buckets.now in
    let here = sym (get_or-take 11 bs loop.bucket None (omega arith)) in
    let twelve : length bs ≡ 12 = omega arith in
    let p = err_from_is_err_and c.from_residual.result c.from_residual.ensures.1 in
    rw (p.1, p.2) (left_lost bs args.axis.parent args.axis.dimension twelve args.best loop.bucket _ loop.best
    loop.invariant.best_is
    (c.in_err-join_to.ensures ∙ sym (joined-some bs loop.bucket loop.left c.in-Some.bounds (omega arith)
    (here ∙ c.in-Some.is) loop.invariant.left_is)) (omega arith))

pub returns-in_err-right : goal.returns-in_err-right
returns-in_err-right c =
    let args = c.args in
    let loop = c.loop-bucket in
    let bs = args.buckets.now in
    let twelve : length bs ≡ 12 = omega arith in
    let p = err_from_is_err_and c.from_residual-in_err-right.result c.from_residual-in_err-right.ensures.1 in
    rw (p.1, p.2) (right_lost bs args.axis.parent args.axis.dimension twelve args.best loop.bucket _ loop.best
    c.match-here.left loop.invariant.best_is (side (goal.at.returns-in_err-right c).Joined-here)
    c.in_err-right.ensures (omega arith))

pub loop-bucket-preserved : goal.loop-bucket-preserved
loop-bucket-preserved c =
    let args = c.args in
    let loop = c.loop-bucket in
    let bs = args.buckets.now in
    let twelve : length bs ≡ 12 = omega arith in
    let h : loop.bucket < 11 = omega arith in
    let here = get_or-take 11 bs loop.bucket None h in
    let joined = side (goal.at.loop-bucket-preserved c).Joined-here in record {
      left_is = joined;
      best_is =
          elim c.if-bucket-eq0.branch [
            | then-bucket-eq0+in_ok-right w ↦ cut-next bs args.axis.parent args.axis.dimension twelve args.best
                loop.bucket loop.best
                c.match-here.left _ loop.invariant.best_is joined w.in_ok-right.ensures h
                ∙ rw (
                  w.best-is,
                  w.better-best.ensures,
                  w.side_cost.ensures,
                  w.side_cost-then-bucket-eq0.ensures,
                )
            | else-bucket-eq0+else-is_some w ↦ rw w.best-is
                (cut-empty bs args.axis.parent args.axis.dimension twelve args.best
                loop.bucket
                loop.best loop.invariant.best_is h w.if-bucket-eq0.false
                (rw here at (sym w.is_some.ensures ∙ w.if-is_some.false)))
          ];
    }
