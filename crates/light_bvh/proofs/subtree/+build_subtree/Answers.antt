-- The right tree's nodes lie behind the left one's 2n - 1, so neither call sees the other's; each half is shorter than
-- the stretch. Assumes nothing.
use Prim.Native.Nat.{ℕ, ◌+◌, ◌*◌, ◌-◌, ◌^◌, ◌≤◌, ◌<◌}
use mathlib.Core.Path.{◌≡◌, sym, ◌∙◌}
use native.Mathlib.Omega.{arith}
use lib.ListN.{length, take}
use lib.Seq.{length-take-le}
use Rattle.std.proofs.Common.{rules}
use Rattle.words.specs.Answers.{refused, answered}
use Rattle.words.specs.Refusals.{number}
use Rattle.light_bvh.proofs.SubtreeLaws.{cut_of, Stand, leaf-left, lost-left, no-left}
use Rattle.light_bvh.proofs.SubtreeLaws.{no-right, both_left, front-is, done-moved, words-moved}
use Rattle.light_bvh.proofs.SubtreeLaws.{left-asks, right-asks, handles_left, nodes_left}
use Rattle.light_bvh.proofs.SubtreeLaws.{front_length}
use Rattle.light_bvh.proofs.SubtreeLaws.{back_is, back-length, root-length, nodes-are}
use borrow.Rule.Slice.PartMut.{put_mid, same_len_mid}
use Rattle.light_bvh.proofs.subtree.+build_subtree.Goals as goal
use Rattle.light_bvh.proofs.subtree.+build_subtree.Goals.{In_ok-left}

-- the stretch is parted
stand : (t : ℕ) (c : In_ok-left t) →
    Stand c.args.block.now c.args.handles.now c.split_stretch.new.work c.args.nodes.now c.args.at
    c.split_stretch.new.handles c.in_ok-left.left
stand t c =
    let told = c.in_ok-left.ensures in
    let pre = c.requires in
    let two : 2 ≤ length c.args.handles.now = omega (arith, pre.in_bounds, c.if-n-eq1.false) in
    let kept : length c.split_stretch.new.work ≡ length c.args.work.now = c.split_stretch.auto.work in
    record {
      cut = cut_of c.args.block.now c.args.handles.now c.split_stretch.new.handles c.in_ok-left.left
          (sym told.result_value) told.handles_after two;
      room = omega (arith, pre.handles_in_bounds, kept);
      size = pre.node_words_len;
      fits = pre.handles_bound;
      labels = pre.by_index;
    }

-- one handle
pub returns-then-n-eq1 : goal.returns-then-n-eq1
returns-then-n-eq1 t c =
    let args = c.args in
    let h = leaf-left args.block.now args.handles.now args.nodes.now c.write_node.new.words args.at args.parent
    c.label.result c.light.result c.if-n-eq1.true c.requires.node_words_len c.requires.by_index c.label.ensures
    c.light.ensures c.write_node.ensures.words_after in
    record { result_value = h.0; nodes_after = h.1 }

-- the split is refused
pub returns-in_err-left : goal.returns-in_err-left
returns-in_err-left t c =
    let args = c.args in
    let why = number c.in_err-left.field-0.0 in
    let two : 2 ≤ length args.handles.now = omega (arith, c.requires.in_bounds, c.if-n-eq1.false) in
    let h = lost-left args.block.now args.handles.now args.at args.parent why args.nodes.now
    (sym c.in_err-left.ensures.result_value) two in
    let answer : answered c.from_residual.result ≡ refused why = search rules in
    record { result_value = answer ∙ h.0; nodes_after = h.1 }

-- ---- the left tree

pub slice_bounds-build_subtree-end : goal.slice_bounds-build_subtree-end
slice_bounds-build_subtree-end t c =
    let s = stand t (goal.at.slice_bounds-build_subtree-end t c).In_ok-left in
    let e : c.in_ok-left.left ≤ length c.split_stretch.new.handles = omega (arith, s.cut.rest, s.cut.same) in
    e

pub slice_bounds-build_subtree-count-3 : goal.slice_bounds-build_subtree-count-3
slice_bounds-build_subtree-count-3 t c =
    let s = stand t (goal.at.slice_bounds-build_subtree-count-3 t c).In_ok-left in omega (arith, s.cut.some)

pub slice_bounds-build_subtree-start-3 : goal.slice_bounds-build_subtree-start-3
slice_bounds-build_subtree-start-3 t c =
    let s = stand t (goal.at.slice_bounds-build_subtree-start-3 t c).In_ok-left in
    let e : 16 ≤ 32 * c.in_ok-left.left = omega (arith, s.cut.some) in
    e

pub slice_bounds-build_subtree-end-3 : goal.slice_bounds-build_subtree-end-3
slice_bounds-build_subtree-end-3 t c =
    let s = stand t (goal.at.slice_bounds-build_subtree-end-3 t c).In_ok-left in
    let e : 32 * c.in_ok-left.left ≤ length c.args.nodes.now = omega (arith, s.cut.rest, s.size) in
    e

pub build_subtree-requires : goal.build_subtree-requires
build_subtree-requires t c =
    let s = stand t (goal.at.build_subtree-requires t c).In_ok-left in
    let left = c.in_ok-left.left in
    let work = take (left - 0) c.split_stretch.new.work in
    let front : length work ≡ left =
    length-take-le (left - 0) c.split_stretch.new.work (omega (arith, s.room, s.cut.rest)) ∙ omega arith in
    (omega (arith, front_length s, s.cut.rest, c.decreases), left-asks s work (omega (arith, front)))

pub returns-in_err-build_subtree : goal.returns-in_err-build_subtree
returns-in_err-build_subtree t c =
    let s = stand t (goal.at.returns-in_err-build_subtree t c).In_ok-left in
    let args = c.args in
    let why = number c.in_err-build_subtree.field-0.0 in
    let nodes = nodes_left c.in_ok-left.left args.nodes.now c.build_subtree.new.nodes in
    let h = no-left s.cut args.at args.parent why nodes
    (done-moved args.block.now _ _ _ (front-is s) c.in_err-build_subtree.ensures.result_value) in
    let answer : answered c.from_residual-in_err-build_subtree.result ≡ refused why = search rules in
    record { result_value = answer ∙ h.0; nodes_after = h.1 }

-- ---- the right tree

pub build_subtree-requires-2 : goal.build_subtree-requires-2
build_subtree-requires-2 t c =
    let s = stand t (goal.at.build_subtree-requires-2 t c).In_ok-left in
    let n = length c.args.handles.now in
    let left = c.in_ok-left.left in
    let first = c.build_subtree in
    let tray = handles_left left c.split_stretch.new.work first.new.work in
    let same : length tray ≡ length c.split_stretch.new.work =
    same_len_mid 0 (left - 0) c.split_stretch.new.work first.new.work first.auto.work in
    let work = take (n - left - 0) tray in
    let front : length work ≡ n - left =
    length-take-le (n - left - 0) tray (omega (arith, s.room, same)) ∙ omega arith in
    let long = back-length s first.new.handles first.new.nodes first.auto.handles first.auto.nodes in (
      omega (arith, long, s.cut.some, s.cut.rest, c.decreases),
      right-asks s first.new.handles first.new.nodes first.auto.handles first.auto.nodes work (omega (arith, front)),
    )

pub returns-in_err-build_subtree-2 : goal.returns-in_err-build_subtree-2
returns-in_err-build_subtree-2 t c =
    let s = stand t (goal.at.returns-in_err-build_subtree-2 t c).In_ok-left in
    let args = c.args in
    let why = number c.in_err-build_subtree-2.field-0.0 in
    let first = c.build_subtree in
    let back = back_is s first.new.handles first.new.nodes first.auto.handles first.auto.nodes in
    let at = 32 * c.in_ok-left.left in
    let nodes = nodes_left c.in_ok-left.left args.nodes.now first.new.nodes in
    let h = no-right s.cut args.at args.parent why (put_mid at (length nodes - at) nodes c.build_subtree-2.new.nodes)
    (done-moved args.block.now _ _ _ (front-is s) c.in_ok-build_subtree.ensures.result_value)
    (done-moved args.block.now _ _ _ back c.in_err-build_subtree-2.ensures.result_value) in
    let answer : answered c.from_residual-in_err-build_subtree-2.result ≡ refused why = search rules in
    record { result_value = answer ∙ h.0; nodes_after = h.1 }

-- ---- and the trees

pub returns : goal.returns
returns t c =
    let s = stand t (goal.at.returns t c).In_ok-left in
    let args = c.args in
    let ws = args.block.now in
    let h1 = c.build_subtree.new.handles in
    let n1 = c.build_subtree.new.nodes in
    let n2 = c.build_subtree-2.new.nodes in
    let same-h = c.build_subtree.auto.handles in
    let same-n = c.build_subtree.auto.nodes in
    let told1 = c.in_ok-build_subtree.ensures in
    let told2 = c.in_ok-build_subtree-2.ensures in
    let joined = c.join_children in
    let front = front-is s in
    let back = back_is s h1 n1 same-h same-n in
    let fits : args.at + 1 < 2 ^ 30 = omega (arith, s.fits, s.cut.rest) in
    let h = both_left s.cut args.at args.parent (take 16 args.nodes.now) n1 n2 _ fits
    (root-length s h1 n1 same-h same-n)
    (done-moved ws _ _ _ front told1.result_value) (words-moved ws _ _ _ _ n1 front told1.nodes_after)
    (done-moved ws _ _ _ back told2.result_value) (words-moved ws _ _ _ _ n2 back told2.nodes_after)
    (nodes-are s h1 n1 same-h same-n n2)
    _ joined.new.nodes joined.ensures.result_value joined.ensures.nodes_after in
    record { result_value = h.0; nodes_after = h.1 }
