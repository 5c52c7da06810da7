-- Packed boxes nest as boxes do: where one box holds another, both within the overall box, its steps hold the other's
-- (`steps_nest`). So in the packed words of an accepted build the box of an interior node, in steps, holds those of its
-- children (`packed_nests`). Assumes nothing.
use Rattle.std.specs.Prelude.{ℕ, ◌/◌, ◌≤◌, ◌<◌, ◌≡◌, true, false, List, T, Float, length}
use Rattle.std.proofs.Math.Option.{some}
use Rattle.std.proofs.Common.{arith}
use Rattle.std.specs.Float.Ieee.{le}
use Rattle.ieee.specs.Laws.OrderLaws.{le_trans}
use Rattle.words.specs.Answers.{given}
use Rattle.words.specs.LittleEndian.{bytes_of, words_of}
use Rattle.light_bounds.specs.Bounds.{Holds}
use Rattle.light_bounds.specs.declared.bounds.Bounds3.{Bounds3}
use Rattle.light_bounds.specs.declared.light_bounds.LightBounds.{LightBounds}
use Rattle.light_rows.specs.Nodes.{interior, node_bytes, node_at, bounds_at}
use Rattle.light_bvh.specs.Build.{LightBVH, build_light_bvh, nodes_written}
use Rattle.tree_laws.specs.Laws.AcceptedTree.{Parts, accepted-parts}
use Rattle.tree_laws.specs.Laws.ByteLaws.{nodes-words, nodes-bytes}
use Rattle.tree_laws.specs.Laws.NodeLaws.{boxes}
use Rattle.packed_bvh.specs.Packed.{pack_light_bvh}
use Rattle.packed_bvh.specs.Quantize.{quantize_bounds}
use Rattle.packed_laws.specs.Laws.OverallBox.{Axis, Proper, record-low, overall-proper, node-within}
use Rattle.packed_laws.specs.Laws.PackedLaws.{packed-header, packed-box}
use Rattle.packed_bvh.specs.AsCoded.PackedRead.{box_at, box_steps, StepHolds}
use Rattle.packed_laws.specs.Laws.StepsOrder.{quantize_mono}

-- ---- boxes

-- of c and d within a and b within lo and hi
module _ (lo hi a b c d : Float) (all : Axis lo hi) (low : T (le lo a)) (high : T (le b hi)) (min : T (le a c))
    (max : T (le d b)) (inner : Axis c d) where
  min-steps : quantize_bounds false a lo hi ≤ quantize_bounds false c lo hi
  min-steps =
      quantize_mono false a c lo hi all.low all.high low min
      (le_trans c d hi inner.order (le_trans d b hi max high))

  max-steps : quantize_bounds true d lo hi ≤ quantize_bounds true b lo hi
  max-steps =
      quantize_mono true d b lo hi all.low all.high
      (le_trans lo c d (le_trans lo a c low min) inner.order) max high

  axis : (quantize_bounds false a lo hi ≤ quantize_bounds false c lo hi)
      × (quantize_bounds true d lo hi ≤ quantize_bounds true b lo hi)
  axis = (min-steps, max-steps)

pub steps_nest : (all outer inner : Bounds3) → Proper all → Holds all outer → Holds outer inner → Proper inner
    → StepHolds (box_steps all outer) (box_steps all inner)
unfolding box_steps
steps_nest all o i p h k q =
    let lo = all.min in
    let hi = all.max in
    let a = o.min in
    let b = o.max in
    let c = i.min in
    let d = i.max in
    let along-x =
    axis lo.x hi.x a.x b.x c.x d.x p.along-x h.min-x h.max-x k.min-x k.max-x
    q.along-x in
    let along-y =
    axis lo.y hi.y a.y b.y c.y d.y p.along-y h.min-y h.max-y k.min-y k.max-y
    q.along-y in
    let along-z =
    axis lo.z hi.z a.z b.z c.z d.z p.along-z h.min-z h.max-z k.min-z k.max-z
    q.along-z in
    record {
      min-x = along-x.0;
      min-y = along-y.0;
      min-z = along-z.0;
      max-x = along-x.1;
      max-y = along-y.1;
      max-z = along-z.1;
    }

-- ---- the packed words of a build that was accepted

module _ (lights : ℕ) (ws : List ℕ) (nodes table work : ℕ) (b : LightBVH)
    (accepted : build_light_bvh lights ws nodes table work ≡ given b)
    (room : ℕ) (words : List ℕ) (packed : pack_light_bvh (bytes_of (nodes_written b)) b.k b.all-bounds room ≡ given
    (some words)) where
  parts : Parts ws b
  parts = accepted-parts lights ws nodes table work b accepted

  -- a record that is read is a packed node's
  module _ (i : ℕ) (r : LightBounds) (e : bounds_at (nodes_written b) i ≡ given r) where
    place : i < length (bytes_of (nodes_written b)) / node_bytes
    place = omega (arith, record-low ws b parts i r e, nodes-bytes ws b parts)

    reread : bounds_at (words_of (bytes_of (nodes_written b))) i ≡ given r
    reread = rw (nodes-words ws b parts) e

    record-box : (all : Bounds3) → b.all-bounds ≡ some all → box_at words i ≡ box_steps all r.bounds
    record-box all is =
        packed-box (bytes_of (nodes_written b)) b.k b.all-bounds room words packed all is i place r reread

  -- the box of an interior node holds its children's
  pub packed_nests : (i l r p : ℕ) → node_at (nodes_written b) i ≡ given (interior l r p)
      → StepHolds (box_at words i) (box_at words l) × StepHolds (box_at words i) (box_at words r)
  packed_nests i l r p e =
      let (all, is, _) = packed-header (bytes_of (nodes_written b)) b.k b.all-bounds room words packed in
      let whole = overall-proper lights ws nodes table work b accepted all is in
      let within = node-within lights ws nodes table work b accepted all is in
      let held = boxes ws b parts i l r p e in
      let outer = (within i held.own held.own_is).held in
      let box = held.own.bounds in
      rw (
        record-box i held.own held.own_is all is,
        record-box l held.left held.left_is all is,
        record-box r held.right held.right_is all is,
      ) (
        steps_nest all box held.left.bounds whole outer held.holds-left
            (within l held.left held.left_is).proper,
        steps_nest all box held.right.bounds whole outer held.holds-right
            (within r held.right held.right_is).proper,
      )
