-- A packed node read: its box in steps from its first three words, its children or its handle and its parent from its
-- last two, and a step as a float. Definitions only. Assumes nothing.
use Rattle.std.specs.Prelude.{ℕ, ◌+◌, ◌-◌, ◌/◌, ◌%◌, ◌≤◌, true, false, cond, List, leb, pos, Float, get_or}
use Rattle.std.specs.Float.{binary32}
use Rattle.std.specs.Float.Ieee.{of_int}
use Rattle.ieee.specs.Single.{◌⊕◌, ◌⊖◌, ◌⊗◌, ◌⊘◌}
use Rattle.light_bounds.specs.declared.bounds.Bounds3.{Bounds3}
use Rattle.light_rows.specs.Nodes.{LightBVHNode, leaf, interior}
use Rattle.packed_bvh.specs.Packed.{leaf_bit, packed_place}
use Rattle.packed_bvh.specs.Quantize.{last_step, quantize_bounds}

-- the node at place i that two packed words stand for: a leaf where bit 31 of the payload is set; a left child is the
-- next node
unfoldable pub read_node : ℕ → ℕ → ℕ → LightBVHNode
read_node i payload p = cond (leb leaf_bit payload) (leaf (payload - leaf_bit) p) (interior (i + 1) payload p)

-- ---- boxes in steps

pub record StepBox : Type 0 where
  pub min-x : ℕ
  pub min-y : ℕ
  pub min-z : ℕ
  pub max-x : ℕ
  pub max-y : ℕ
  pub max-z : ℕ

-- of three words, two numbers of sixteen bits each
unfoldable pub read_box : ℕ → ℕ → ℕ → StepBox
read_box u v w =
    record {
      min-x = u % 0x1_0000;
      min-y = u / 0x1_0000;
      min-z = v % 0x1_0000;
      max-x = v / 0x1_0000;
      max-y = w %
          0x1_0000;
      max-z = w / 0x1_0000;
    }

-- of the node at a place of packed words
abbrev pub box_at : List ℕ → ℕ → StepBox
box_at ws i =
    read_box (get_or ws (packed_place i) 0) (get_or ws (packed_place i + 1) 0) (get_or ws (packed_place i + 2) 0)

-- a box's steps within the overall box: its minimum down, its maximum up
unfoldable pub box_steps : Bounds3 → Bounds3 → StepBox
box_steps all b = record {
  min-x = quantize_bounds false b.min.x all.min.x all.max.x;
  min-y = quantize_bounds false b.min.y all.min.y all.max.y;
  min-z = quantize_bounds false b.min.z all.min.z all.max.z;
  max-x = quantize_bounds true b.max.x all.min.x all.max.x;
  max-y = quantize_bounds true b.max.y all.min.y all.max.y;
  max-z = quantize_bounds true b.max.z all.min.z all.max.z;
}

-- a step read back as a float, between the ends of its axis
abbrev pub step_back : ℕ → Float → Float → Float
step_back q lo hi = lo ⊕ of_int binary32 (pos q) ⊘ last_step ⊗ (hi ⊖ lo)

-- one box of steps within another
pub record StepHolds (outer inner : StepBox) : Type 0 where
  pub min-x : outer.min-x ≤ inner.min-x
  pub min-y : outer.min-y ≤ inner.min-y
  pub min-z : outer.min-z ≤ inner.min-z
  pub max-x : inner.max-x ≤ outer.max-x
  pub max-y : inner.max-y ≤ outer.max-y
  pub max-z : inner.max-z ≤ outer.max-z
