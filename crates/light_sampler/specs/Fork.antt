-- A fork of the light tree, as `bvh_light_sampler_sample` of `light_bvh.rs` takes it: from two weights and u, the
-- branch with its share and the u within it. It is the same at every fork, and whatever the weights are weights of.
-- Definitions only. Assumes nothing.
use Rattle.std.specs.Prelude.{cond, Float}
use Rattle.std.specs.Float.Ieee.{lt, le}
use Rattle.ieee.specs.Choose.{fmin}
use Rattle.ieee.specs.Single.{◌⊕◌, ◌⊖◌, ◌⊘◌, single, zerof, onef}

-- `1.0 - f32::EPSILON`: the greatest u that a walk goes on with
abbrev pub most : Float
most = single 0x3f7f_fffe

-- where a fork sends u: nowhere, where no branch has weight; or into a branch, with the branch's share and the u within
-- it
pub data Turn : Type 0 where
  neither : Turn
  left : Float → Float → Turn
  right : Float → Float → Turn

-- by the left share
unfoldable pub parted : Float → Float → Turn
parted share u =
    cond (lt u share) (left share (fmin (u ⊘ share) most))
    (right (onef ⊖ share) (fmin ((u ⊖ share) ⊘ (onef ⊖ share)) most))

unfoldable pub fork : Float → Float → Float → Turn
fork l r u = let total = l ⊕ r in cond (le total zerof) neither (parted (l ⊘ total) u)
