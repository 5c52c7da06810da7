-- What the parts of the packing answer. Definitions only. Assumes nothing.
use Rattle.std.specs.Prelude.{ℕ, List, Result, Ok, Err, Option as Option-of-std}
use Rattle.std.proofs.Math.Option.{Option}
use Rattle.words.specs.Answers.{Answer, given, refused, optional, ◌then◌}
use Rattle.words.specs.Refusals.{number}
use Rattle.words.specs.declared.refusals.Refusal.{Refusal}
use Rattle.light_bounds.specs.LightBounds.{validate}
use Rattle.light_bounds.specs.Vecmath.{normalize_by_division}
use Rattle.light_bounds.specs.declared.bounds.Bounds3.{Bounds3}
use Rattle.light_bounds.specs.declared.light_bounds.LightBounds.{LightBounds}
use Rattle.light_bounds.specs.declared.vecmath.Vec3.{Vec3}
use Rattle.light_rows.specs.Nodes.{LightBVHNode, parent, bounds_at}
use Rattle.packed_bvh.specs.Packed.{payload_word, compact_words, payload_check, parent_check, left_check}
use Rattle.packed_bvh.specs.declared.pack.Placed.{Placed}

-- the payload's word and the parent of a node that passes its own checks
unfoldable pub placing : ℕ → ℕ → LightBVHNode → Answer (ℕ × ℕ)
placing count i n =
    payload_check n then λ _. parent_check count n then λ _. left_check i n then λ _. given (payload_word n, parent n)

abbrev pub placed : Result Placed Refusal → Answer (ℕ × ℕ)
placed (Ok p) = given (p.payload, p.parent)
placed (Err why) = refused (number why)

-- the words of the node at a place, its own checks behind its record's
unfoldable pub pack_bounds : Bounds3 → LightBounds → Answer (ℕ × ℕ) → Answer (List ℕ)
pack_bounds all b place =
    normalize_by_division b.direction then λ (d : Vec3). place then λ (w : ℕ × ℕ). given
    (compact_words all b d w.0 w.1)

unfoldable pub pack_placed : Bounds3 → List ℕ → ℕ → Answer (ℕ × ℕ) → Answer (List ℕ)
pack_placed all ws i place = bounds_at ws i then λ (b : LightBounds). validate b then λ _. pack_bounds all b place

-- the box that nodes and lamps agree with, where there is one
abbrev pub agreement : Result (Option-of-std Bounds3) Refusal → Answer (Option Bounds3)
agreement (Ok box) = given (optional box)
agreement (Err why) = refused (number why)
