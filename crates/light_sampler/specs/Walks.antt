-- The two walks over the words of a tree, any words: `descend` from the root by u, `ascend` from a leaf by parent
-- words. Each gives, of the one walk that it is, the outcome and the places that it enters, in their order. Nodes are
-- judged as `light_bvh.rs` judges them: the kind when a node is entered, the record when it is weighed, the left child
-- in full before the right one is looked for. Definitions only. Assumes nothing.
use Rattle.std.specs.Prelude.{ℕ, zero, suc, ◌+◌, cond, List, [], ◌∷◌, eqb, Float}
use Rattle.std.proofs.Math.Option.{Option, none, some}
use Rattle.std.specs.Float.Ieee.{le}
use Rattle.ieee.specs.Single.{◌⊕◌, ◌⊗◌, ◌⊘◌, zerof}
use Rattle.words.specs.Answers.{Answer, given, refused, ◌then◌}
use Rattle.light_bounds.specs.Importance.{weigh}
use Rattle.light_bounds.specs.declared.importance.Query.{Query}
use Rattle.light_bounds.specs.declared.light_bounds.LightBounds.{LightBounds}
use Rattle.light_rows.specs.Nodes.{LightBVHNode, leaf, interior, invalid_index, parent, node_at, bounds_at}
use Rattle.light_sampler.specs.Fork.{Turn, neither, left, right, fork}

-- ---- a walk

-- what a walk comes to, and the places that it enters
pub record Walked (A : Type 0) : Type 0 where
  pub outcome : Answer A
  pub places : List ℕ

abbrev pub ended : {A : Type 0} → Answer A → Walked A
ended a = record { outcome = a; places = [] }

-- a place is entered before the rest of the walk
abbrev pub entering : {A : Type 0} → ℕ → Walked A → Walked A
entering i w = record { outcome = w.outcome; places = i ∷ w.places }

-- a walk behind a check
abbrev pub after_check : {A B : Type 0} → Answer A → (A → Walked B) → Walked B
after_check (given a) walk = walk a
after_check (refused n) walk = ended (refused n)

-- ---- weighing

-- how a walk weighs a record
abbrev pub Weighing : Type 0
Weighing = LightBounds → Answer Float

-- a walk for a query
abbrev pub by_query : Query → Weighing
by_query q = λ (b : LightBounds). weigh b q

-- of the node at a place: 12 past the end, 12 of its side word, the record's check, its weight
unfoldable pub weigh_at : List ℕ → Weighing → ℕ → Answer Float
weigh_at ws by i = bounds_at ws i then by

-- of the two children of the node at a place: the left one stands next to it, the right one where its word says
unfoldable pub weights : List ℕ → Weighing → ℕ → ℕ → Answer (Float × Float)
weights ws by i r = weigh_at ws by (i + 1) then λ (x : Float). weigh_at ws by r then λ (y : Float). given (x, y)

-- ---- down

-- `Option<(u32, f32)>`: the light that is drawn and its chance, or none
abbrev pub Draw : Type 0
Draw = Option (ℕ × Float)

unfoldable pub turn : List ℕ → Weighing → ℕ → ℕ → Float → Answer Turn
turn ws by i r u = weights ws by i r then λ (w : Float × Float). given (fork w.0 w.1 u)

-- neither branch ends the walk with none; a branch is entered with its share in the chance
unfoldable pub taken : (go_left go_right : Float → Float → Walked Draw) → Float → Answer Turn → Walked Draw
taken go_left go_right pmf (refused n) = ended (refused n)
taken go_left go_right pmf (given neither) = ended (given none)
taken go_left go_right pmf (given (left s u)) = go_left (pmf ⊗ s) u
taken go_left go_right pmf (given (right s u)) = go_right (pmf ⊗ s) u

-- from the node that stands at a place
unfoldable pub onward : List ℕ → Query → ℕ → Float → Float → (ℕ → Float → Float → Walked Draw) → Answer LightBVHNode →
    Walked Draw
onward ws q i pmf u enter (refused n) = ended (refused n)
onward ws q i pmf u enter (given (leaf h p)) = ended (given (some (h, pmf)))
onward ws q i pmf u enter (given (interior l r p)) = taken (enter (i + 1)) (enter r) pmf (turn ws (by_query q) i r u)

-- `n` is how many places may still be entered; then the walk is spent
unfoldable pub descend : List ℕ → Query → ℕ → ℕ → Float → Float → Walked Draw
descend ws q zero i pmf u = ended (refused 12)
descend ws q (suc n) i pmf u =
    entering i (onward ws q i pmf u (λ (j : ℕ) (c v : Float). descend ws q n j c v) (node_at ws i))

-- ---- up

-- an upward step: no child of the node has weight, or the child's part of the two weights
pub data Rise : Type 0 where
  nought : Rise
  part : Float → Rise

-- of the child at `i`, by the weights of the children at `l` and `r`; 12 where it is neither, judged after the total
unfoldable pub part_of : ℕ → ℕ → ℕ → Float → Float → Answer Rise
part_of i l r x y =
    let total = x ⊕ y in
    cond (le total zerof) (given nought)
    (cond (eqb i l) (given (part (x ⊘ total))) (cond (eqb i r) (given (part (y ⊘ total))) (refused 12)))

-- `right_child`: 12 of a leaf
abbrev pub right_child_of : LightBVHNode → Answer ℕ
right_child_of (leaf h p) = refused 12
right_child_of (interior l r p) = given r

-- from the child at `i` to its parent at `p`
unfoldable pub rise : List ℕ → Weighing → ℕ → ℕ → Answer Rise
rise ws by i p =
    node_at ws p then λ (n : LightBVHNode). right_child_of n then λ (r : ℕ). weights ws by p r
    then λ (w : Float × Float). part_of i (p + 1) r w.0 w.1

-- children without weight end the walk with 0; else the parent is entered with the child's part in the chance
unfoldable pub risen : ℕ → Float → (ℕ → Float → Walked Float) → Answer Rise → Walked Float
risen p pmf enter (refused n) = ended (refused n)
risen p pmf enter (given nought) = ended (given zerof)
risen p pmf enter (given (part s)) = enter p (pmf ⊗ s)

-- from the node that stands at a place; the root has no parent
unfoldable pub upward : List ℕ → Query → ℕ → Float → (ℕ → Float → Walked Float) → Answer LightBVHNode → Walked Float
upward ws q i pmf enter (refused n) = ended (refused n)
upward ws q i pmf enter (given node) =
    cond (eqb (parent node) invalid_index) (ended (given pmf))
    (risen (parent node) pmf enter (rise ws (by_query q) i (parent node)))

unfoldable pub ascend : List ℕ → Query → ℕ → ℕ → Float → Walked Float
ascend ws q zero i pmf = ended (refused 12)
ascend ws q (suc n) i pmf = entering i (upward ws q i pmf (λ (j : ℕ) (c : Float). ascend ws q n j c) (node_at ws i))
