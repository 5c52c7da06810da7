-- A draw from the words of a standing tree is the walk over the tree with the query's weights (`descend-walk`), whose
-- weights are not NaN and not below zero (`weighed-not-below`). Assumes nothing.
use Rattle.std.specs.Prelude.{ℕ, zero, suc, ◌+◌, ◌≤◌, ◌≡◌, refl, List, T, Float}
use Rattle.std.proofs.Common.{ap, arith}
use Rattle.ieee.specs.Laws.OrderLaws.{nonneg}
use Rattle.words.specs.Answers.{Answer, given, refused, ◌then◌}
use Rattle.words.proofs.AnswerLaws.{Gives, gives, gives_none, gives_then}
use Rattle.light_bounds.proofs.BoundsLaws.{importance-nonneg}
use Rattle.light_bounds.specs.Importance.{weigh}
use Rattle.light_bounds.specs.declared.importance.Query.{Query}
use Rattle.light_bounds.specs.declared.light_bounds.LightBounds.{LightBounds}
use Rattle.light_rows.specs.Tree.{Tree, leaf, fork, bounds, leaves, right_place}
use Rattle.light_rows.specs.Laws.TreeLaws.{leaves-pos}
use Rattle.light_sampler.specs.Fork.{Turn, neither, left, right}
use Rattle.light_sampler.specs.Walks.{Walked, entering, Draw, by_query, weigh_at, weights, turn, taken, onward, descend}
use Rattle.tree_laws.specs.Laws.StandingLaws.{stands-root}
use Rattle.tree_laws.specs.AsCoded.StandingTree.{Stands}
use Rattle.light_runs.specs.AsCoded.WeightedTree.{leaves_of, walk, NotBelow, WeightsNotBelow, weighed}

-- ---- the weights

weigh-nonneg : (r : LightBounds) (q : Query) → Gives (λ (x : Float). T (nonneg x)) (weigh r q)
unfolding weigh
weigh-nonneg r q = go (weigh r q) (λ x e. importance-nonneg r q x e)
  where
    go : (a : Answer Float) → ((x : Float) → a ≡ given x → T (nonneg x)) → Gives (λ (x : Float). T (nonneg x)) a
    go (given x) h = gives (h x refl)
    go (refused n) h = gives_none

pub weighed-not-below : (q : Query) (t : Tree) → WeightsNotBelow (weighed q t)
unfolding weighed
weighed-not-below q (leaf h b) = tt
weighed-not-below q (fork b l r) = (
  gives_then (weigh-nonneg (bounds l) q)
      (λ x nx. gives_then (weigh-nonneg (bounds r) q) (λ y ny. gives {P = NotBelow} {a = (x, y)} (nx, ny))),
  weighed-not-below q l,
  weighed-not-below q r,
)

pub leaves-weighed : (q : Query) (t : Tree) → leaves_of (weighed q t) ≡ leaves t
unfolding weighed leaves_of leaves
leaves-weighed q (leaf h b) = refl
leaves-weighed q (fork b l r) = omega (arith, leaves-weighed q l, leaves-weighed q r)

-- of the node at a place, by its record
weigh-at : (ws : List ℕ) (q : Query) (at p : ℕ) (t : Tree) → Stands ws at p t
    → weigh_at ws (by_query q) at ≡ weigh (bounds t) q
unfolding weigh_at ◌then◌
weigh-at ws q at p t s = rw (stands-root ws at p t s).1

-- at a fork, those of `weighed`
pub weights_standing : (ws : List ℕ) (q : Query) (at p : ℕ) (b : LightBounds) (l r : Tree) → Stands ws at p (fork b l r)
    → weights ws (by_query q) at (right_place at l)
    ≡ (weigh (bounds l) q then λ (x : Float). weigh (bounds r) q then λ (y : Float). given (x, y))
unfolding weights
weights_standing ws q at p b l r s =
    rw (weigh-at ws q (at + 1) at l s.1, weigh-at ws q (right_place at l) at r s.2)

-- ---- the draw

-- by what the branches do
taken-same : (f g f' g' : Float → Float → Walked Draw) (c : Float) (a : Answer Turn) → ((c v : Float) → f c v ≡ f' c v)
    → ((c v : Float) → g c v ≡ g' c v)
    → taken f g c a ≡ taken f' g' c a
unfolding taken
taken-same f g f' g' c (refused n) to-left to-right = refl
taken-same f g f' g' c (given neither) to-left to-right = refl
taken-same f g f' g' c (given (left s u)) to-left to-right = to-left _ u
taken-same f g f' g' c (given (right s u)) to-left to-right = to-right _ u

-- a draw from the words is the walk over the weighted tree
pub descend-walk : (ws : List ℕ) (q : Query) (t : Tree) (at p n : ℕ) (c u : Float) → Stands ws at p t → leaves t ≤ n
    → descend ws q n at c u ≡ walk at (weighed q t) c u
unfolding descend onward turn walk weighed leaves
descend-walk ws q (leaf h b) at p zero c u s few = absurd (omega arith)
descend-walk ws q (leaf h b) at p (suc n) c u s few = rw s.0
descend-walk ws q (fork b l r) at p zero c u s few = absurd (omega (arith, leaves-pos l))
descend-walk ws q (fork b l r) at p (suc n) c u s few =
    let more-l = leaves-pos l in
    let more-r = leaves-pos r in
    rw (s.0.0, weights_standing ws q at p b l r s, leaves-weighed q l)
    (ap (entering at)
    (taken-same (λ (c v : Float). descend ws q n (at + 1) c v) (λ (c v : Float). descend ws q n (right_place at l) c v)
    (λ (c v : Float). walk (at + 1) (weighed q l) c v) (λ (c v : Float). walk (right_place at l) (weighed q r) c v) c _
    (λ c v. descend-walk ws q l (at + 1) at n c v s.1 (omega arith))
    (λ c v. descend-walk ws q r (right_place at l) at n c v s.2 (omega arith))))
