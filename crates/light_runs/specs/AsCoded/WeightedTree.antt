-- A tree of leaves and forks with a pair of weights at each fork, or a refusal to weigh; and a draw from it, by `fork`
-- of light_sampler. What is proved of it holds of any weights; `weighed` has those that a query gives. Definitions
-- only. Assumes nothing.
use Rattle.std.specs.Prelude.{ℕ, ◌+◌, ◌*◌, T, Float}
use Rattle.std.proofs.Math.Option.{some}
use Rattle.ieee.specs.Laws.OrderLaws.{nonneg}
use Rattle.words.specs.Answers.{Answer, given, ◌then◌}
use Rattle.words.proofs.AnswerLaws.{Gives}
use Rattle.light_bounds.specs.Importance.{weigh}
use Rattle.light_bounds.specs.declared.importance.Query.{Query}
use Rattle.light_rows.specs.Tree.{Tree, leaf as tree_leaf, fork as tree_fork, bounds}
use Rattle.light_sampler.specs.Fork.{fork as fork_of}
use Rattle.light_sampler.specs.Walks.{Walked, ended, entering, Draw, taken}

pub data Weighted : Type 0 where
  leaf : ℕ → Weighted
  fork : Answer (Float × Float) → Weighted → Weighted → Weighted

unfoldable pub leaves_of : Weighted → ℕ
leaves_of (leaf h) = 1
leaves_of (fork w l r) = leaves_of l + leaves_of r

-- the right tree stands behind the left one's 2 n - 1 nodes, as in the words
abbrev pub right_of : ℕ → Weighted → ℕ
right_of at l = at + 2 * leaves_of l

-- the draw from the tree whose root stands at a place
unfoldable pub walk : ℕ → Weighted → Float → Float → Walked Draw
walk at (leaf h) pmf u = entering at (ended (given (some (h, pmf))))
walk at (fork w l r) pmf u =
    entering at (taken (λ (c v : Float). walk (at + 1) l c v) (λ (c v : Float). walk (right_of at l) r c v) pmf
    (w then λ (x : Float × Float). given (fork_of x.0 x.1 u)))

-- two weights that are not NaN and not below zero
abbrev pub NotBelow : Float × Float → Type 0
NotBelow x = T (nonneg x.0) × T (nonneg x.1)

-- every weight of the tree that is given is such a one
abbrev pub WeightsNotBelow : Weighted → Type 0
WeightsNotBelow (leaf h) = Unit
WeightsNotBelow (fork w l r) = Gives NotBelow w × WeightsNotBelow l × WeightsNotBelow r

-- ---- the weights that a query gives

-- the tree with the weights that a query gives its forks: the left child's, then the right child's
unfoldable pub weighed : Query → Tree → Weighted
weighed q (tree_leaf h b) = leaf h
weighed q (tree_fork b l r) =
    fork (weigh (bounds l) q then λ (x : Float). weigh (bounds r) q then λ (y : Float). given (x, y)) (weighed q l)
    (weighed q r)
