-- The walk up from where a draw ended. Where a draw from a standing tree finds a light, the walk up from the light's
-- leaf enters the draw's places in reverse and gives a chance (`ascend-walk`); the draw enters no more places than
-- there are leaves (`walk-length`). Assumes nothing.
use Rattle.std.specs.Prelude.{ℕ, zero, suc, ◌+◌, ◌*◌, ◌-◌, ◌≤◌, ◌≡◌, refl, Bool, true, false, cond, List, [], ◌∷◌}
use Rattle.std.specs.Prelude.{◌++◌, ◌⊎◌, eqb, Float, length}
use Rattle.std.proofs.Common.{ap, sym, ◌∙◌, append_assoc, inl, inr, ⊎_elim, arith, eq-eqb, ne_eqb}
use Rattle.std.proofs.Math.Option.{some, some-injective, none-ne-some}
use Rattle.std.specs.Float.Ieee.{lt, le}
use Rattle.ieee.specs.Choose.{fmin}
use Rattle.ieee.specs.Single.{◌⊕◌, ◌⊖◌, ◌⊗◌, ◌⊘◌, zerof, onef}
use Rattle.words.specs.Answers.{Answer, given, refused, ◌then◌}
use Rattle.words.proofs.AnswerLaws.{given_injective, not-both}
use Rattle.light_bounds.specs.Importance.{weigh}
use Rattle.light_bounds.specs.declared.importance.Query.{Query}
use Rattle.light_bounds.specs.declared.light_bounds.LightBounds.{LightBounds}
use Rattle.light_rows.specs.Nodes.{LightBVHNode, leaf as leaf_node, interior, invalid_index, parent, node_at}
use Rattle.light_rows.specs.Tree.{Tree, leaf, fork, bounds, leaves, right_place}
use Rattle.light_rows.specs.Laws.TreeLaws.{leaves-pos, root}
use Rattle.light_sampler.specs.Fork.{Turn, neither, left, right, most, parted, fork as fork_of}
use Rattle.light_sampler.specs.Walks.{Walked, entering, Draw, by_query, weights, taken}
use Rattle.light_sampler.specs.Walks.{part, part_of, rise, risen, upward, ascend}
use Rattle.tree_laws.specs.Laws.PlaceLaws.{head_end}
use Rattle.words.specs.Lists.{reversed}
use Rattle.light_runs.specs.Laws.DownLaws.{leaves-weighed, weights_standing}
use Rattle.tree_laws.specs.Laws.StandingLaws.{stands-root}
use Rattle.tree_laws.specs.AsCoded.StandingTree.{Stands}
use Rattle.light_runs.specs.AsCoded.WeightedTree.{Weighted, leaf as weighted_leaf, fork as weighted_fork}
use Rattle.light_runs.specs.AsCoded.WeightedTree.{leaves_of, right_of, walk, weighed}

-- ---- a draw that finds a light

-- at a fork: its weights were given, their total was not zero or below, and it went into a branch
record Went (w : Answer (Float × Float)) (go_left go_right : Float → Float → Walked Draw)
    (drawn : Walked Draw) : Type 0 where
  weight_left : Float
  weight_right : Float
  weights-are : w ≡ given (weight_left, weight_right)
  some-weight : le (weight_left ⊕ weight_right) zerof ≡ false
  chance : Float
  within : Float
  way : (drawn ≡ go_left chance within) ⊎ (drawn ≡ go_right chance within)

fork_went : (w : Answer (Float × Float)) (l r : Weighted) (at : ℕ) (c u : Float) (x : ℕ × Float)
    → (walk at (weighted_fork w l r) c u).outcome ≡ given (some x)
    → Went w (λ (d v : Float). entering at (walk (at + 1) l d v))
    (λ (d v : Float). entering at (walk (right_of at l) r d v)) (walk at (weighted_fork w l r) c u)
unfolding walk taken ◌then◌ fork_of parted
fork_went (refused n) l r at c u x e = absurd (not-both e refl)
fork_went (given w) l r at c u x e = go (le total zerof) refl (lt u share) e
  where
    total : Float
    total = w.0 ⊕ w.1

    share : Float
    share = w.0 ⊘ total

    go_left : Float → Float → Walked Draw
    go_left d v = walk (at + 1) l d v

    go_right : Float → Float → Walked Draw
    go_right d v = walk (right_of at l) r d v

    -- by the total and by u
    turned : Bool → Bool → Walked Draw
    turned dark first =
        taken go_left go_right c
        (given (cond dark neither (cond first (left share (fmin (u ⊘ share) most))
        (right (onef ⊖ share) (fmin ((u ⊖ share) ⊘ (onef ⊖ share)) most)))))

    go : (b : Bool) → le total zerof ≡ b → (first : Bool) → (turned b first).outcome ≡ given (some x)
        → Went (given w) (λ (d v : Float). entering at (go_left d v)) (λ (d v : Float). entering at (go_right d v))
        (entering at (turned b first))
    go true t first e = absurd (none-ne-some x (given_injective e))
    go false t true e =
        record {
          weight_left = w.0;
          weight_right = w.1;
          weights-are = refl;
          some-weight = t;
          chance = c ⊗ share;
          within = fmin (u ⊘ share) most;
          way = inl refl;
        }
    go false t false e =
        record {
          weight_left = w.0;
          weight_right = w.1;
          weights-are = refl;
          some-weight = t;
          chance = c ⊗ (onef ⊖ share);
          within = fmin ((u ⊖ share) ⊘ (onef ⊖ share)) most;
          way = inr refl;
        }

-- of a tree that a query weighed
weighed_went : (q : Query) (b : LightBounds) (l r : Tree) (at : ℕ) (c u : Float) (x : ℕ × Float)
    → (walk at (weighed q (fork b l r)) c u).outcome ≡ given (some x)
    → Went (weigh (bounds l) q then λ (x : Float). weigh (bounds r) q then λ (y : Float). given (x, y))
    (λ (d v : Float). entering at (walk (at + 1) (weighed q l) d v))
    (λ (d v : Float). entering at (walk (right_place at l) (weighed q r) d v))
    (walk at (weighed q (fork b l r)) c u)
unfolding weighed
weighed_went q b l r at c u x e =
    let n = leaves-weighed q l in
    rw (← n)
    (fork_went (weigh (bounds l) q then λ (x : Float). weigh (bounds r) q then λ (y : Float). given (x, y))
    (weighed q l) (weighed q r) at c u x e)

outcome-of : {at : ℕ} {x w : Walked Draw} → x ≡ entering at w → w.outcome ≡ x.outcome
outcome-of e = sym (ap (λ (x : Walked Draw). x.outcome) e)

leaf-found : (h k : ℕ) (c d : Float) → ◌≡◌ {A = Answer Draw} (given (some (h, c))) (given (some (k, d))) → h ≡ k
leaf-found h k c d e = ap (λ (x : ℕ × Float). x.0) (some-injective (h, c) (k, d) (given_injective e))

-- ---- the walk up

-- from the node at a place, whatever the chance so far, the rest of the walk up enters the places `acc` and gives a
-- chance, if as many entries are left
abbrev pub Rises : List ℕ → Query → ℕ → List ℕ → Type 0
Rises ws q i acc =
    (n : ℕ) (d : Float) → length acc ≤ n
    → (e : Float) × (upward ws q i d (λ (j : ℕ) (c : Float). ascend ws q n j c) (node_at ws i) ≡
    record { outcome = given e; places = acc })

pub rises-root : (ws : List ℕ) (q : Query) (i : ℕ) (x : LightBVHNode) → node_at ws i ≡ given x
    → parent x ≡ invalid_index
    → Rises ws q i []
unfolding upward
rises-root ws q i x node top n d few = (d, rw (node, eq-eqb (parent x) invalid_index top))

pub root-parent : (at p : ℕ) (t : Tree) → parent (root at p t) ≡ p
root-parent at p (leaf h b) = refl
root-parent at p (fork b l r) = refl

-- above a whole tree that stands there is nothing
pub rises_standing : (ws : List ℕ) (q : Query) (at : ℕ) (t : Tree) → Stands ws at invalid_index t → Rises ws q at []
rises_standing ws q at t s =
    rises-root ws q at (root at invalid_index t) (stands-root ws at invalid_index t s).0
    (root-parent at invalid_index
    t)

-- with an entry more
ascend_rises : (ws : List ℕ) (q : Query) (i : ℕ) (acc : List ℕ) → Rises ws q i acc → (n : ℕ) (d : Float)
    → length (i ∷ acc) ≤ n
    → (e : Float) × (ascend ws q n i d ≡ record { outcome = given e; places = i ∷ acc })
unfolding ascend
ascend_rises ws q i acc rises zero d few = absurd (omega arith)
ascend_rises ws q i acc rises (suc n) d few = let (e, is) = rises n d (omega arith) in (e, ap (entering i) is)

-- a child's part of a total that is not zero or below
part-of : (i l r : ℕ) (x y : Float) → (i ≡ l) ⊎ (i ≡ r) → le (x ⊕ y) zerof ≡ false
    → (s : Float) × (part_of i l r x y ≡ given (part s))
unfolding part_of
part-of i l r x y (inl e) some-weight = (x ⊘ (x ⊕ y), rw (some-weight, eq-eqb i l e))
part-of i l r x y (inr e) some-weight = rw some-weight (go (eqb i l))
  where
    go : (b : Bool) → (s : Float) ×
        (cond b (given (part (x ⊘ (x ⊕ y)))) (cond (eqb i r) (given (part (y ⊘ (x ⊕ y)))) (refused 12)) ≡
        given (part s))
    go true = (x ⊘ (x ⊕ y), refl)
    go false = (y ⊘ (x ⊕ y), rw (eq-eqb i r e))

-- a child of a fork, whose place is entered next
pub rises_child : (ws : List ℕ) (q : Query) (at l r p i : ℕ) (n : LightBVHNode) (x y : Float) (acc : List ℕ)
    → node_at ws at ≡ given (interior l r p)
    → node_at ws i ≡ given n → parent n ≡ at → (at ≡ invalid_index → ⊥) → (i ≡ at + 1) ⊎ (i ≡ r)
    → weights ws (by_query q) at r ≡ given (x, y) → le (x ⊕ y) zerof ≡ false → Rises ws q at acc
    → Rises ws q i (at ∷ acc)
unfolding upward rise risen ◌then◌
rises_child ws q at l r p i n x y acc above node up inner child weight some-weight rises m d few =
    let (s, is) = part-of i (at + 1) r x y child some-weight in
    let (e, rest) = ascend_rises ws q at acc rises m (d ⊗ s) few in
    (e, rw (node, up, ne_eqb at invalid_index inner, above, weight, is) rest)

-- where a draw through the places `drawn` ended: at a leaf, the last of them, and the walk up from it enters them in
-- reverse, then `acc`, and gives a chance
pub record Climbs (ws : List ℕ) (q : Query) (h : ℕ) (acc drawn : List ℕ) : Type 0 where
  pub place : ℕ
  pub above : ℕ
  pub before : List ℕ
  pub node-is : node_at ws place ≡ given (leaf_node h above)
  pub last-is : reversed drawn ≡ place ∷ before
  pub climbs : (n : ℕ) (d : Float) → length acc + length drawn ≤ n
      → (e : Float) × (ascend ws q n place d ≡ record { outcome = given e; places = reversed drawn ++ acc })

climbs-leaf : (ws : List ℕ) (q : Query) (at h p : ℕ) (acc : List ℕ) → node_at ws at ≡ given (leaf_node h p)
    → Rises ws q at acc → Climbs ws q h acc (at ∷ [])
unfolding reversed
climbs-leaf ws q at h p acc node rises =
    record {
      place = at;
      above = p;
      before = [];
      node-is = node;
      last-is = refl;
      climbs = λ n d few. ascend_rises ws q at acc rises n d (omega arith);
    }

climbs-fork : (ws : List ℕ) (q : Query) (at h : ℕ) (acc : List ℕ) (x w : Walked Draw) → x ≡ entering at w
    → Climbs ws q h (at ∷ acc) w.places
    → Climbs ws q h acc x.places
unfolding reversed
climbs-fork ws q at h acc x w e up =
    rw e
    record {
      place = up.place;
      above = up.above;
      before = up.before ++ (at ∷ []);
      node-is = up.node-is;
      last-is = ap (λ (xs : List ℕ). xs ++ (at ∷ [])) up.last-is;
      climbs =
          λ n d few. let (e, is) = up.climbs n d (omega arith) in
          (e, rw (append_assoc (reversed w.places) (at ∷ []) acc) is);
    }

-- where a draw from a standing tree finds a light, whatever is above the tree
pub ascend-walk : (ws : List ℕ) (q : Query) (t : Tree) (at p : ℕ) (c u : Float) (h : ℕ) (c' : Float) (acc : List ℕ)
    → Stands ws at p t
    → at + (2 * leaves t - 1) ≤ head_end → Rises ws q at acc
    → (walk at (weighed q t) c u).outcome ≡ given (some (
      h,
      c',
    ))
    → Climbs ws q h acc (walk at (weighed q t) c u).places
unfolding walk weighed leaves
ascend-walk ws q (leaf k b) at p c u h c' acc s low rises found =
    climbs-leaf ws q at h p acc (s.0 ∙ ap (λ (x : ℕ). given (leaf_node x p)) (leaf-found k h c c' found)) rises
ascend-walk ws q (fork b l r) at p c u h c' acc s low rises found =
    let more-l = leaves-pos l in
    let more-r = leaves-pos r in
    let went = weighed_went q b l r at c u (h, c') found in
    let right = right_place at l in
    let weight = weights_standing ws q at p b l r s ∙ went.weights-are in
    let under : (i : ℕ) (t : Tree) → Stands ws i at t → (i ≡ at + 1) ⊎ (i ≡ right) → Rises ws q i (at ∷ acc) =
    λ i t stands child. rises_child ws q at (at + 1) right p i (root i at t) went.weight_left went.weight_right acc
    s.0.0
    (stands-root ws i at t stands).0 (root-parent i at t) (λ e. omega arith) child weight went.some-weight rises in
    let d = went.chance in
    let v = went.within in
    ⊎_elim
    (λ e. climbs-fork ws q at h acc (walk at (weighed q (fork b l r)) c u) (walk (at + 1) (weighed q l) d v) e
    (ascend-walk ws q l (at + 1) at d v h c' (at ∷ acc) s.1 (omega arith) (under (at + 1) l s.1 (inl refl))
    (outcome-of e ∙ found)))
    (λ e. climbs-fork ws q at h acc (walk at (weighed q (fork b l r)) c u) (walk right (weighed q r) d v) e
    (ascend-walk ws q r right at d v h c' (at ∷ acc) s.2 (omega arith) (under right r s.2 (inr refl))
    (outcome-of e ∙ found)))
    went.way

-- ---- the places of a draw

leaves_of-pos : (t : Weighted) → 1 ≤ leaves_of t
unfolding leaves_of
leaves_of-pos (weighted_leaf h) = omega arith
leaves_of-pos (weighted_fork w l r) = omega (arith, leaves_of-pos l)

taken-length : (f g : Float → Float → Walked Draw) (c : Float) (a : Answer Turn) (n : ℕ)
    → ((d v : Float) → length (f d v).places ≤ n)
    → ((d v : Float) → length (g d v).places ≤ n) → length (taken f g c a).places ≤ n
unfolding taken
taken-length f g c (refused m) n few-l few-r = omega arith
taken-length f g c (given neither) n few-l few-r = omega arith
taken-length f g c (given (left s u)) n few-l few-r = few-l _ u
taken-length f g c (given (right s u)) n few-l few-r = few-r _ u

-- the number of places that a draw enters is at most the leaves
pub walk-length : (at : ℕ) (t : Weighted) (c u : Float) → length (walk at t c u).places ≤ leaves_of t
unfolding walk leaves_of
walk-length at (weighted_leaf h) c u = omega arith
walk-length at (weighted_fork w l r) c u =
    let more-l = leaves_of-pos l in
    let more-r = leaves_of-pos r in
    let few =
    taken-length (λ (d v : Float). walk (at + 1) l d v) (λ (d v : Float). walk (right_of at l) r d v) c
    (w then λ (x : Float × Float). given (fork_of x.0 x.1 u)) (leaves_of l + leaves_of r - 1)
    (λ d v. omega (arith, walk-length (at + 1) l d v)) (λ d v. omega (arith, walk-length (right_of at l) r d v)) in
    omega arith
