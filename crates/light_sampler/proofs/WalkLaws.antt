-- A turn of each walk: what it comes to, or the walk that is left. The places that a walk enters are no part of its
-- outcome. A query that is held weighs as the query does (`by-held`). Assumes nothing.
use Prim.Native.Nat.{ℕ, zero, suc, ◌+◌, ◌/◌, ◌<◌}
use mathlib.Core.Path.{◌≡◌, refl, sym, ap, ◌∙◌}
use mathlib.Core.Bool.{Bool, true, false, cond}
use mathlib.Core.List.{List}
use mathlib.Core.Option.{none, some}
use borrow.Author.Tests.{ltb-true, ltb-false, eq-eqb, ne_eqb}
use lib.Dec.{eqb, leb, ltb}
use lib.Ieee.{Float}
use lib.ListN.{length, get_or}
use Rattle.std.specs.Prelude.{Some, None}
use Rattle.ieee.specs.Choose.{fmin}
use Rattle.ieee.specs.Single.{◌⊗◌, zerof, onef}
use Rattle.words.specs.Answers.{Answer, ◌then◌, given, refused}
use Rattle.words.specs.Heads.{kind_of}
use Rattle.words.proofs.AnswerLaws.{not-both, refused_injective}
use Rattle.light_bounds.specs.AsCoded.Weighing.{prepared}
use Rattle.light_bounds.proofs.WeighingLaws.{weigh-prepared}
use Rattle.light_bounds.specs.declared.importance.Query.{Query}
use Rattle.light_bounds.specs.declared.importance.Prepared.{Prepared}
use Rattle.light_rows.specs.Nodes.{LightBVHNode, leaf, interior, invalid_index, parent, node_of, node_at}
use Rattle.light_rows.specs.Nodes.{node_place, node_words}
use Rattle.light_rows.specs.Laws.TreeLaws.{node_at-past}
use Rattle.light_sampler.specs.Fork.{neither, left, right, most}
use Rattle.light_sampler.specs.Sampler.{from_root, leaf_of, from_leaf}
use Rattle.light_sampler.specs.AsCoded.Turns.{by_prepared, leaf_found}
use Rattle.light_sampler.specs.Walks.{Walked, ended, after_check, Weighing, by_query, turn, taken}
use Rattle.light_sampler.specs.Walks.{onward, descend, nought, part, rise, risen, upward, ascend}

-- a node stands within the words
pub node-within : (ws : List ℕ) (i : ℕ) {n : LightBVHNode} → given n ≡ node_at ws i → i < length ws / node_words
node-within ws i e = go (ltb i (length ws / node_words)) refl
  where
    go : (b : Bool) → ltb i (length ws / node_words) ≡ b → i < length ws / node_words
    go true t = ltb-true i (length ws / node_words) t
    go false t = absurd (not-both (sym e) (node_at-past ws i (ltb-false i (length ws / node_words) t)))

-- no node is refusal 12
unknown : (ws : List ℕ) (i : ℕ) {k : ℕ} → refused k ≡ node_at ws i → 12 ≡ k
unfolding node_at node_of
unknown ws i {k} e =
    there (leb (node_place (suc i)) (length ws)) (eqb (kind_of (get_or ws (node_place i) 0)) 1)
    (eqb (kind_of (get_or ws (node_place i) 0)) 2) _ _ e
  where
    there : (fits is_leaf is_interior : Bool) (x y : LightBVHNode)
        → refused k ≡ cond fits (cond is_leaf (given x) (cond is_interior (given y) (refused 12))) (refused 12) → 12 ≡ k
    there true true b x y e = absurd (not-both refl (sym e))
    there true false true x y e = absurd (not-both refl (sym e))
    there true false false x y e = sym (refused_injective e)
    there false a b x y e = sym (refused_injective e)

-- a walk behind a check
module _ {A B : Type 0} (walk : A → Walked B) {check : Answer A} where
  pub check-given : {a : A} → given a ≡ check → (after_check check walk).outcome ≡ (walk a).outcome
  check-given e = ap (λ (x : Answer A). (after_check x walk).outcome) (sym e)

  pub check-refused : {n : ℕ} → refused n ≡ check → (after_check check walk).outcome ≡ refused n
  check-refused e = ap (λ (x : Answer A). (after_check x walk).outcome) (sym e)

-- a walk, by what its check answered
pub ruleset checks = (check-given, check-refused)

-- ---- the leaf that a walk up begins at: none is chance 0

module _ (ws : List ℕ) (q : Query) (n : ℕ) (table : List ℕ) (handle : ℕ) where
  pub from-none : None ≡ leaf_found table handle → (from_leaf ws q (leaf_of table handle) n).outcome ≡ given zerof
  unfolding leaf_found from_leaf
  from-none e = go (eqb (leaf_of table handle) invalid_index) (leaf_of table handle) e
    where
      go : (b : Bool) (place : ℕ) → None ≡ cond b None (Some place) →
          (cond b (ended (given zerof)) (ascend ws q n place onef)).outcome ≡ given zerof
      go true place e = refl
      go false place e = cc

  pub from-some : {i : ℕ} → Some i ≡ leaf_found table handle →
      (from_leaf ws q (leaf_of table handle) n).outcome ≡ (ascend ws q n i onef).outcome
  unfolding leaf_found from_leaf
  from-some {i} e = go (eqb (leaf_of table handle) invalid_index) (leaf_of table handle) e
    where
      go : (b : Bool) (place : ℕ) → Some i ≡ cond b None (Some place) →
          (cond b (ended (given zerof)) (ascend ws q n place onef)).outcome ≡ (ascend ws q n i onef).outcome
      go true place e = cc
      go false place e = cc

-- a chance by name, by what its check answered and where its light's leaf is
pub ruleset leaf_checks = (check-given, check-refused, from-none, from-some)

-- ---- the query that is held

by-held : (h : Prepared) (q : Query) → h ≡ prepared q → by_query q ≡ by_prepared h
by-held h q e = λ i b. sym (weigh-prepared b h q e) i

module _ (ws : List ℕ) (h : Prepared) (q : Query) (held : h ≡ prepared q) where
  pub turn-held : (i r : ℕ) (u : Float) → turn ws (by_query q) i r u ≡ turn ws (by_prepared h) i r u
  turn-held i r u = ap (λ (by : Weighing). turn ws by i r u) (by-held h q held)

  pub rise-held : (i p : ℕ) → rise ws (by_query q) i p ≡ rise ws (by_prepared h) i p
  rise-held i p = ap (λ (by : Weighing). rise ws by i p) (by-held h q held)

-- ---- down

pub descend-spent : (ws : List ℕ) (q : Query) (i : ℕ) (pmf u : Float) →
    (descend ws q 0 i pmf u).outcome ≡ refused 12
unfolding descend
descend-spent ws q i pmf u = refl

module _ (ws : List ℕ) (q : Query) (n i : ℕ) (pmf u : Float) where
  pub descend-leaf : {h p : ℕ} → given (leaf h p) ≡ node_at ws i →
      (descend ws q (suc n) i pmf u).outcome ≡ given (some (h, pmf))
  unfolding descend onward
  descend-leaf e = rw (← e)

  pub descend_unknown : {k : ℕ} → refused k ≡ node_at ws i → (descend ws q (suc n) i pmf u).outcome ≡ refused k
  unfolding descend onward
  descend_unknown e = rw (← e)

  module _ {l r p : ℕ} {h : Prepared} (stands : given (interior l r p) ≡ node_at ws i) (held : h ≡ prepared q) where
    pub descend-refused : {k : ℕ} → refused k ≡ turn ws (by_prepared h) i r u →
        (descend ws q (suc n) i pmf u).outcome ≡ refused k
    unfolding descend onward taken
    descend-refused e = rw (← stands, turn-held ws h q held i r u, ← e)

    pub descend-neither : given neither ≡ turn ws (by_prepared h) i r u →
        (descend ws q (suc n) i pmf u).outcome ≡ given none
    unfolding descend onward taken
    descend-neither e = rw (← stands, turn-held ws h q held i r u, ← e)

    pub descend-left : {s v : Float} → given (left s v) ≡ turn ws (by_prepared h) i r u →
        (descend ws q (suc n) i pmf u).outcome ≡ (descend ws q n (i + 1) (pmf ⊗ s) v).outcome
    unfolding descend onward taken
    descend-left e = rw (← stands, turn-held ws h q held i r u, ← e)

    pub descend-right : {s v : Float} → given (right s v) ≡ turn ws (by_prepared h) i r u →
        (descend ws q (suc n) i pmf u).outcome ≡ (descend ws q n r (pmf ⊗ s) v).outcome
    unfolding descend onward taken
    descend-right e = rw (← stands, turn-held ws h q held i r u, ← e)

-- from the root, where there are nodes
pub from-root : (ws : List ℕ) (q : Query) (u : Float) (n : ℕ) → (n ≡ 0 → ⊥) →
    (from_root ws q u n).outcome ≡ (descend ws q n 0 onef (fmin u most)).outcome
unfolding from_root
from-root ws q u zero h = absurd (h refl)
from-root ws q u (suc n) h = refl

-- ---- up

-- a node that is not there is refusal 12, however many may still be entered
pub ascend_unknown : (ws : List ℕ) (q : Query) (n i : ℕ) (pmf : Float) {k : ℕ} → refused k ≡ node_at ws i →
    (ascend ws q n i pmf).outcome ≡ refused k
unfolding ascend upward
ascend_unknown ws q zero i pmf e = ap refused (unknown ws i e)
ascend_unknown ws q (suc n) i pmf e = rw (← e)

pub ascend-spent : (ws : List ℕ) (q : Query) (i : ℕ) (pmf : Float) → (ascend ws q 0 i pmf).outcome ≡ refused 12
unfolding ascend
ascend-spent ws q i pmf = refl

module _ (ws : List ℕ) (q : Query) (n i : ℕ) (pmf : Float) {here : LightBVHNode} {p : ℕ}
    (stands : given here ≡ node_at ws i) (is : p ≡ parent here) where
  pub ascend-root : p ≡ invalid_index → (ascend ws q (suc n) i pmf).outcome ≡ given pmf
  unfolding ascend upward
  ascend-root e = rw (← stands, ← is, eq-eqb p invalid_index e)

  module _ {h : Prepared} (held : h ≡ prepared q) (inner : p ≡ invalid_index → ⊥) where
    ascend-on : (ascend ws q (suc n) i pmf).outcome
        ≡ (risen p pmf (λ (j : ℕ) (c : Float). ascend ws q n j c) (rise ws (by_prepared h) i p)).outcome
    unfolding ascend upward
    ascend-on = rw (← stands, ← is, ne_eqb p invalid_index inner, rise-held ws h q held i p)

    pub ascend-refused : {k : ℕ} → refused k ≡ rise ws (by_prepared h) i p →
        (ascend ws q (suc n) i pmf).outcome ≡ refused k
    unfolding risen
    ascend-refused e = ascend-on ∙ rw (← e)

    pub ascend-nought : given nought ≡ rise ws (by_prepared h) i p → (ascend ws q (suc n) i pmf).outcome ≡ given zerof
    unfolding risen
    ascend-nought e = ascend-on ∙ rw (← e)

    pub ascend-part : {s : Float} → given (part s) ≡ rise ws (by_prepared h) i p →
        (ascend ws q (suc n) i pmf).outcome ≡ (ascend ws q n p (pmf ⊗ s)).outcome
    unfolding risen
    ascend-part e = ascend-on ∙ rw (← e)

    -- the step to a parent that is not there
    pub ascend-past : {k : ℕ} → refused k ≡ node_at ws p → (ascend ws q (suc n) i pmf).outcome ≡ refused k
    unfolding rise ◌then◌
    ascend-past e = ascend-refused (rw (← e))
