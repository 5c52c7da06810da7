-- The leaves of a tree that is built: as many as its stretch has handles, in 2 k - 1 nodes (`built-leaves`,
-- `built-words`), and, where the rows are labelled by their places, each handle a leaf as often as it stands in the
-- stretch, with its row's record (`built-count`, `built-records`). So of a block's powered lamps each is a leaf once,
-- and no other number is one (`tree-count`, `powered-once`, `others_never`). Assumes nothing.
use Rattle.std.specs.Prelude.{ℕ, zero, suc, ◌+◌, ◌*◌, ◌-◌, ◌<◌, ◌≡◌, refl, Bool, true, false, cond, ◌&&◌, List, []}
use Rattle.std.specs.Prelude.{◌∷◌, T, eqb, ltb, length}
use Rattle.std.proofs.Common.{ap, sym, ◌∙◌, arith, ltb-true, ltb-false, lt-ltb, le-ltb, eqb-true, eq-eqb}
use Rattle.std.proofs.lemmas.Bool.{eqb-false}
use Rattle.words.specs.Answers.{given}
use Rattle.light_bounds.specs.declared.light_bounds.LightBounds.{LightBounds}
use Rattle.light_rows.specs.Block.{block_handles}
use Rattle.light_rows.specs.Nodes.{node_words, invalid_index}
use Rattle.light_rows.specs.Tree.{Tree, leaf, fork, leaves, leaf_handles, tree_words}
use Rattle.light_rows.specs.Laws.TreeLaws.{leaves-pos, length-flatten}
use Rattle.light_split.specs.Lights.{light_of}
use Rattle.light_bvh.specs.Build.{is_powered, bounded_handles}
use Rattle.light_bvh.specs.Subtree.{label_of, build_subtree}
use Rattle.tree_laws.specs.Laws.BuiltTrees.{built_holds}
use Rattle.light_bvh.proofs.SubtreeLaws.{build-size}
use Rattle.light_bvh.proofs.RowsLaws.{label_is, all-halves, bounded-below}
use Rattle.words.proofs.ListLaws.{All, all_map}
use Rattle.tree_laws.specs.Laws.StretchLaws.{halves-count}
use Rattle.words.proofs.OrderedLists.{often-append}
use Rattle.words.specs.Lists.{once, often}

-- ---- as many

pub built-leaves : (ws : List ℕ) (n : ℕ) (hs : List ℕ) (t : Tree) → build_subtree ws n hs ≡ given t
    → leaves t ≡ length hs
built-leaves = build-size

pub built-words : (ws : List ℕ) (n : ℕ) (hs : List ℕ) (t : Tree) → build_subtree ws n hs ≡ given t
    → length (tree_words t) ≡ node_words * (2 * length hs - 1)
built-words ws n hs t e = omega (arith, built-leaves ws n hs t e, leaves-pos t, length-flatten 0 invalid_index t)

-- ---- each as often as in the stretch

-- a row is labelled by its place
abbrev pub Labelled : List ℕ → ℕ → Type 0
Labelled ws h = label_of ws h ≡ h

pub built-count : (ws : List ℕ) (n : ℕ) (hs : List ℕ) (t : Tree) → build_subtree ws n hs ≡ given t
    → All (Labelled ws) hs
    → (x : ℕ) → often x (leaf_handles t) ≡ often x hs
unfolding leaf_handles often
built-count ws n hs t e =
    built_holds ws (λ (hs : List ℕ) (t : Tree). All (Labelled ws) hs → (x : ℕ) → often x (leaf_handles t) ≡ often x hs)
    (λ h each x. ap (λ (y : ℕ). once x y + 0) each.0)
    (λ hs s l r b two e holds-l holds-r each x.
    let halves = all-halves (Labelled ws) ws hs s each in
    often-append x (leaf_handles l) (leaf_handles r) ∙ omega
    (arith, holds-l halves.0 x, holds-r halves.1 x, halves-count ws hs s x)) n hs t e

-- each leaf's record is its label's
abbrev pub LeavesBy : (ℕ → LightBounds) → Tree → Type 0
LeavesBy f (leaf h b) = b ≡ f h
LeavesBy f (fork b l r) = LeavesBy f l × LeavesBy f r

pub built-records : (ws : List ℕ) (n : ℕ) (hs : List ℕ) (t : Tree) → build_subtree ws n hs ≡ given t
    → All (Labelled ws) hs → LeavesBy (light_of ws) t
built-records ws n hs t e =
    built_holds ws (λ (hs : List ℕ) (t : Tree). All (Labelled ws) hs → LeavesBy (light_of ws) t)
    (λ h each. ap (λ (k : ℕ). light_of ws k) (sym each.0))
    (λ hs s l r b two e holds-l holds-r each.
    let halves = all-halves (Labelled ws) ws hs s each in (holds-l halves.0, holds-r halves.1)) n hs t e

-- ---- the powered lamps

ltb_next : (x n : ℕ) → (x ≡ n → ⊥) → ltb x (suc n) ≡ ltb x n
ltb_next x n other = go (ltb x n) refl
  where
    go : (b : Bool) → ltb x n ≡ b → ltb x (suc n) ≡ b
    go true e = lt-ltb x (suc n) (omega (arith, ltb-true x n e))
    go false e = le-ltb x (suc n) (omega (arith, ltb-false x n e))

pub bounded-count : (ws : List ℕ) (m x : ℕ) → often x (bounded_handles ws m) ≡ cond (ltb x m && is_powered ws x) 1 0
unfolding bounded_handles often
bounded-count ws zero x = rw (le-ltb x 0 (omega arith))
bounded-count ws (suc n) x =
    often-append x (bounded_handles ws n) (cond (is_powered ws n) (n ∷ []) []) ∙ rw (bounded-count ws n x)
    (go (eqb x n) refl)
  where
    same : (b : Bool) → 0 + often n (cond b (n ∷ []) []) ≡ cond b 1 0
    same true = rw (eq-eqb n n refl)
    same false = refl

    other : (k : ℕ) (b : Bool) → eqb x n ≡ false → k + often x (cond b (n ∷ []) []) ≡ k
    other k true e = rw e (omega arith)
    other k false e = omega arith

    go : (b : Bool) → eqb x n ≡ b
        → cond (ltb x n && is_powered ws x) 1 0 + often x (cond (is_powered ws n) (n ∷ []) [])
        ≡ cond (ltb x (suc n) && is_powered ws x) 1 0
    go true e = rw (eqb-true x n e, le-ltb n n (omega arith), lt-ltb n (suc n) (omega arith)) (same (is_powered ws n))
    go false e = rw (ltb_next x n (eqb-false x n e)) (other (cond (ltb x n && is_powered ws x) 1 0) (is_powered ws n) e)

-- ---- the labels of a block

pub block-labelled : (ws : List ℕ) (m h : ℕ) → block_handles ws ≡ given m → h < m → Labelled ws h
block-labelled ws m h e l = label_is ws m e h l

pub bounded-labelled : (ws : List ℕ) (m : ℕ) → block_handles ws ≡ given m → All (Labelled ws) (bounded_handles ws m)
bounded-labelled ws m e =
    all_map (λ (h : ℕ) (l : h < m). block-labelled ws m h e l) (bounded_handles ws m) (bounded-below ws m)

-- ---- the tree of a block's powered lamps

module _ (ws : List ℕ) (n m : ℕ) (t : Tree) (block : block_handles ws ≡ given m)
    (built : build_subtree ws n (bounded_handles ws m) ≡ given t) where
  pub tree-count : (x : ℕ) → often x (leaf_handles t) ≡ cond (ltb x m && is_powered ws x) 1 0
  tree-count x = built-count ws n (bounded_handles ws m) t built (bounded-labelled ws m block) x ∙ bounded-count ws m x

  pub powered-once : (x : ℕ) → x < m → T (is_powered ws x) → often x (leaf_handles t) ≡ 1
  powered-once x l p = tree-count x ∙ rw (lt-ltb x m l) (go (is_powered ws x) p)
    where
      go : (b : Bool) → T b → ◌≡◌ {A = ℕ} (cond b 1 0) 1
      go true p = refl
      go false p = absurd p

  pub others_never : (x : ℕ) → (x < m → T (is_powered ws x) → ⊥) → often x (leaf_handles t) ≡ 0
  others_never x never = tree-count x ∙ go (ltb x m) (is_powered ws x) refl never
    where
      go : (a b : Bool) → ltb x m ≡ a → (x < m → T b → ⊥) → ◌≡◌ {A = ℕ} (cond (a && b) 1 0) 0
      go true true e never = absurd (never (ltb-true x m e) tt)
      go true false e never = refl
      go false b e never = refl
