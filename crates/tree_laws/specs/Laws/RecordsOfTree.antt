-- The records of a tree. A leaf's passes its check and has power; a fork's is the join of its children's, which pass
-- their checks, and has power and a box that holds their boxes; all are of floats of the format, so that a node's words
-- have its record whole (`Sound`). Such is every tree that is built of handles whose records pass their checks and have
-- power (`built-sound`), as those of the powered lamps do (`bounded-passes`). Assumes nothing.
use Rattle.std.specs.Prelude.{ℕ, zero, suc, ◌≡◌, refl, Bool, true, false, cond, List, [], ◌∷◌, T}
use Rattle.std.proofs.Common.{subst, sym}
use Rattle.std.specs.Float.Ieee.{lt}
use Rattle.ieee.specs.Single.{zerof}
use Rattle.words.specs.Answers.{given}
use Rattle.words.proofs.AnswerLaws.{then-given}
use Rattle.light_bounds.specs.Bounds.{Holds}
use Rattle.light_bounds.proofs.BoundsLaws.{union-given, union-power, union_holds}
use Rattle.light_bounds.specs.LightBounds.{validate, join, union}
use Rattle.light_rows.specs.Laws.RecordLaws.{RecordFits, record-fits-read, join-fits}
use Rattle.light_bounds.specs.declared.light_bounds.LightBounds.{LightBounds}
use Rattle.light_rows.specs.Block.{record_place}
use Rattle.light_rows.specs.Tree.{Tree, leaf, fork, bounds}
use Rattle.light_split.specs.Lights.{light_of}
use Rattle.light_bvh.specs.Build.{is_powered, bounded_handles, validated}
use Rattle.light_bvh.specs.Subtree.{build_subtree}
use Rattle.tree_laws.specs.Laws.BuiltTrees.{built_holds}
use Rattle.light_bvh.proofs.RowsLaws.{all-halves}
use Rattle.words.proofs.ListLaws.{All, all_append}

pub record SoundLeaf (b : LightBounds) : Type 0 where
  pub passes : validate b ≡ given tt
  pub power : T (lt zerof b.phi)
  pub fits : RecordFits b

-- over the records of two children
pub record SoundFork (b l r : LightBounds) : Type 0 where
  pub left-passes : validate l ≡ given tt
  pub right-passes : validate r ≡ given tt
  pub is : b ≡ join l r
  pub power : T (lt zerof b.phi)
  pub fits : RecordFits b
  pub holds-left : Holds b.bounds l.bounds
  pub holds-right : Holds b.bounds r.bounds

-- of every node
abbrev pub Sound : Tree → Type 0
Sound (leaf h b) = SoundLeaf b
Sound (fork b l r) = SoundFork b (bounds l) (bounds r) × Sound l × Sound r

pub sound-power : (t : Tree) → Sound t → T (lt zerof (bounds t).phi)
sound-power (leaf h b) s = s.power
sound-power (fork b l r) s = s.0.power

pub sound-fits : (t : Tree) → Sound t → RecordFits (bounds t)
sound-fits (leaf h b) s = s.fits
sound-fits (fork b l r) s = s.0.fits

-- a union that is given, of records with power
pub union-sound : (l r b : LightBounds) → T (lt zerof l.phi) → T (lt zerof r.phi) → RecordFits l → RecordFits r
    → union l r ≡ given b → SoundFork b l r
union-sound l r b p q f g e =
    let (v, w, is) = union-given l r b e in
    let holds = union_holds l r v w p q in
    record {
      left-passes = v;
      right-passes = w;
      is = is;
      power = rw is (union-power l r f.phi p q);
      fits = rw is (join-fits l r f g);
      holds-left = rw is holds.0;
      holds-right = rw is holds.1;
    }

-- ---- a tree that is built

-- a row's record passes its check and has power
abbrev pub Passes : List ℕ → ℕ → Type 0
Passes ws h = (validate (light_of ws h) ≡ given tt) × T (lt zerof (light_of ws h).phi)

pub built-sound : (ws : List ℕ) (n : ℕ) (hs : List ℕ) (t : Tree) → build_subtree ws n hs ≡ given t → All (Passes ws) hs
    → Sound t
built-sound ws n hs t e =
    built_holds ws (λ (hs : List ℕ) (t : Tree). All (Passes ws) hs → Sound t)
    (λ h each. record { passes = each.0.0; power = each.0.1; fits = record-fits-read ws (record_place h) })
    (λ hs s l r b two e holds-l holds-r each.
    let halves = all-halves (Passes ws) ws hs s each in
    let left = holds-l halves.0 in
    let right = holds-r halves.1 in (
      union-sound (bounds l) (bounds r) b (sound-power l left) (sound-power r right) (sound-fits l left)
          (sound-fits r right) e,
      left,
      right,
    )) n hs t e

-- ---- the powered lamps of rows that are checked

pub bounded-passes : (ws : List ℕ) (m : ℕ) → validated ws m ≡ given tt → All (Passes ws) (bounded_handles ws m)
unfolding validated bounded_handles
bounded-passes ws zero e = tt
bounded-passes ws (suc n) e =
    let (_, before, last) = then-given (validated ws n) (λ _. validate (light_of ws n)) tt e in
    all_append (Passes ws) (bounded_handles ws n) (cond (is_powered ws n) (n ∷ []) []) (bounded-passes ws n before)
    (one last (is_powered ws n) refl)
  where
    one : validate (light_of ws n) ≡ given tt → (b : Bool) → is_powered ws n ≡ b → All (Passes ws) (cond b (n ∷ []) [])
    one v true p = ((v, subst T (sym p) tt), tt)
    one v false p = tt

pub bounded-sound : (ws : List ℕ) (n m : ℕ) (t : Tree) → validated ws m ≡ given tt
    → build_subtree ws n (bounded_handles ws m) ≡ given t → Sound t
bounded-sound ws n m t checked e = built-sound ws n (bounded_handles ws m) t e (bounded-passes ws m checked)
