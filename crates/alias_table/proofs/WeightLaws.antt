-- Weights and their sums: which weight ends the pass, both sums on the way and at its end, and the weights that are
-- played. Assumes nothing.
use Prim.Native.Nat.{ℕ, ◌+◌, ◌≤◌, ◌<◌}
use Rattle.std.specs.Prelude.{Option, Some, None}
use mathlib.Core.Path.{◌≡◌, refl, sym, subst, ◌∙◌}
use mathlib.Core.Bool.{Bool, true, false, cond, not, or-true}
use mathlib.Core.List.{List, ◌∷◌, map}
use native.Mathlib.Numerals.{add-one}
use native.Mathlib.Omega.{arith}
use lib.Dec.{T}
use lib.Ieee.{Float, nan, inf, fin, binary32, binary64, add, lt}
use lib.Ieee.Scale.{finite}
use Rattle.std.specs.Float.{float_is_finite}
use lib.ListN.{length, get_or, drop, length-map, length-replicate, get_or-map, get_or-replicate, drop_of_length-le}
use lib.Seq.{drop-cons}
use Rattle.ieee.specs.Single.{single, zerof, onef}
use Rattle.alias_table.specs.AliasTable.{bad, any_bad, sum_from}
use Rattle.alias_table.specs.AsCoded.Stacks.{sums_from, sums_of, weighted}
use Rattle.alias_table.specs.declared.Sums.{Sums}

-- ---- a bad weight

pub bad_infinite : (w : Float) → false ≡ float_is_finite w → bad w ≡ true
unfolding float_is_finite
bad_infinite nan h = refl
bad_infinite (inf s) h = refl
bad_infinite (fin s m e) h = absurd (subst T (sym h) tt)

pub bad-above : (w : Float) → lt w (inf false) ≡ false → bad w ≡ true
unfolding lt
bad-above nan h = refl
bad-above (inf s) h = refl
bad-above (fin s m e) h = absurd (subst T h tt)

pub bad-below : (w : Float) → lt w zerof ≡ true → bad w ≡ true
bad-below w h = rw h (or-true (not (finite w)))

good-finite : (w : Float) → true ≡ float_is_finite w → lt w zerof ≡ false → bad w ≡ false
unfolding float_is_finite
good-finite nan h k = absurd (subst T h tt)
good-finite (inf s) h k = absurd (subst T h tt)
good-finite (fin s m e) h k = rw k

-- ---- the pass

-- the sums of the first i weights go on to the sums of all
pub record Summing (words : List ℕ) (i : ℕ) (s d : Float) : Type 0 where
  pub within : i ≤ length words
  pub then : sums_from s d (drop i (map single words)) ≡ sums_of (map single words)

module _ {words : List ℕ} {i : ℕ} {s d : Float} (g : Summing words i s d) where
  module _ {x : Float} (h : i < length words) (is : x ≡ single (get_or words i 0)) where
    from : drop i (map single words) ≡ x ∷ drop (i + 1) (map single words)
    from = drop-cons (map single words) i zerof (rw length-map h) ∙ rw (add-one, is, ← get_or-map single words i 0)

    pub sums_next : true ≡ float_is_finite x → lt x zerof ≡ false →
        Summing words (i + 1) (add binary32 s x) (add binary64 d x)
    unfolding sums_from any_bad sum_from
    sums_next a b = record { within = omega arith; then = rw (from, good-finite x a b) at g.then }

    pub sums_stop : bad x ≡ true → None ≡ sums_of (map single words)
    unfolding sums_from any_bad
    sums_stop b = rw (from, b) at g.then

  pub sums-all : length words ≤ i → Some (record { single = s; double = d }) ≡ sums_of (map single words)
  unfolding sums_from any_bad sum_from
  sums-all h = rw (drop_of_length-le (map single words) {i = i} (rw length-map h)) at g.then

-- ---- what the sums say

pub record Summed (ws : List Float) (sums : Sums) : Type 0 where
  pub good : any_bad ws ≡ false
  pub single-sum : sum_from binary32 zerof ws ≡ sums.single
  pub double-sum : sum_from binary64 zerof ws ≡ sums.double

pub sums-are : (ws : List Float) (sums : Sums) → Some sums ≡ sums_of ws → Summed ws sums
unfolding sums_from
sums-are ws sums e = go (any_bad ws) refl e
  where
    go : (b : Bool) → any_bad ws ≡ b → Some sums ≡ cond b None
        (Some (record { single = sum_from binary32 zerof ws; double = sum_from binary64 zerof ws })) → Summed ws sums
    go true a h = cc
    go false a h = record { good = a; single-sum = cc; double-sum = cc }

pub sums_refuse : (ws : List Float) → None ≡ sums_of ws → any_bad ws ≡ true
unfolding sums_from
sums_refuse ws e = go (any_bad ws) e
  where
    go : (b : Bool) → ◌≡◌ {A = Option Sums} None (cond b None
        (Some (record { single = sum_from binary32 zerof ws; double = sum_from binary64 zerof ws }))) → b ≡ true
    go true h = refl
    go false h = cc

-- ---- the weights that are played

pub weighted-length : (flat : Bool) (words : List ℕ) → length (weighted flat words) ≡ length words
unfolding weighted
weighted-length true words = length-replicate (length words) onef
weighted-length false words = length-map words single

-- each by its word
pub weighted-at : (flat : Bool) (words : List ℕ) (i : ℕ) → i < length words
    → cond flat onef (single (get_or words i 0)) ≡ get_or (weighted flat words) i zerof
unfolding weighted
weighted-at true words i h = sym (get_or-replicate (length words) i onef zerof h)
weighted-at false words i h = sym (get_or-map single words i 0)
