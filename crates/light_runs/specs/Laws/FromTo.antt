-- A property of the u from 0 to 1 that has no gap holds from one float to another, or of none (`from-to`). The u are
-- the values of the words 0 to 3f800000, in their order, and -0, which compares as 0; so the two floats are the values
-- of the least and the greatest such word. Assumes nothing.
use Rattle.std.specs.Prelude.{ℕ, zero, suc, ◌*◌, ◌≤◌, ◌<◌, ◌≡◌, refl, Bool, true, false, ◌⊎◌, ◌↔◌, pos, Float}
use Rattle.std.proofs.Common.{zero-le, sym, inl, inr, le_refl as le_same, lt_of_le_of_lt, lt_of_not-le}
use Rattle.std.proofs.Common.{eq-or-lt_of_le, le_of_suc-le-suc, arith, lit<}
use Rattle.std.proofs.Math.Path.{subst}
use Rattle.std.proofs.Math.Decide.{dec_le}
use Rattle.std.proofs.Math.Dec.{T}
use Rattle.std.specs.Float.Ieee.{binary32, hid, ones, to_bits, of_bits, le, is_nan}
use Rattle.std.specs.Float.{nan, inf, fin}
use Rattle.std.specs.Float.Ieee.Bits.{of_bits-to_bits}
use Rattle.ieee.specs.Single.{single, onef}
use Rattle.ieee.specs.Laws.FormatLaws.{single-fits}
use Rattle.ieee.specs.Laws.OrderLaws.{le-fin, le_refl, le_trans}
use Rattle.ieee.specs.Laws.WordOrder.{bits_mono, finite-word}
use Rattle.light_runs.specs.DemandWords.{FromZeroToOne, InOrder}

-- ---- the first and the last number up to n with a property

record Ends (Q : ℕ → Bool) (n : ℕ) : Type 0 where
  first : ℕ
  last : ℕ
  first_has : T (Q first)
  last_has : T (Q last)
  first-le : first ≤ n
  last-le : last ≤ n
  between : (w : ℕ) → w ≤ n → T (Q w) → (first ≤ w) × (w ≤ last)

abbrev None : (ℕ → Bool) → ℕ → Type 0
None Q n = (w : ℕ) → w ≤ n → T (Q w) → ⊥

ends : (Q : ℕ → Bool) (n : ℕ) → None Q n ⊎ Ends Q n
ends Q zero = go (Q 0) refl
  where
    go : (b : Bool) → Q 0 ≡ b → None Q 0 ⊎ Ends Q 0
    go true e =
        let t : T (Q 0) = subst T (sym e) tt in
        inr (record {
          first = 0;
          last = 0;
          first_has = t;
          last_has = t;
          first-le = zero-le;
          last-le = zero-le;
          between = λ (w : ℕ) (h : w ≤ 0) (k : T (Q w)). (zero-le, h);
        })
    go false e = inl (λ (w : ℕ) (h : w ≤ 0) (k : T (Q w)). subst T e (subst (λ (z : ℕ). T (Q z)) (omega arith) k))
ends Q (suc n) = go (Q (suc n)) refl (ends Q n)
  where
    go : (b : Bool) → Q (suc n) ≡ b → None Q n ⊎ Ends Q n → None Q (suc n) ⊎ Ends Q (suc n)
    go true e (inl h) =
        let t : T (Q (suc n)) = subst T (sym e) tt in
        inr (record {
          first = suc n;
          last = suc n;
          first_has = t;
          last_has = t;
          first-le = le_same (suc n);
          last-le = le_same (suc n);
          between = λ (w : ℕ) (k : w ≤ suc n) (q : T (Q w)).
              elim (eq-or-lt_of_le k) [ inl z ↦ (omega arith, k) | inr l ↦ absurd (h w (le_of_suc-le-suc l) q) ];
        })
    go true e (inr r) =
        inr (record {
          first = r.first;
          last = suc n;
          first_has = r.first_has;
          last_has = subst T (sym e) tt;
          first-le = omega (arith, r.first-le);
          last-le = le_same (suc n);
          between = λ (w : ℕ) (k : w ≤ suc n) (q : T (Q w)).
              elim (eq-or-lt_of_le k) [
                | inl z ↦ (omega (arith, r.first-le), k)
                | inr l ↦
                    ((r.between w (le_of_suc-le-suc l) q).0, k)
              ];
        })
    go false e (inl h) = inl (λ (w : ℕ) (k : w ≤ suc n) (q : T (Q w)).
        elim (eq-or-lt_of_le k) [
          | inl z ↦ subst T e (subst (λ (m : ℕ). T (Q m)) z q)
          | inr l ↦ h w (le_of_suc-le-suc l)
              q
        ])
    go false e (inr r) =
        inr (record {
          first = r.first;
          last = r.last;
          first_has = r.first_has;
          last_has = r.last_has;
          first-le = omega (arith, r.first-le);
          last-le = omega (arith, r.last-le);
          between = λ (w : ℕ) (k : w ≤ suc n) (q : T (Q w)).
              elim (eq-or-lt_of_le k) [
                | inl z ↦ absurd (subst T e (subst (λ (m : ℕ). T (Q m)) z q))
                | inr l ↦ r.between
                    w (le_of_suc-le-suc l) q
              ];
        })

-- ---- the u from 0 to 1 are the values of the words up to 1's, but for the sign of 0

abbrev one_word : ℕ
one_word = 0x3f80_0000

below_infinity : (w : ℕ) → w ≤ one_word → w < ones binary32 * hid binary32
below_infinity w h = lt_of_le_of_lt h (lit< tt)

word_in : (w : ℕ) → w ≤ one_word → FromZeroToOne (single w)
word_in w h = record {
  fits = single-fits w;
  from_zero = bits_mono binary32 0 w zero-le (below_infinity w h);
  to_one = bits_mono binary32 w one_word h (lit< tt);
}

-- a word whose value is u, as floats compare
record WordOf (u : Float) : Type 0 where
  word : ℕ
  word-le : word ≤ one_word
  above : T (le u (single word))
  below : T (le (single word) u)

-- the word behind 1's has a value above 1
past_one : T (le (single (suc one_word)) onef) → ⊥
unfolding of_bits le
past_one h = h

word_of : (u : Float) → FromZeroToOne u → WordOf u
unfolding le of_bits
word_of nan F = absurd F.to_one
word_of (inf true) F = absurd F.from_zero
word_of (inf false) F = absurd F.to_one
word_of (fin true m e) F =
    record {
      word = 0;
      word-le = zero-le;
      above = (le-fin true m e false 0 (pos 0)).1 (omega arith);
      below = F.from_zero;
    }
word_of (fin false m e) F =
    let u = fin false m e in
    let w = to_bits binary32 u in
    let back : single w ≡ u = of_bits-to_bits binary32 u F.fits in
    let own : T (le u u) = le_refl u (unfold is_nan in tt) in
    record {
      word = w;
      word-le = elim (dec_le w one_word) [
        | yes l ↦ l
        | no n ↦ absurd (past_one (le_trans (single (suc one_word)) (single w) onef
            (bits_mono binary32 (suc one_word) w (lt_of_not-le n) (finite-word binary32 m e F.fits))
            (subst (λ (x : Float). T (le x onef)) (sym back) F.to_one)))
      ];
      above = subst (λ (x : Float). T (le u x)) (sym back) own;
      below = subst (λ (x : Float). T (le x u)) (sym back) own;
    }

-- ---- a property with no gap

module _ (P : Float → Bool) (no_gap : (u v w : Float) → InOrder u v → InOrder v w → T (P u) → T (P w) → T (P v)) where
  in_order : (u v : Float) → FromZeroToOne u → FromZeroToOne v → T (le u v) → InOrder u v
  in_order u v F G h = record { first = F; second = G; order = h }

  -- it holds of both or of neither of two u that compare equal
  equals : (u v : Float) → FromZeroToOne u → FromZeroToOne v → T (le u v) → T (le v u) → T (P u) → T (P v)
  equals u v F G h k p = no_gap u v u (in_order u v F G h) (in_order v u G F k) p p

  by-words : None (λ (w : ℕ). P (single w)) one_word ⊎ Ends (λ (w : ℕ). P (single w)) one_word
      → ((u : Float) → FromZeroToOne u → T (P u) → ⊥)
      ⊎ ((a : Float) × (z : Float) × FromZeroToOne a × FromZeroToOne z × T (P a) × T (P z)
      × ((u : Float) → FromZeroToOne u → T (P u) ↔ (T (le a u) × T (le u z))))
  by-words (inl n) = inl (λ (u : Float) (F : FromZeroToOne u) (p : T (P u)).
      let o = word_of u F in
      n o.word o.word-le (equals u (single o.word) F (word_in o.word o.word-le) o.above o.below p))
  by-words (inr r) =
      let a = single r.first in
      let z = single r.last in
      let A = word_in r.first r.first-le in
      let Z = word_in r.last r.last-le in
      inr (
        a,
        z,
        A,
        Z,
        r.first_has,
        r.last_has,
        λ (u : Float) (F : FromZeroToOne u). (
          λ (p : T (P u)).
              let o = word_of u F in
              let b =
              r.between o.word o.word-le
              (equals u (single o.word) F (word_in o.word o.word-le) o.above o.below p) in (
                le_trans a (single o.word) u
                    (bits_mono binary32 r.first o.word b.0 (below_infinity o.word o.word-le)) o.below,
                le_trans u (single o.word) z o.above
                    (bits_mono binary32 o.word r.last b.1 (below_infinity r.last r.last-le)),
              ),
          λ (h : T (le a u) × T (le u z)). no_gap a u z (in_order a u A F h.0) (in_order u z F Z h.1)
              r.first_has r.last_has,
        ),
      )

pub from-to : (P : Float → Bool)
    → ((u v w : Float) → InOrder u v → InOrder v w → T (P u) → T (P w) → T (P v))
    → ((u : Float) → FromZeroToOne u → T (P u) → ⊥)
    ⊎ ((a : Float) × (z : Float) × FromZeroToOne a × FromZeroToOne z × T (P a) × T (P z)
    × ((u : Float) → FromZeroToOne u → T (P u) ↔ (T (le a u) × T (le u z))))
from-to P no_gap = by-words P no_gap (ends (λ (w : ℕ). P (single w)) one_word)
