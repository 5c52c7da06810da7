-- Laws of a lamp's bounds that its code uses. Assumes nothing.
use Prim.Native.Nat.{ℕ, zero, suc, ◌+◌, ◌-◌, ◌/◌, ◌≤◌, ◌<◌}
use mathlib.Core.Path.{◌≡◌, refl, ap, sym, subst, ◌∙◌}
use mathlib.Core.Bool.{Bool}
use mathlib.Core.List.{List, ◌++◌}
use native.Mathlib.Omega.{arith}
use lib.Ieee.{Float, of_bits, to_bits, of_int, span, climb, size, odd, units, round}
use lib.Ieee.{neg, sum, add, sub, mul, div, lt, eq, le}
use lib.ListN.{length, get_or, drop, length-append, get_or-append}
use lib.Seq.{drop-append_seam}
use Rattle.std.proofs.lemmas.List.{get_or-drop, length-drop}
use Rattle.ieee.specs.Choose.{fabs}
use Rattle.ieee.specs.Narrow.{narrow}
use Rattle.ieee.specs.Single.{single}
use Rattle.trig.specs.Series.{turns, series_step, series}
use Rattle.trig.specs.Trig.{cos}
use Rattle.words.proofs.AnswerLaws.{then_assoc}
use Rattle.words.specs.Answers.{Answer, given, refused, ◌then◌}
use Rattle.light_bounds.specs.declared.light_bounds.LightBounds.{LightBounds}
use Rattle.light_rows.specs.RecordWords.{vec_at}
use Rattle.lamps.specs.LampList.{triangle_words}
use Rattle.lamps.specs.LampBounds.{half_pi, triangle_at, triangle_record, join_next, union_from}

-- the cosine that points and triangles have, computed once
pub cos-half-pi : cos half_pi ≡ single 0xb33b_bd2e
unfolding of_bits to_bits of_int span climb size odd units round neg sum add sub mul div lt eq le fabs narrow turns
    series_step series cos
cos-half-pi = refl

module _ (emission scale : Float) (side : Bool) (ts : List ℕ) where
  -- no triangle is left
  pub union_from-end : (i n : ℕ) (result : Answer LightBounds) → n ≡ 0 →
      union_from emission scale side ts i n result ≡ result
  unfolding union_from
  union_from-end i n result e = rw e

  -- the first triangle's record as it is
  pub union_from-first : (n : ℕ) → 0 < n → union_from emission scale side ts 0 n (refused 9)
      ≡ triangle_record emission scale side (triangle_at ts 0) then λ current. union_from emission scale side ts
      triangle_words (n - 1) (given current)
  unfolding union_from ◌then◌
  union_from-first zero h = absurd (omega arith)
  union_from-first (suc k) h = let e : suc k - 1 ≡ k = omega arith in rw e

  -- a later one in a union
  pub union_from-next : (i n : ℕ) (r : LightBounds) → 0 < n → union_from emission scale side ts i n (given r)
      ≡ (triangle_record emission scale side (triangle_at ts i) then join_next (given r)) then λ s. union_from emission
      scale side ts (i + triangle_words)
      (n - 1) (given s)
  unfolding union_from
  union_from-next i zero r h = absurd (omega arith)
  union_from-next i (suc k) r h =
      let e : suc k - 1 ≡ k = omega arith in
      rw e (sym (then_assoc (triangle_record emission scale side (triangle_at ts i)) (join_next (given r))
      (λ s. union_from emission scale side ts (i + triangle_words) k (given s))))

-- a triangle is what its thirteen words say
triangle-words : (a b : List ℕ) (i j : ℕ) →
    ((k : ℕ) → k < triangle_words → get_or a (i + k) 0 ≡ get_or b (j + k) 0) → triangle_at a i ≡ triangle_at b j
unfolding vec_at
triangle-words a b i j h =
    let value : (n m k : ℕ) → n ≡ i + k → m ≡ j + k → k < 13 → single (get_or a n 0) ≡ single (get_or b m 0) =
    λ n m k e e' l. rw (e, e') (ap single (h k l)) in
    let at : (n m k : ℕ) → n ≡ i + k → m ≡ j + k → k < 11 → vec_at a n ≡ vec_at b m =
    λ n m k e e' l p. record {
      x = value n m k e e' (omega arith) p;
      y = value (n + 1) (m + 1) (k + 1) (omega arith) (omega arith) (omega arith) p;
      z = value (n + 2) (m + 2) (k + 2) (omega arith) (omega arith) (omega arith) p;
    } in
    λ p. record {
      a = at i j 0 (omega arith) (omega arith) (omega arith) p;
      b = at (i + 3) (j + 3) 3 refl refl (omega arith) p;
      c = at (i + 6) (j + 6) 6 refl refl (omega arith) p;
      area = value (i + 9) (j + 9) 9 refl refl (omega arith) p;
      geometric_normal = at (i + 10) (j + 10) 10 refl refl (omega arith) p;
    }

triangle_behind : (ts : List ℕ) (i : ℕ) → triangle_at ts (i + triangle_words) ≡ triangle_at (drop triangle_words ts) i
triangle_behind ts i =
    triangle-words ts (drop triangle_words ts) (i + triangle_words) i
    (λ k l. let e : i + triangle_words + k ≡ triangle_words + (i + k) = omega arith in
    rw e (sym (get_or-drop triangle_words ts (i + k) 0)))

module _ (emission scale : Float) (side : Bool) where
  -- the triangles of some words, in a union with what there is
  abbrev pub all_from : List ℕ → Answer LightBounds → Answer LightBounds
  all_from ts result = union_from emission scale side ts 0 (length ts / triangle_words) result

  -- no triangle is left
  pub all_from-end : (ts : List ℕ) (result : Answer LightBounds) → length ts < triangle_words →
      all_from ts result ≡ result
  unfolding union_from
  all_from-end ts result h = let e : length ts / 13 ≡ 0 = omega arith in rw e

  union_behind : (ts : List ℕ) (i n : ℕ) (result : Answer LightBounds) →
      union_from emission scale side ts (i + triangle_words) n result
      ≡ union_from emission scale side (drop triangle_words ts) i n result
  unfolding union_from
  union_behind ts i zero result = refl
  union_behind ts i (suc n) result =
      λ p. triangle_record emission scale side (triangle_behind ts i p) then λ current.
      join_next result current then λ r.
      union_behind ts (i + triangle_words) n (given r) p

  -- the first of them, then those behind it
  pub all_from-first : (ts : List ℕ) (result : Answer LightBounds) → triangle_words ≤ length ts → all_from ts result
      ≡ triangle_record emission scale side (triangle_at ts 0) then λ current.
      join_next result current then λ r. all_from (drop triangle_words ts) (given r)
  unfolding union_from
  all_from-first ts result h =
      let e : length ts / 13 ≡ suc (length (drop 13 ts) / 13) = omega (arith, length-drop 13 ts) in
      rw e (λ p. triangle_record emission scale side (triangle_at ts 0) then λ current.
      join_next result current then λ r.
      union_behind ts 0 (length (drop 13 ts) / 13) (given r) p)

  -- the same where the first thirteen words are cut off
  pub all_from-chunk : (ts words rest : List ℕ) (r : LightBounds) → ts ≡ words ++ rest →
      length words ≡ triangle_words
      → all_from ts (given r)
      ≡ (triangle_record emission scale side (triangle_at words 0) then join_next (given r)) then λ s.
      all_from rest (given s)
  all_from-chunk ts words rest r e n =
      let size : triangle_words ≤ length ts = omega (arith, ap length e, length-append words rest) in
      let front : triangle_at ts 0 ≡ triangle_at words 0 =
      triangle-words ts words 0 0 (λ k l. rw e (get_or-append words rest 0 (0 + k) (omega arith))) in
      let behind : drop triangle_words ts ≡ rest =
      ap (drop triangle_words) e
      ∙ subst (λ (k : ℕ). drop k (words ++ rest) ≡ rest) n (drop-append_seam words rest) in
      all_from-first ts (given r) size ∙ rw (front, behind)
      (sym (then_assoc (triangle_record emission scale side (triangle_at words 0)) (join_next (given r))
      (λ s. all_from rest (given s))))
