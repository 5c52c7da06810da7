-- Laws of the twelve buckets: the refusal of a union, one more record, one bucket more, and a float of its word.
-- Assumes nothing.
use Prim.Native.Nat.{ℕ, ◌+◌, ◌≤◌, ◌<◌}
use mathlib.Core.Path.{◌≡◌, refl, ap, subst, sym, ◌∙◌}
use mathlib.Core.Bool.{true}
use mathlib.Core.List.{List, ◌∷◌}
use native.Mathlib.Numerals.{add-one}
use lib.Dec.{T}
use lib.Ieee.{Float, binary32, fits, of_bits, of_int, to_bits}
use lib.IntN.{pos}
use lib.Ieee.Bits.{of_bits-to_bits}
use lib.ListN.{length, get_or, set, drop, drop_of_length-le}
use lib.Seq.{drop-cons}
use Rattle.std.specs.Prelude.{None, Some}
use Rattle.words.specs.Answers.{Answer, given, refused, ◌then◌}
use Rattle.words.proofs.AnswerLaws.{then_is, then-refused}
use Rattle.words.proofs.AnswerLaws.{Only, only-given, only-refused, only_then, only-number}
use Rattle.light_bounds.specs.LightBounds.{union, operand, validate}
use Rattle.light_bounds.specs.declared.bounds.Bounds3.{Bounds3}
use Rattle.light_bounds.specs.declared.light_bounds.LightBounds.{LightBounds}
use Rattle.light_split.specs.Buckets.{Bucket, join_to, fill_buckets, union_range}
use Rattle.light_split.specs.Lights.{light_of, bucket_of}

-- ---- a union refuses by 10 alone

ten-operand : (x : Answer (Unit {0})) → Only (λ (n : ℕ). n ≡ 10) (operand x)
ten-operand (given u) = only-given
ten-operand (refused n) = only-refused refl

ten-union : (a b : LightBounds) → Only (λ (n : ℕ). n ≡ 10) (union a b)
unfolding union
ten-union a b = only_then (ten-operand (validate a)) (λ _. only_then (ten-operand (validate b)) (λ _. only-given))

pub union-refused : (a b : LightBounds) (n : ℕ) → union a b ≡ refused n → union a b ≡ refused 10
union-refused a b n e = e ∙ ap refused (only-number (ten-union a b) e)

-- ---- one more

-- the record of the handle at a place, into its bucket
pub fill-next : (ws : List ℕ) (ends : Bounds3) (d : ℕ) (bs : List Bucket) (hs : List ℕ) (i : ℕ) → i < length hs
    → fill_buckets ws ends d bs (drop i hs)
    ≡ join_to (get_or bs (bucket_of ws ends d (get_or hs i 0)) None) (light_of ws (get_or hs i 0))
    then λ (b : Bucket). fill_buckets ws ends d (set bs (bucket_of ws ends d (get_or hs i 0)) b) (drop (i + 1) hs)
unfolding fill_buckets
fill-next ws ends d bs hs i h = rw (drop-cons hs i 0 h, add-one i)

pub fill_end : (ws : List ℕ) (ends : Bounds3) (d : ℕ) (bs : List Bucket) (hs : List ℕ) (i : ℕ) → length hs ≤ i
    → fill_buckets ws ends d bs (drop i hs) ≡ given bs
unfolding fill_buckets
fill_end ws ends d bs hs i h = rw (drop_of_length-le hs h)

-- the bucket at a place
pub union_next : (r : Bucket) (bs : List Bucket) (i : ℕ) → i < length bs →
    union_range r (drop i bs) ≡ union_range r (get_or bs i None ∷ drop (i + 1) bs)
union_next r bs i h = rw (drop-cons bs i None h, add-one i)

-- is joined, or left out where it is empty
pub union_some : (r : Bucket) (b : LightBounds) (bs : List Bucket) →
    union_range r (Some b ∷ bs) ≡ join_to r b then λ (r : Bucket). union_range r bs
unfolding union_range
union_some r b bs = refl

pub union_none : (r : Bucket) (bs : List Bucket) → union_range r (None ∷ bs) ≡ union_range r bs
unfolding union_range
union_none r bs = refl

pub union_end : (r : Bucket) (bs : List Bucket) (i : ℕ) → length bs ≤ i → union_range r (drop i bs) ≡ given r
unfolding union_range
union_end r bs i h = rw (drop_of_length-le bs h)

pub ruleset fills = (fill-next, fill_end, then_is, then-refused)

pub ruleset joins = (union_next, union_some, union_none, union_end, then_is, then-refused)

-- ---- a float is that of its word

pub of_its_word : (x : Float) (w : ℕ) → fits binary32 x ≡ true → w ≡ to_bits binary32 x → of_bits binary32 w ≡ x
of_its_word x w f e = ap (of_bits binary32) e ∙ of_bits-to_bits binary32 x (subst T (sym f) tt)

-- floats of one word are equal
pub same_word : (x y : Float) → fits binary32 x ≡ true → fits binary32 y ≡ true →
    to_bits binary32 x ≡ to_bits binary32 y → x ≡ y
same_word x y f g e = sym (of_its_word x (to_bits binary32 x) f refl) ∙ of_its_word y (to_bits binary32 x) g e

-- ---- twelve as a float is that of its word

pub twelve : of_int binary32 (pos 12) ≡ of_bits binary32 0x4140_0000
unfolding of_int of_bits
twelve = refl
