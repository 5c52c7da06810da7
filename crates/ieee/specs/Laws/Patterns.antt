-- Bit patterns without their sign. `magnitude f a` is what the pattern a stands for, in units of the format's smallest
-- value 2 ^ -low, and a finite value of u units has the pattern `pattern f u`. Over the format. Assumes nothing.
use Rattle.std.specs.Prelude.{ℕ, zero, suc, ◌+◌, ◌-◌, ◌*◌, ◌/◌, ◌%◌, ◌^◌, ◌≤◌, ◌<◌, ◌≡◌, refl, Bool, true, false}
use Rattle.std.specs.Prelude.{cond, ◌≢◌, ◌⊎◌, T, ltb, leb, Float}
use Rattle.std.proofs.Common.{sym, ◌∙◌, ap, subst, inl, inr, mod-eq_of_lt, mul-one, one-mul, mul-div_cancel}
use Rattle.std.proofs.Common.{le-div_iff_mul-le, lt_irrefl, lt_of_not-le, not-le_of_lt, le_refl, le_of_lt}
use Rattle.std.proofs.Common.{le_antisymm, eq-or-lt_of_le, lt_of_le_of_lt, le_of_suc-le-suc, zero-lt-suc, add_assoc}
use Rattle.std.proofs.Common.{sub-eq-zero_of_le, mul-le-mul_right, mul_left_comm, mul_right_comm, mul_assoc}
use Rattle.std.proofs.Common.{mul-le-mul_left, mod-lt, div-lt_iff_lt-mul, lt_of_lt_of_le, mul-lt-mul_of_pos_right}
use Rattle.std.proofs.Common.{le_trans, le_of_eq, mul-le-mul, le-add_right, mul-pos, zero-mul, arith, lit<, one-add}
use Rattle.std.proofs.Common.{add-one, pow_pos, pow_mono, pow-add, shl_lt, shl_exact, lt-ltb, le-ltb, le-leb, eq-eqb}
use Rattle.std.proofs.Common.{ne_eqb}
use Rattle.std.proofs.Math.Nat.{mod-mod_of_dvd, dvd-mul_right, pow-succ', mul-mod_left, div-eq_of_lt-le, div-eq_of_lt}
use Rattle.std.proofs.Math.Decide.{dec_le}
use Rattle.std.proofs.Math.Pow.{pow-lt}
use Rattle.std.specs.Float.{Format, binary32, binary64, nan, inf, fin}
use Rattle.std.specs.Float.Ieee.{prec, emax, low, hid, ones, top, up, down, size, of_bits, of_fields, to_bits, odd}
use Rattle.std.specs.Float.Ieee.{round, fits}
use Rattle.std.specs.Float.Ieee.Digits.{size-lt, size-le}
use Rattle.std.specs.Float.Ieee.Bits.{of_bits-to_bits, of_bits-fits}
use Rattle.std.specs.Float.Ieee.Exact.{HasValue, odd_sign, round_exact}
use Rattle.std.specs.Float.Ieee.Fits.{two, down_pos, round-fits}
use Rattle.std.specs.Float.Ieee.Nearest.{div_same}
use Rattle.std.proofs.lemmas.Bool.{lt-leb}

-- ---- reading a pattern

-- A field of 0 has no leading digit and counts as a field of 1.
unfoldable pub magnitude : Format → ℕ → ℕ
magnitude f a = cond (ltb a (hid f)) a ((hid f + a % hid f) * 2 ^ (a / hid f - 1))

pub magnitude-small : (f : Format) (a : ℕ) → a < hid f → magnitude f a ≡ a
unfolding magnitude
magnitude-small f a h = rw (lt-ltb a (hid f) h)

pub magnitude-large : (f : Format) (a : ℕ) → hid f ≤ a → magnitude f a ≡ (hid f + a % hid f) * 2 ^ (a / hid f - 1)
unfolding magnitude
magnitude-large f a h = rw (le-ltb a (hid f) h)

pub hid-pos : (f : Format) → 0 < hid f
hid-pos f = pow_pos (prec f - 1)

-- a pattern's fields, and its value. Not at a field of all ones, an infinity's or a NaN's.
fields : (f : Format) (s : Bool) (x t a : ℕ) → a / hid f ≡ x → a % hid f ≡ t → x ≢ ones f →
    HasValue (of_fields f s x t) s (magnitude f a) (2 ^ low f)
unfolding of_fields
fields f s zero t a p q n =
    let small : a < hid f =
    lt_of_not-le (λ (h : hid f ≤ a). lt_irrefl 0
    (subst (λ (z : ℕ). 0 < z) p ((le-div_iff_mul-le (hid-pos f)).1
    (subst (λ (z : ℕ). z ≤ a) (sym (one-mul (hid f))) h)))) in
    subst (λ (z : ℕ). HasValue (odd (prec f) s t 0 (low f)) s z (2 ^ low f))
    (mul-one t ∙ sym q ∙ mod-eq_of_lt small ∙ sym (magnitude-small f a small))
    (odd_sign (prec f) s t 0 (low f))
fields f s (suc y) t a p q n =
    let large : hid f ≤ a = subst (λ (z : ℕ). z ≤ a) (one-mul (hid f))
    ((le-div_iff_mul-le (hid-pos f)).0 (subst (λ (z : ℕ). 1 ≤ z) (sym p) (zero-lt-suc y))) in
    rw (ne_eqb (suc y) (ones f) n)
    (subst (λ (z : ℕ). HasValue (odd (prec f) s (hid f + t) y (low f)) s z (2 ^ low f))
    (sym (magnitude-large f a large ∙ ap (λ (z : ℕ). (hid f + z) * 2 ^ (a / hid f - 1)) q ∙
    ap (λ (z : ℕ). (hid f + t) * 2 ^ (z - 1)) p
    ∙ ap (λ (z : ℕ). (hid f + t) * 2 ^ z) (pred-suc y)))
    (odd_sign (prec f) s (hid f + t) y (low f)))
  where
    pred-suc : (y : ℕ) → suc y - 1 ≡ y
    pred-suc y = omega arith

pub decode : (f : Format) (w : ℕ) → w % top f / hid f ≢ ones f →
    HasValue (of_bits f w) (leb (top f) w) (magnitude f (w % top f)) (2 ^ low f)
unfolding of_bits
decode f w n =
    fields f (leb (top f) w) (w % top f / hid f) (w % hid f) (w % top f) refl
    (mod-mod_of_dvd (hid f) w (dvd-mul_right (hid f) (suc (ones f)))) n

-- below the infinity's pattern the field is not all ones
pub field_of : (f : Format) (a : ℕ) → a < ones f * hid f → a / hid f ≢ ones f
field_of f a h e = lt_irrefl (ones f) (subst (λ (z : ℕ). z < ones f) e ((div-lt_iff_lt-mul (hid-pos f)).1 h))

-- a word up to the infinity's has no sign's bit
pub no_sign : (f : Format) (w : ℕ) → w ≤ ones f * hid f → w < top f
no_sign f w h = omega (arith, hid-pos f)

pub decode-plain : (f : Format) (w : ℕ) → w < ones f * hid f → HasValue (of_bits f w) false (magnitude f w) (2 ^ low f)
decode-plain f w h =
    let l : w < top f = no_sign f w (le_of_lt h) in
    rw (lt-leb (top f) w l, mod-eq_of_lt l) at (decode f w (field_of f (w % top f) (rw (mod-eq_of_lt l) h)))

-- ---- writing a value

-- the pattern of u units: the leading prec digits, and a field that says how many were dropped
unfoldable pub pattern : Format → ℕ → ℕ
pattern f u = (size u - prec f) * hid f + u / 2 ^ (size u - prec f)

-- of a value a / c too
pub to_bits_fraction : (f : Format) (v : Float) (s : Bool) (a c : ℕ) → 0 < c → HasValue v s a c →
    to_bits f v ≡ cond s (top f) 0 + pattern f (a * 2 ^ low f / c)
unfolding to_bits pattern
to_bits_fraction f nan s a c C h = absurd h
to_bits_fraction f (inf t) s a c C h = absurd h
to_bits_fraction f (fin t m e) s a c C h =
    let l = 2 ^ low f in
    let u = a * l / c in
    let x : m * up e * l * c ≡ a * l * down e = mul_right_comm (m * up e) l c ∙ ap (λ (z : ℕ). z * l) h.1 ∙
    mul_right_comm a (down e) l in
    ap (λ (z : ℕ). cond t (top f) 0 + (size z - prec f) * hid f + z / 2 ^ (size z - prec f))
    (div_same (m * up e * l) (down e) (a * l) c (down_pos e) C x)
    ∙ ap (λ (b : Bool). cond b (top f) 0 + (size u - prec f) * hid f + u / 2 ^ (size u - prec f)) h.0
    ∙ add_assoc (cond s (top f) 0) ((size u - prec f) * hid f) (u / 2 ^ (size u - prec f))

pub to_bits-value : (f : Format) (v : Float) (s : Bool) (u : ℕ) → HasValue v s u (2 ^ low f) →
    to_bits f v ≡ cond s (top f) 0 + pattern f u
to_bits-value f v s u h =
    to_bits_fraction f v s u (2 ^ low f) (pow_pos (low f)) h ∙
    ap (λ (z : ℕ). cond s (top f) 0 + pattern f z) (mul-div_cancel u (pow_pos (low f)))

-- ---- powers of two

pub pow-le_inv : (a b : ℕ) → 2 ^ a ≤ 2 ^ b → a ≤ b
pow-le_inv a b h = le_of_suc-le-suc (lt_of_not-le (λ (g : suc b ≤ a). not-le_of_lt (pow-lt g) h))

pub pow-lt_inv : (a b : ℕ) → 2 ^ a < 2 ^ b → a < b
pow-lt_inv a b h = lt_of_not-le (λ (g : b ≤ a). not-le_of_lt h (pow_mono g))

pub size_is : (n j : ℕ) → 2 ^ j ≤ n → n < 2 ^ suc j → size n ≡ suc j
size_is n j lo hi = le_antisymm (size-le n (suc j) hi) (pow-lt_inv j (size n) (lt_of_le_of_lt lo (size-lt n)))

-- a one shifted within its width
pub one_shifted : (k w : ℕ) → k < w → 1 * 2 ^ k % 2 ^ w ≡ 2 ^ k
one_shifted k w h = shl_exact 1 k w (lit< tt) (subst (λ (z : ℕ). z ≤ w) (sym (one-add k)) h) ∙ one-mul (2 ^ k)

-- twice the weight of the leading digit
pub two-hid : (f : Format) → 2 ^ prec f ≡ 2 * hid f
two-hid binary32 = refl
two-hid binary64 = refl

-- ---- q * 2 ^ k units have the pattern k * hid + q, also where q has been carried to 2 ^ prec

-- q is what a rounding that drops k digits keeps: where it drops any, the leading digit is there
abbrev pub Digits : Format → ℕ → ℕ → Type 0
Digits f q k = (q ≤ 2 ^ prec f) × ((k ≡ 0) ⊎ (hid f ≤ q))

pattern_dropped : (f : Format) (u k : ℕ) → size u - prec f ≡ k → pattern f u ≡ k * hid f + u / 2 ^ k
unfolding pattern
pattern_dropped f u k h = ap (λ (z : ℕ). z * hid f + u / 2 ^ z) h

pattern-whole : (f : Format) (q : ℕ) → q < 2 ^ prec f → pattern f (q * 2 ^ 0) ≡ 0 * hid f + q
pattern-whole f q h =
    let one : q * 2 ^ 0 ≡ q = mul-one q in
    let short : size (q * 2 ^ 0) ≤ prec f = subst (λ (z : ℕ). size z ≤ prec f) (sym one) (size-le q (prec f) h) in
    pattern_dropped f (q * 2 ^ 0) 0 (sub-eq-zero_of_le short) ∙
    ap (λ (z : ℕ). 0 * hid f + z) (mul-div_cancel q (pow_pos 0))

pattern-cut : (f : Format) (q k : ℕ) → q < 2 ^ prec f → hid f ≤ q → pattern f (q * 2 ^ k) ≡ k * hid f + q
pattern-cut f q k hi lo =
    let P : 2 ≤ prec f = two f in
    let e : suc (prec f - 1 + k) ≡ prec f + k = omega arith in
    let below : 2 ^ (prec f - 1 + k) ≤ q * 2 ^ k = rw (pow-add 2 (prec f - 1) k) (mul-le-mul_right (2 ^ k) lo) in
    let above : q * 2 ^ k < 2 ^ suc (prec f - 1 + k) = subst (λ (z : ℕ). q * 2 ^ k < 2 ^ z) (sym e)
    (shl_lt (prec f) k hi) in
    let n : size (q * 2 ^ k) ≡ suc (prec f - 1 + k) = size_is (q * 2 ^ k) (prec f - 1 + k) below above in
    let d : size (q * 2 ^ k) - prec f ≡ k = omega arith in
    pattern_dropped f (q * 2 ^ k) k d ∙ ap (λ (z : ℕ). k * hid f + z) (mul-div_cancel q (pow_pos k))

double_mono : (a h : ℕ) → 0 < h → h < 2 * h
double_mono a h p = omega arith

pattern_carried : (f : Format) (k : ℕ) → pattern f (2 ^ prec f * 2 ^ k) ≡ k * hid f + 2 ^ prec f
pattern_carried f k =
    let same : hid f * 2 ^ suc k ≡ 2 ^ prec f * 2 ^ k =
    ap (λ (z : ℕ). hid f * z) (pow-succ' 2 k) ∙ mul_left_comm (hid f) 2 (2 ^ k) ∙ sym (mul_assoc 2 (hid f) (2 ^ k))
    ∙ ap (λ (z : ℕ). z * 2 ^ k) (sym (two-hid f)) in
    let small : hid f < 2 ^ prec f = subst (λ (z : ℕ). hid f < z) (sym (two-hid f)) (double_mono 0 (hid f) (hid-pos f))
    in
    let d : suc k * hid f + hid f ≡ k * hid f + 2 * hid f = omega arith in
    subst (λ (z : ℕ). pattern f z ≡ k * hid f + 2 ^ prec f) same
    (pattern-cut f (hid f) (suc k) small (le_refl (hid f)) ∙ d ∙ ap (λ (z : ℕ). k * hid f + z) (sym (two-hid f)))

pub pattern-at : (f : Format) (q k : ℕ) → Digits f q k → pattern f (q * 2 ^ k) ≡ k * hid f + q
pattern-at f q k d = go (eq-or-lt_of_le d.0) d.1
  where
    go : (q ≡ 2 ^ prec f) ⊎ (q < 2 ^ prec f) → (k ≡ 0) ⊎ (hid f ≤ q) → pattern f (q * 2 ^ k) ≡ k * hid f + q
    go (inl e) c = subst (λ (z : ℕ). pattern f (z * 2 ^ k) ≡ k * hid f + z) (sym e) (pattern_carried f k)
    go (inr l) (inl z) = subst (λ (j : ℕ). pattern f (q * 2 ^ j) ≡ j * hid f + q) (sym z) (pattern-whole f q l)
    go (inr l) (inr h) = pattern-cut f q k l h

-- ---- how large a pattern's value is

pub magnitude-lt : (f : Format) (a x : ℕ) → a < suc x * hid f → magnitude f a < hid f * 2 ^ x
magnitude-lt f a x h = go (dec_le (hid f) a)
  where
    H : 0 < hid f
    H = hid-pos f

    less : (k : ℕ) → suc k - 1 ≡ k
    less k = omega arith

    twice : (k : ℕ) → 1 ≤ k → 2 * hid f * 2 ^ (k - 1) ≡ hid f * 2 ^ k
    twice zero o = absurd (omega arith)
    twice (suc k) o =
        ap (λ (z : ℕ). 2 * hid f * 2 ^ z) (less k) ∙ mul_assoc 2 (hid f) (2 ^ k) ∙ mul_left_comm 2 (hid f) (2 ^ k)
        ∙ ap (λ (z : ℕ). hid f * z) (sym (pow-succ' 2 k))

    go : Dec (hid f ≤ a) → magnitude f a < hid f * 2 ^ x
    go (no n) =
        let s : a < hid f = lt_of_not-le n in
        subst (λ (z : ℕ). z < hid f * 2 ^ x) (sym (magnitude-small f a s))
        (lt_of_lt_of_le s (subst (λ (z : ℕ). z ≤ hid f * 2 ^ x) (mul-one (hid f))
        (mul-le-mul_left (hid f) (pow_pos x))))
    go (yes l) =
        let e : a / hid f ≤ x = le_of_suc-le-suc ((div-lt_iff_lt-mul H).1 h) in
        let o : 1 ≤ a / hid f = (le-div_iff_mul-le H).1 (subst (λ (z : ℕ). z ≤ a) (sym (one-mul (hid f))) l) in
        let m : hid f + a % hid f < 2 * hid f = omega (arith, mod-lt a H) in
        subst (λ (z : ℕ). z < hid f * 2 ^ x) (sym (magnitude-large f a l))
        (lt_of_lt_of_le (mul-lt-mul_of_pos_right m (pow_pos (a / hid f - 1)))
        (le_trans (le_of_eq (twice (a / hid f) o)) (mul-le-mul_left (hid f) (pow_mono e))))

pub magnitude_ge : (f : Format) (a x : ℕ) → suc x * hid f ≤ a → hid f * 2 ^ x ≤ magnitude f a
magnitude_ge f a x h =
    let l : hid f ≤ a = le_trans (subst (λ (z : ℕ). z ≤ suc x * hid f) (one-mul (hid f))
    (mul-le-mul_right (hid f) (zero-lt-suc x))) h in
    let e : suc x ≤ a / hid f = (le-div_iff_mul-le (hid-pos f)).1 h in
    let k : x ≤ a / hid f - 1 = omega arith in
    subst (λ (z : ℕ). hid f * 2 ^ x ≤ z) (sym (magnitude-large f a l))
    (mul-le-mul (le-add_right (hid f) (a % hid f)) (pow_mono k))

-- ---- the patterns of an infinity, and the sign's bit

pub inf_bits : (f : Format) (w : ℕ) → w % top f ≡ ones f * hid f → of_bits f w ≡ inf (leb (top f) w)
unfolding of_bits of_fields
inf_bits f w h =
    go (w % top f / hid f) (w % hid f) (ap (λ (z : ℕ). z / hid f) h ∙ mul-div_cancel (ones f) (hid-pos f))
    (sym (mod-mod_of_dvd (hid f) w (dvd-mul_right (hid f) (suc (ones f)))) ∙ ap (λ (z : ℕ). z % hid f) h ∙
    mul-mod_left (ones f) (hid f))
  where
    go : (x t : ℕ) → x ≡ ones f → t ≡ 0 → of_fields f (leb (top f) w) x t ≡ inf (leb (top f) w)
    go zero t p q = absurd (omega arith)
    go (suc x) t p q = rw (eq-eqb (suc x) (ones f) p, eq-eqb t 0 q)

pub sign_bit : (f : Format) (w x : ℕ) → w < 2 * top f → cond (leb (top f) w) x 0 ≡ w / top f * x
sign_bit f w x h = go (dec_le (top f) w)
  where
    P : 0 < top f
    P = mul-pos (hid-pos f) (zero-lt-suc (ones f))

    go : Dec (top f ≤ w) → cond (leb (top f) w) x 0 ≡ w / top f * x
    go (yes l) =
        rw (le-leb (top f) w l) (sym (ap (λ (z : ℕ). z * x)
        (div-eq_of_lt-le (top f) (subst (λ (z : ℕ). z ≤ w) (sym (one-mul (top f))) l) h) ∙ one-mul x))
    go (no n) =
        rw (lt-leb (top f) w (lt_of_not-le n))
        (sym (ap (λ (z : ℕ). z * x) (div-eq_of_lt (lt_of_not-le n)) ∙ zero-mul x))

-- ---- a function on floats, taken by its words

pub through-words : (f g : Format) (F : Float → Float) (x r : Float) (w v : ℕ) → fits f x ≡ true →
    (T (fits f x) → T (fits g (F x)))
    → w ≡ to_bits f x → v ≡ to_bits g (F (of_bits f w)) → r ≡ of_bits g v → r ≡ F x
through-words f g F x r w v h k a b c =
    let t : T (fits f x) = subst T (sym h) tt in
    let back : of_bits f w ≡ x = ap (of_bits f) a ∙ of_bits-to_bits f x t in
    c ∙ ap (of_bits g) (b ∙ ap (λ (y : Float). to_bits g (F y)) back) ∙ of_bits-to_bits g (F x) (k t)

-- ---- a finite pattern's value is its own rounding

pub magnitude-pos : (f : Format) (a : ℕ) → 0 < a → 0 < magnitude f a
magnitude-pos f a h = go (dec_le (hid f) a)
  where
    go : Dec (hid f ≤ a) → 0 < magnitude f a
    go (no n) = subst (λ (z : ℕ). 0 < z) (sym (magnitude-small f a (lt_of_not-le n))) h
    go (yes l) =
        subst (λ (z : ℕ). 0 < z) (sym (magnitude-large f a l))
        (mul-pos (lt_of_lt_of_le (hid-pos f) (le-add_right (hid f) (a % hid f))) (pow_pos (a / hid f - 1)))

-- from 2 ^ (emax + 1) on a value is infinite
pub overflow-is : (f : Format) → 2 ^ (low f + suc (emax f)) ≡ hid f * 2 ^ (2 * emax f)
overflow-is binary32 = refl
overflow-is binary64 = refl

exactly : (f : Format) (s : Bool) (a : ℕ) → a < ones f * hid f →
    HasValue (round f s (magnitude f a) (2 ^ low f)) s (magnitude f a) (2 ^ low f)
exactly f s a h = go (dec_le (hid f) a)
  where
    small : magnitude f a < 2 ^ (low f + suc (emax f))
    small =
        subst (λ (z : ℕ). magnitude f a < z) (sym (overflow-is f))
        (magnitude-lt f a (2 * emax f) (subst (λ (z : ℕ). a < z * hid f) (add-one (2 * emax f)) h))

    by : (q j : ℕ) → magnitude f a ≡ q * 2 ^ j → q < 2 ^ prec f →
        HasValue (round f s (magnitude f a) (2 ^ low f)) s (magnitude f a) (2 ^ low f)
    by q j e l =
        round_exact f s (magnitude f a) (2 ^ low f) q j (pow_pos (low f)) l
        (subst (λ (z : ℕ). z < 2 ^ (low f + suc (emax f))) e small)
        (ap (λ (z : ℕ). z * 2 ^ low f) e)

    go : Dec (hid f ≤ a) → HasValue (round f s (magnitude f a) (2 ^ low f)) s (magnitude f a) (2 ^ low f)
    go (no n) =
        by a 0 (magnitude-small f a (lt_of_not-le n) ∙ sym (mul-one a)) (omega (arith, lt_of_not-le n, two-hid f))
    go (yes l) =
        by (hid f + a % hid f) (a / hid f - 1) (magnitude-large f a l) (omega (arith, mod-lt a (hid-pos f), two-hid f))

-- the format holds a number with its sign in one way
pub same-value : (f : Format) (v y : Float) (s : Bool) (a c : ℕ) → 0 < c → T (fits f v) → T (fits f y) →
    HasValue v s a c → HasValue y s a c → v ≡ y
same-value f v y s a c C p q h k =
    sym (of_bits-to_bits f v p) ∙ ap (of_bits f) (to_bits_fraction f v s a c C h
    ∙ sym (to_bits_fraction f y s a c C k))
    ∙
    of_bits-to_bits f y q

pub round_decoded : (f : Format) (w : ℕ) → w % top f < ones f * hid f →
    round f (leb (top f) w) (magnitude f (w % top f)) (2 ^ low f) ≡ of_bits f w
round_decoded f w h =
    let s = leb (top f) w in
    let u = magnitude f (w % top f) in
    same-value f (round f s u (2 ^ low f)) (of_bits f w) s u (2 ^ low f) (pow_pos (low f)) (round-fits f s u
    (2 ^ low f))
    (of_bits-fits f w)
    (exactly f s (w % top f) h) (decode f w (field_of f (w % top f) h))
