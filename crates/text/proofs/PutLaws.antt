-- Writing text into a slice: digits from the last to the first, bytes from the first to the last, one text behind
-- another, and all or none of a text. Assumes nothing.
use Prim.Native.Nat.{ℕ, zero, suc, ◌+◌, ◌-◌, ◌*◌, ◌/◌, ◌%◌, ◌≤◌, ◌<◌}
use mathlib.Core.Path.{◌≡◌, refl, sym, ap, ◌∙◌}
use mathlib.Core.Bool.{Bool, true, false, cond}
use mathlib.Core.List.{List, [], ◌∷◌, ◌++◌, append-nil, append_assoc}
use native.Mathlib.Nat.{mod-lt, lt_of_lt_of_le}
use native.Mathlib.Omega.{arith}
use borrow.Author.Tests.{lt-ltb, le-ltb, le-leb, lt-leb, leb-true, leb-false}
use borrow.Rule.Slice.PartMut.{put_mid}
use lib.Dec.{leb}
use lib.ListN.{length, get_or, take, drop, set, length-set, length-append}
use lib.Seq.{sets, sets-eq, set_comm, append_snoc, take-suc, take_at, length-take-le, take-length}
use Rattle.std.proofs.lemmas.List.Edits.{paste_all}
use Rattle.std.proofs.lemmas.Slice.{put_mid-paste}
use Rattle.io.specs.Digits.{last_digits, hex_digit_ascii}
use Rattle.std.specs.Prelude.{Result, Ok, Err, MatchResult}
use Rattle.words.specs.Answers.{Answer, given, refused, answered}
use Rattle.words.specs.LittleEndian.{bytes_of}
use Rattle.words.specs.AsCoded.WordSlices.{written_words}
use Rattle.words.specs.Tray.{tray}
use Rattle.words.specs.declared.refusals.Refusal.{Refusal}
use Rattle.words.specs.Laws.TrayLaws.{tray-full, tray-early}
use Rattle.words.proofs.AnswerLaws.{given_injective, refused_injective, not-both}
use Rattle.words.proofs.LittleEndianLaws.{length-bytes_of}
use Rattle.words.proofs.Stores.{sets-append}
use Rattle.text.specs.Text.{places_in, places, decimal_bytes, hex_bytes, refused_bytes, refusal_line}
use Rattle.text.specs.AsCoded.Puts.{fitting, Put}
use Rattle.text.specs.Laws.TextLaws.{places-few}

pub length_digits : (b k n : ℕ) → length (last_digits b k n) ≡ k
length_digits b zero n = refl
length_digits b (suc k) n =
    length-append (last_digits b k (n / b)) (hex_digit_ascii (n % b) ∷ [])
    ∙ rw (length_digits b k (n / b)) (omega arith)

-- a store before a run of stores
set_before : (l vs : List ℕ) (j i a : ℕ) → j < i → set (sets l i vs) j a ≡ sets (set l j a) i vs
set_before l [] j i a h = refl
set_before l (v ∷ vs) j i a h =
    set_before (set l i v) vs j (suc i) a (omega arith) ∙ ap (λ (s : List ℕ). sets s (suc i) vs)
    (set_comm l i j v a (λ e. omega (arith, h, e)))

-- ---- digits

-- the digits of n behind the first i are written, and the first i are those of `rest`
pub record Spelled (before : List ℕ) (at b k n : ℕ) (out : List ℕ) (i rest : ℕ) : Type 0 where
  pub based : 0 < b
  pub few : b ≤ 16
  pub room : at + k ≤ length before
  pub within : i ≤ k
  pub same : length out ≡ length before
  pub tail : List ℕ
  pub whole : last_digits b i rest ++ tail ≡ last_digits b k n
  pub is : out ≡ sets before (at + i) tail

pub spelled_none : {before : List ℕ} {at b k n : ℕ} → (0 < b) × (b ≤ 16) × (at + k ≤ length before)
    → Spelled before at b k n before k n
spelled_none {b} {k} {n} (based, few, room) =
    record {
      based = based;
      few = few;
      room = room;
      within = omega arith;
      same = refl;
      tail = [];
      whole = append-nil (last_digits b k n);
      is = refl;
    }

spelled-digit : {before out : List ℕ} {at b k n i rest : ℕ} (j : ℕ) → i ≡ suc j → Spelled before at b k n out i rest
    → Spelled before at b k n (set out (at + j) (hex_digit_ascii (rest % b))) j (rest / b)
spelled-digit {before} {out} {at} {b} {k} {n} {i} {rest} j e s =
    let up : at + i ≡ suc (at + j) = omega (arith, e) in
    record {
      based = s.based;
      few = s.few;
      room = s.room;
      within = omega (arith, s.within, e);
      same = length-set out (at + j) (hex_digit_ascii (rest % b)) ∙ s.same;
      tail = hex_digit_ascii (rest % b) ∷ s.tail;
      whole = sym (append_snoc (last_digits b j (rest / b)) (hex_digit_ascii (rest % b)) s.tail) ∙ rw e at s.whole;
      is = rw (s.is, up) (set_before before s.tail (at + j) (suc (at + j)) (hex_digit_ascii (rest % b)) (omega arith));
    }

pub spelled-next : {before out : List ℕ} {at b k n i rest : ℕ} → 0 < i → Spelled before at b k n out i rest
    → Spelled before at b k n (set out (at + (i - 1)) (hex_digit_ascii (rest % b))) (i - 1) (rest / b)
spelled-next {i} h s = spelled-digit (i - 1) (omega (arith, h)) s

pub spelled-digit-few : {before out : List ℕ} {at b k n i rest : ℕ} → Spelled before at b k n out i rest → rest % b < 16
spelled-digit-few {rest} s = lt_of_lt_of_le (mod-lt rest s.based) s.few

pub spelled-all : {before out : List ℕ} {at b k n i rest : ℕ} → i ≡ 0 → Spelled before at b k n out i rest
    → out ≡ sets before at (last_digits b k n)
spelled-all {before} {at} {b} {k} {n} {i} {rest} e s =
    let here : at + 0 ≡ at = omega arith in
    s.is ∙ rw (e, here, ← s.whole, e)

-- ---- text

-- the first i bytes of a text are written
pub record Texted (before : List ℕ) (at : ℕ) (text out : List ℕ) (i : ℕ) : Type 0 where
  pub room : at + length text ≤ length before
  pub within : i ≤ length text
  pub same : length out ≡ length before
  pub is : out ≡ sets before at (take i text)

pub texted-none : {before text : List ℕ} {at : ℕ} → at + length text ≤ length before → Texted before at text before 0
texted-none room = record { room = room; within = omega arith; same = refl; is = refl }

pub texted-next : {before text out : List ℕ} {at i : ℕ} → i < length text → Texted before at text out i
    → Texted before at text (set out (at + i) (get_or text i 0)) (i + 1)
texted-next {before} {text} {out} {at} {i} h t =
    let up : i + 1 ≡ suc i = omega arith in
    record {
      room = t.room;
      within = omega (arith, h);
      same = length-set out (at + i) (get_or text i 0) ∙ t.same;
      is = rw (
        up,
        take-suc text i 0 h,
        sets-append before at (take i text)
            (get_or text i 0 ∷ []),
        length-take-le i text t.within,
        t.is,
      );
    }

pub texted-all : {before text out : List ℕ} {at i : ℕ} → length text ≤ i → Texted before at text out i
    → out ≡ sets before at text
texted-all {before} {text} {out} {at} {i} h t =
    let e : i ≡ length text = omega (arith, h, t.within) in
    t.is ∙ rw (e, take-length text)

-- ---- decimal places

-- k places are counted, and `rest` is what n has before them
pub record Counted (n k rest : ℕ) : Type 0 where
  pub some : 1 ≤ k
  pub few : k ≤ 10
  pub whole : k + places_in (10 - k) rest ≡ 1 + places_in 9 n

pub counted-one : {n : ℕ} → Counted n 1 n
counted-one = record { some = omega arith; few = omega arith; whole = refl }

places-next : (more rest : ℕ) → 10 ≤ rest → places_in (suc more) rest ≡ 1 + places_in more (rest / 10)
unfolding places_in
places-next more rest h = simp (le-ltb rest 10 h)

places-one : (more rest : ℕ) → rest < 10 → places_in more rest ≡ 1
unfolding places_in
places-one zero rest h = refl
places-one (suc more) rest h = simp (lt-ltb rest 10 h)

pub counted_next : {n k rest : ℕ} → k < 10 → 10 ≤ rest → Counted n k rest → Counted n (k + 1) (rest / 10)
counted_next {n} {k} {rest} h g c =
    let fewer : 10 - k ≡ suc (10 - (k + 1)) = omega (arith, h) in
    let step : places_in (10 - k) rest ≡ 1 + places_in (10 - (k + 1)) (rest / 10) = rw fewer
    (places-next (10 - (k + 1)) rest g) in
    record { some = omega arith; few = omega (arith, h); whole = omega (arith, step, c.whole) }

pub counted-all : {n k rest : ℕ} → Counted n k rest → places_in (10 - k) rest ≡ 1 → k ≡ places_in 9 n
counted-all c e = omega (arith, e, c.whole)

pub counted-small : {n k rest : ℕ} → rest < 10 → Counted n k rest → k ≡ places_in 9 n
counted-small {n} {k} {rest} h c = counted-all c (places-one (10 - k) rest h)

pub counted_ten : {n k rest : ℕ} → 10 ≤ k → Counted n k rest → k ≡ places_in 9 n
unfolding places_in
counted_ten {n} {k} {rest} h c =
    let none : 10 - k ≡ 0 = omega (arith, h) in
    counted-all c (rw none refl)

-- ---- one text behind another

pub put_then : {before out out' vs us : List ℕ} {at mid end : ℕ} → Put before at vs out mid → Put out mid us out' end
    → Put before at (vs ++ us) out' end
put_then {before} {out} {out'} {vs} {us} {at} {mid} {end} a b =
    record {
      is = b.is ∙ rw (a.is, a.past, sets-append before at vs us);
      past = rw (length-append vs us) (omega (arith, a.past, b.past));
    }

pub put_one : (before : List ℕ) (at a : ℕ) → Put before at (a ∷ []) (set before at a) (at + 1)
put_one before at a = record { is = refl; past = refl }

-- the front part of a slice at whose front text was put, as long as the text: of an array, and of a slice
pub handed_front : (before text : List ℕ) {after : List ℕ} (n : ℕ) → length text ≤ length before
    → after ≡ sets before 0 text → n ≡ length text
    → take n after ≡ text
handed_front before text {after} n room is long =
    rw (is, sets-eq text before 0 (omega (arith, room)), long)
    (take_at text (drop (0 + length text) before) (length text) refl)

pub handed : (before text : List ℕ) {after : List ℕ} (n : ℕ) → length text ≤ length before
    → after ≡ sets before 0 text → n ≡ length text
    → take (n - 0) after ≡ text
handed before text n room is long = handed_front before text (n - 0) room is (omega (arith, long))

-- ---- lengths

pub length_decimal : (n : ℕ) → length (decimal_bytes n) ≡ places n
unfolding decimal_bytes
length_decimal n = length_digits 10 (places n) n

pub decimal-short : (n : ℕ) → length (decimal_bytes n) ≤ 10
decimal-short n = rw (length_decimal n) (places-few 9 n)

pub length_hex : (n : ℕ) → length (hex_bytes n) ≡ 8
unfolding hex_bytes
length_hex n = length_digits 16 8 n

pub length_refusal : (n : ℕ) → length (refusal_line n) ≡ 9 + places n
unfolding refusal_line
length_refusal n = simp (length-append, length_decimal) (omega arith)

pub refusal-short : (n : ℕ) → length (refusal_line n) ≤ 19
refusal-short n = rw (length_refusal n) (omega (arith, places-few 9 n))

-- ---- a refusal's line

pub refusal-put : (before : List ℕ) (at k n : ℕ) {said out : List ℕ} → k ≡ places n → said ≡ sets before at refused_bytes
    → out ≡ sets said (at + 8) (last_digits 10 k n) → set out (at + 8 + k) 10 ≡ sets before at (refusal_line n)
unfolding refusal_line decimal_bytes
refusal-put before at k n {said} {out} e word number =
    let first : Put before at refused_bytes said (at + 8) = record { is = word; past = refl } in
    let second : Put said (at + 8) (last_digits 10 (places n) n) out (at + 8 + k) =
    record { is = rw e at number; past = rw (length_digits 10 (places n) n, e) } in
    (put_then (put_then first second) (put_one out (at + 8 + k) 10)).is

-- ---- all of a text or none

-- the room that a test has found
pub room-told : {r : Bool} {a b : ℕ} → r ≡ leb a b → r ≡ true → a ≤ b
room-told {r} {a} {b} is holds = leb-true a b (sym is ∙ holds)

module _ (before : List ℕ) (at : ℕ) (text : List ℕ) where
  pub fitting-all : at + length text ≤ length before → fitting before at text ≡ text
  unfolding fitting
  fitting-all room = simp (le-leb (at + length text) (length before) room)

  pub fitting-none : length before < at + length text → fitting before at text ≡ []
  unfolding fitting
  fitting-none short = simp (lt-leb (at + length text) (length before) short)

  -- a part as long as the text is overwritten
  pub put_all : {laid : List ℕ} → leb (at + length text) (length before) ≡ true → laid ≡ text
      → (put_mid at (at + length text - at) before laid ≡ sets before at (fitting before at text))
      × (length text ≡ length (fitting before at text))
  put_all {laid} is same =
      let room : at + length text ≤ length before = leb-true (at + length text) (length before) is in
      rw (fitting-all room) (
        put_mid-paste at (at + length text - at) before laid text (length text) same (omega arith) refl
            ∙ paste_all before at text (length text) refl
            ∙ sym (append_assoc (take at before) text (drop
            (at + length text) before))
            ∙ sym (sets-eq text before at room),
        refl,
      )

  pub put-none : leb (at + length text) (length before) ≡ false
      → (before ≡ sets before at (fitting before at text)) × (0 ≡ length (fitting before at text))
  put-none is = rw (fitting-none (leb-false (at + length text) (length before) is)) (refl, refl)

  -- the same of what is laid byte by byte, by the test of the room
  module _ (count : ℕ) (long : length text ≡ count) where
    pub laid_all : {after : List ℕ} → leb (at + count) (length before) ≡ true → after ≡ sets before at text
        → (after ≡ sets before at (fitting before at text)) × (count ≡ length (fitting before at text))
    laid_all is put = rw (fitting-all (rw long (leb-true (at + count) (length before) is))) (put, sym long)

    pub laid-none : leb (at + count) (length before) ≡ false
        → (before ≡ sets before at (fitting before at text)) × (0 ≡ length (fitting before at text))
    laid-none is = rw (fitting-none (rw long (leb-false (at + count) (length before) is))) (refl, refl)

-- where there is room, what was written stands there
pub put-fits : {before text after : List ℕ} {at count : ℕ} → at + length text ≤ length before
    → after ≡ sets before at (fitting before at text) → count ≡ length (fitting before at text)
    → Put before at text after (at + count)
put-fits {before} {text} {after} {at} {count} room is long =
    let all = fitting-all before at text room in
    record { is = rw all at is; past = rw (long, all) }

-- ---- words as bytes

module _ (words before : List ℕ) where
  pub words-room : {n : ℕ} → given n ≡ written_words words (length before) → (n ≡ length words)
      × (4 * length words ≤ length before)
  unfolding written_words
  words-room {n} e = go (leb (4 * length words) (length before)) refl e
    where
      go : (b : Bool) → leb (4 * length words) (length before) ≡ b → given n ≡ cond b (given (length words)) (refused 3)
          → (n ≡ length words) × (4 * length words ≤ length before)
      go true is e = (given_injective e, leb-true (4 * length words) (length before) is)
      go false is e = absurd (not-both (sym e) refl)

  words-short : {m : ℕ} → refused m ≡ written_words words (length before) → (m ≡ 3) × (length before < 4 * length words)
  unfolding written_words
  words-short {m} e = go (leb (4 * length words) (length before)) refl e
    where
      go : (b : Bool) → leb (4 * length words) (length before) ≡ b
          → refused m ≡ cond b (given (length words)) (refused 3)
          → (m ≡ 3) × (length before < 4 * length words)
      go true is e = absurd (not-both e refl)
      go false is e = (refused_injective {A = ℕ} e, leb-false (4 * length words) (length before) is)

  abbrev left : Answer ℕ → List ℕ
  left answer = tray (λ (n : ℕ). bytes_of words) (4 * length words) answer before

  pub words-put : {n : ℕ} {after : List ℕ} → given n ≡ written_words words (length before)
      → after ≡ left (written_words words (length before))
      → (after ≡ sets before 0 (fitting before 0 (bytes_of words))) × (4 * n ≡ length (fitting before 0
      (bytes_of words)))
  words-put {n} {after} e is =
      let (same, room) = words-room e in
      let long = length-bytes_of words in
      let fits : 0 + length (bytes_of words) ≤ length before = rw long (omega (arith, room)) in
      let full = tray-full (λ (n : ℕ). bytes_of words) (4 * length words) before n long in
      let put = sets-eq (bytes_of words) before 0 fits in
      let end : 0 + length (bytes_of words) ≡ 4 * length words = rw long (omega arith) in
      rw (fitting-all before 0 (bytes_of words) fits)
      (rw (← e) at is ∙ full ∙ sym (rw end at put), rw (long, same))

  pub words_left : {m : ℕ} {after : List ℕ} → refused m ≡ written_words words (length before)
      → after ≡ left (written_words words (length before))
      → (after ≡ sets before 0 (fitting before 0 (bytes_of words))) × (0 ≡ length (fitting before 0 (bytes_of words)))
  words_left {m} {after} e is =
      let (three, short) = words-short e in
      let none : length before < 0 + length (bytes_of words) = rw (length-bytes_of words) (omega (arith, short)) in
      let kept = tray-early (λ (n : ℕ). bytes_of words) (4 * length words) before m (omega (arith, three)) in
      rw (fitting-none before 0 (bytes_of words) none) (rw (← e) at is ∙ kept, refl)

  -- four bytes a word, or none where they were refused
  pub words-answered : {count : ℕ} {after : List ℕ} (r : Result ℕ Refusal)
      → answered r ≡ written_words words (length before) → after ≡ left (written_words words (length before))
      → MatchResult r (λ (n : ℕ). count ≡ 4 * n) (λ _. count ≡ 0)
      → (after ≡ sets before 0 (fitting before 0 (bytes_of words))) × (count ≡ length (fitting before 0
      (bytes_of words)))
  words-answered (Ok n) e is count = let h = words-put e is in (h.0, count ∙ h.1)
  words-answered (Err why) e is count = let h = words_left e is in (h.0, count ∙ h.1)

  -- words that are known by their bytes, where there is room
  pub words-fit : (text : List ℕ) {after : List ℕ} {count : ℕ} → bytes_of words ≡ text → length text ≤ length before
      → (after ≡ sets before 0 (fitting before 0 (bytes_of words))) × (count ≡ length (fitting before 0
      (bytes_of words)))
      → (after ≡ sets before 0 text) × (count ≡ length text)
  words-fit text known room put = rw (known, fitting-all before 0 text (omega (arith, room))) at put
