-- Records at a place, as the code reads and writes them: whether there are words enough is settled first, then the
-- words. Assumes nothing.
use Rattle.std.specs.Prelude.{ℕ, ◌+◌, ◌*◌, ◌/◌, ◌≤◌, ◌<◌, ◌≡◌, refl, true, false, List, ◌++◌, leb, length, get_or}
use Rattle.std.specs.Prelude.{take, drop}
use Rattle.std.proofs.Common.{sym, ◌∙◌, arith, le-leb, length-drop, get_or-take, get_or-drop, length-take-le}
use Rattle.std.proofs.Math.ListN.{get_or-eq_default}
use Rattle.std.proofs.lemmas.List.Edits.{sets}
use Rattle.words.specs.LittleEndian.{words_of}
use Rattle.words.proofs.LittleEndianLaws.{words_of-at}
use Rattle.words.specs.Answers.{given, refused}
use Rattle.words.proofs.Stores.{sets-append}
use Rattle.ieee.specs.Single.{zerof}
use Rattle.light_rows.specs.AsCoded.RecordRow.{triple_at, row_at, vec_of, record_of, judged_row, written_at}
use Rattle.light_rows.specs.RecordWords.{record_words, record_at, read_record, vec_at}
use Rattle.light_rows.specs.RecordWords.{vec_words, rest_words, record_list}
use Rattle.light_rows.specs.RecordWords.{max_place, direction_place, phi_place, cos_o_place, cos_e_place, side_place}
use Rattle.light_bounds.specs.Side.{side_known}
use Rattle.light_bounds.specs.Vecmath.{vec}
use Rattle.light_bounds.specs.declared.light_bounds.LightBounds.{LightBounds}

pub vec_at-past : (ws : List ℕ) (at : ℕ) → length ws ≤ at → vec_at ws at ≡ vec zerof zerof zerof
unfolding vec_at
vec_at-past ws at h =
    rw (
      get_or-eq_default ws 0 {n = at} h,
      get_or-eq_default ws 0 {n = at + 1} (omega arith),
      get_or-eq_default ws 0 {n = at + 2} (omega arith),
    )

-- ---- fetched

module _ (ws : List ℕ) (at : ℕ) (h : length ws ≤ at) where
  word-past : (n : ℕ) → at ≤ n → get_or ws n 0 ≡ 0
  word-past n k = get_or-eq_default ws 0 {n = n} (omega arith)

  pub triple_at-past : (n : ℕ) → at ≤ n → triple_at ws n ≡ record { x = 0; y = 0; z = 0 }
  triple_at-past n k =
      λ j. record { x = word-past n k j; y = word-past (n + 1) (omega arith) j; z = word-past (n + 2) (omega arith) j }

  pub row_at-past : row_at ws at ≡ record {
    min = triple_at ws at;
    max = triple_at ws at;
    direction = triple_at ws at;
    phi = 0;
    cos_theta_o = 0;
    cos_theta_e = 0;
    side = 0;
  }
  row_at-past =
      let same : (n : ℕ) → at ≤ n → triple_at ws n ≡ triple_at ws at =
      λ n k. triple_at-past n k ∙ sym (triple_at-past at (omega arith)) in
      λ j. record {
        min = triple_at ws at;
        max = same (max_place at) (omega arith) j;
        direction = same (direction_place at) (omega arith) j;
        phi = word-past (phi_place at) (omega arith) j;
        cos_theta_o = word-past (cos_o_place at) (omega arith) j;
        cos_theta_e = word-past (cos_e_place at) (omega arith) j;
        side = word-past (side_place at) (omega arith) j;
      }

-- the bytes of a row alone hold the row
module _ (bs : List ℕ) (at : ℕ) (h : at + record_words ≤ length bs / 4) where
  abbrev part : List ℕ
  part = take (4 * record_words) (drop (4 * at) bs)

  part_length : length part ≡ 4 * record_words
  part_length = length-take-le (4 * record_words) (drop (4 * at) bs) (rw length-drop (omega arith))

  part-byte : (i j : ℕ) → i < 4 * record_words → j ≡ 4 * at + i → get_or part i 0 ≡ get_or bs j 0
  part-byte i j k e = get_or-take (4 * record_words) (drop (4 * at) bs) i 0 k ∙ get_or-drop (4 * at) bs i 0 ∙ rw e

  part-word : (k n : ℕ) → k < record_words → n ≡ at + k → get_or (words_of part) k 0 ≡ get_or (words_of bs) n 0
  part-word k n s e =
      let byte : (i : ℕ) → i < 4 → get_or part (4 * k + i) 0 ≡ get_or bs (4 * n + i) 0 =
      λ i f. part-byte (4 * k + i) (4 * n + i) (omega arith) (omega arith) in
      words_of-at part k (rw part_length (omega arith))
      ∙ rw (part-byte (4 * k) (4 * n) (omega arith) (omega arith), byte 1 (omega arith), byte 2 (omega arith))
      (rw (byte 3 (omega arith)) refl)
      ∙ sym (words_of-at bs n (omega arith))

  part_triple : (k n : ℕ) → k + 2 < record_words → n ≡ at + k → triple_at (words_of part) k ≡ triple_at (words_of bs) n
  part_triple k n s e =
      λ j. record {
        x = part-word k n (omega arith) e j;
        y = part-word (k + 1) (n + 1) (omega arith) (omega arith) j;
        z = part-word (k + 2) (n + 2) (omega arith) (omega arith) j;
      }

  pub row-part : row_at (words_of part) 0 ≡ row_at (words_of bs) at
  row-part =
      λ j. record {
        min = part_triple 0 at (omega arith) (omega arith) j;
        max = part_triple (max_place 0) (max_place at) (omega arith) (omega arith) j;
        direction = part_triple (direction_place 0) (direction_place at) (omega arith) (omega arith) j;
        phi = part-word (phi_place 0) (phi_place at) (omega arith) (omega arith) j;
        cos_theta_o = part-word (cos_o_place 0) (cos_o_place at) (omega arith) (omega arith) j;
        cos_theta_e = part-word (cos_e_place 0) (cos_e_place at) (omega arith) (omega arith) j;
        side = part-word (side_place 0) (side_place at) (omega arith) (omega arith) j;
      }

-- ---- decoded

pub vec_at-is : (ws : List ℕ) (at : ℕ) → vec_at ws at ≡ vec_of (triple_at ws at)
unfolding vec_at
vec_at-is ws at = refl

pub read_record-is : (ws : List ℕ) (at : ℕ) → read_record ws at ≡ record_of (row_at ws at)
unfolding vec_at
read_record-is ws at = refl

module _ (n : ℕ) (ws : List ℕ) (at : ℕ) where
  pub record_at-past : leb (at + record_words) (length ws) ≡ false → record_at n ws at ≡ refused n
  unfolding record_at
  record_at-past h = rw h

  -- words enough are judged by their side
  pub record_at-is : leb (at + record_words) (length ws) ≡ true → record_at n ws at ≡ judged_row n (row_at ws at)
  unfolding record_at vec_at
  record_at-is h = rw h

  pub record_at-found : at + record_words ≤ length ws → side_known (get_or ws (side_place at) 0) ≡ true
      → record_at n ws at ≡ given (read_record ws at)
  unfolding record_at
  record_at-found h s = rw (le-leb (at + record_words) (length ws) h, s)

-- ---- written

pub length-record_list : (r : LightBounds) → length (record_list r) ≡ record_words
unfolding record_list
length-record_list r = refl

-- part by part
pub put-parts : (ws : List ℕ) (at : ℕ) (r : LightBounds)
    → sets (sets (sets (sets ws at (vec_words r.bounds.min)) (max_place at) (vec_words r.bounds.max))
    (direction_place at) (vec_words r.direction)) (phi_place at) (rest_words r)
    ≡ sets ws at (record_list r)
unfolding record_list
put-parts ws at r =
    let a = vec_words r.bounds.min in
    let b = vec_words r.bounds.max in
    let d = vec_words r.direction in
    rw (sets-append ws at (a ++ b ++ d) (rest_words r), sets-append ws at (a ++ b) d, sets-append ws at a b)

pub written_at-sets : (ws : List ℕ) (at : ℕ) (r : LightBounds) → at + record_words ≤ length ws
    → written_at ws at r ≡ sets ws at (record_list r)
unfolding written_at
written_at-sets ws at r h = rw (le-leb (at + record_words) (length ws) h)
