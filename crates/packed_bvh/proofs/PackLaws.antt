-- What the packing writes, word behind word and node behind node, and which refusals it has. Assumes nothing.
use Prim.Native.Nat.{ℕ, zero, suc, ◌+◌, ◌*◌, ◌/◌, ◌%◌, ◌-◌, ◌≤◌, ◌<◌, zero-le}
use mathlib.Core.Path.{◌≡◌, refl, ap, sym, subst, ◌∙◌}
use mathlib.Core.Bool.{Bool, true, false, cond, ◌&&◌, ◌||◌}
use mathlib.Core.List.{List, [], ◌∷◌, ◌++◌}
use mathlib.Core.Option.{Option, none, some}
use native.Mathlib.Numerals.{add-one}
use native.Mathlib.Omega.{arith}
use borrow.Author.Tests.{lt-ltb, le-ltb, eq-eqb, ne_eqb, eqb-true, eqb-false, ltb-false}
use lib.Dec.{ltb, leb, eqb}
use lib.ListN.{length, get_or, take, drop, length-append}
use lib.Seq.{sets, sets-eq, length-sets, length-take-le, take-suc, take_all}
use Rattle.words.specs.Answers.{Answer, given, refused, ◌then◌}
use Rattle.words.specs.AsCoded.Fill.{filled}
use Rattle.words.specs.Heads.{kind_of}
use Rattle.words.specs.LittleEndian.{bytes_of, bytes_of_word, words_of}
use Rattle.words.specs.AsCoded.WordSlices.{set_word}
use Rattle.words.specs.Tray.{tray}
use Rattle.words.specs.Laws.TrayLaws.{tray-full, tray-early}
use Rattle.words.proofs.AnswerLaws.{Early, Late, then-given}
use Rattle.words.proofs.AnswerLaws.{only-given, only-refused, only-cond, only_then}
use Rattle.words.proofs.AnswerLaws.{only-number, not-both, given_injective}
use Rattle.words.proofs.LittleEndianLaws.{length-bytes_of, bytes_of-append}
use Rattle.words.proofs.FillLaws.{filled_within}
use Rattle.words.proofs.Reserves.{tray-zeroed}
use Rattle.words.proofs.Stores.{sets-append, drop-sets}
use Rattle.light_bounds.specs.Bounds.{box_check}
use Rattle.light_bounds.specs.LightBounds.{validate}
use Rattle.light_rows.specs.RecordWords.{record_at, record_words, side_place}
use Rattle.light_bounds.specs.Side.{side_known}
use Rattle.light_bounds.specs.Vecmath.{normalize_by_division, dividing, vec_length}
use Rattle.light_bounds.specs.declared.bounds.Bounds3.{Bounds3}
use Rattle.light_bounds.specs.declared.light_bounds.LightBounds.{LightBounds}
use Rattle.light_bounds.specs.declared.vecmath.Vec3.{Vec3}
use Rattle.light_bounds.proofs.LateLaws.{late-validate, late-box}
use Rattle.light_rows.specs.Nodes.{LightBVHNode, leaf, interior, invalid_index, parent, node_place}
use Rattle.light_rows.specs.Nodes.{bounds_place, node_at, node_of, bounds_at, node_count, node_bytes, max_nodes}
use Rattle.packed_bvh.specs.Packed.{index_max, payload, payload_word, compact_words, payload_check, parent_check}
use Rattle.packed_bvh.specs.Packed.{left_check, pack_node, pack_nodes, header}
use Rattle.packed_bvh.specs.Packed.{header_words, packed_node_words, packed_place, packed_reserve}
use Rattle.packed_bvh.specs.Packed.{pack_check, agreed, packed_tree, pack_light_bvh, packed_bytes, bytes_reserve}
use Rattle.packed_bvh.specs.Packed.{words_packed}
use Rattle.packed_bvh.specs.AsCoded.PackedParts.{placing, pack_bounds, pack_placed}

-- ---- words behind words

-- l holds the words ws from place p on, and is d elsewhere
pub record Words (d : List ℕ) (p : ℕ) (ws l : List ℕ) : Type 0 where
  pub is : l ≡ sets d (4 * p) (bytes_of ws)

pub words-none : (d : List ℕ) (p : ℕ) → Words d p [] d
unfolding bytes_of
words-none d p = record { is = refl }

-- the next one
pub words-next : {d : List ℕ} (ws : List ℕ) {l m : List ℕ} {p i : ℕ} → 4 * (p + length ws) ≤ length d → i < length ws
    → Words d p (take i ws) l → m ≡ set_word l (p + i) (get_or ws i 0) → Words d p (take (i + 1) ws) m
unfolding set_word bytes_of
words-next {d} ws {l} {m} {p} {i} room h w e =
    let old = take i ws in
    let v = get_or ws i 0 in
    let long : length old ≡ i = length-take-le i ws (omega arith) in
    let same : length l ≡ length d = ap length w.is ∙ length-sets d (4 * p) (bytes_of old) in
    let at : 4 * p + length (bytes_of old) ≡ 4 * (p + i) = omega (arith, length-bytes_of old, long) in
    let put : set_word l (p + i) v ≡ sets l (4 * (p + i)) (bytes_of_word v) =
    rw (lt-ltb (p + i) (length l / 4) (omega (arith, same))) in
    let all : sets d (4 * p) (bytes_of (old ++ v ∷ []))
    ≡ sets (sets d (4 * p) (bytes_of old)) (4 * (p + i)) (bytes_of_word v) =
    ap (sets d (4 * p)) (bytes_of-append old (v ∷ []))
    ∙ sets-append d (4 * p) (bytes_of old) (bytes_of (v ∷ []))
    ∙ ap (λ (k : ℕ). sets (sets d (4 * p) (bytes_of old)) k (bytes_of_word v)) at in
    record {
      is = rw (add-one i, take-suc ws i 0 h) (e ∙ put ∙ ap (λ (z : List ℕ). sets z (4 * (p + i)) (bytes_of_word v)) w.is
          ∙ sym all);
    }

pub words-all : {d : List ℕ} (ws : List ℕ) {l : List ℕ} {p i : ℕ} → length ws ≤ i → Words d p (take i ws) l
    → l ≡ sets d (4 * p) (bytes_of ws)
words-all {d} ws {l} {p} {i} h w = w.is ∙ rw (take_all i ws h)

-- ---- a node

-- its own checks, taken together
own_checks : (x y z : Answer (Unit {0})) (w p : ℕ) (f : ℕ → ℕ → List ℕ)
    → (x then λ _. y then λ _. z then λ _. given (f w p))
    ≡ ((x then λ _. y then λ _. z then λ _. given (w, p)) then λ (k : ℕ × ℕ). given (f k.0 k.1))
unfolding ◌then◌
own_checks (refused n) y z w p f = refl
own_checks (given u) (refused n) z w p f = refl
own_checks (given u) (given v) (refused n) w p f = refl
own_checks (given u) (given v) (given t) w p f = refl

-- a node's own checks behind its record's
pub node-placed : (count : ℕ) (all : Bounds3) (ws : List ℕ) (i : ℕ) (n : LightBVHNode) → node_at ws i ≡ given n
    → pack_node count all ws i ≡ pack_placed all ws i (placing count i n)
unfolding pack_node pack_placed pack_bounds placing ◌then◌
node-placed count all ws i n e = rw e (record_of_lem (bounds_at ws i))
  where
    unit : (b : LightBounds) (x : Answer Vec3)
        → (x then λ (d : Vec3). payload_check n then λ _. parent_check count n then λ _. left_check i n then λ _.
        given (compact_words all b d (payload_word n) (parent n)))
        ≡ (x then λ (d : Vec3). placing count i n then λ (w : ℕ × ℕ). given (compact_words all b d w.0 w.1))
    unit b (given d) =
        own_checks (payload_check n) (parent_check count n) (left_check i n) (payload_word n) (parent n)
        (λ (w p : ℕ). compact_words all b d w p)
    unit b (refused k) = refl

    valid : (b : LightBounds) (x : Answer (Unit {0}))
        → (x then λ _. normalize_by_division b.direction then λ (d : Vec3). payload_check n then λ _. parent_check count
        n then λ _. left_check i n then λ _.
        given (compact_words all b d (payload_word n) (parent n)))
        ≡ (x then λ _. pack_bounds all b (placing count i n))
    valid b (given u) = unit b (normalize_by_division b.direction)
    valid b (refused k) = refl

    record_of_lem : (x : Answer LightBounds)
        → (x then λ (b : LightBounds). validate b then λ _. normalize_by_division b.direction then λ (d : Vec3).
        payload_check n then λ _. parent_check count n then λ _. left_check i n then λ _. given
        (compact_words all b d (payload_word n) (parent n)))
        ≡ (x then λ (b : LightBounds). validate b then λ _. pack_bounds all b (placing count i n))
    record_of_lem (given b) = valid b (validate b)
    record_of_lem (refused k) = refl

-- a node whose record is read, valid and has a direction: its own checks are left
pub node-checked : (count : ℕ) (all : Bounds3) (ws : List ℕ) (i : ℕ) {n : LightBVHNode} {b : LightBounds} {t : Unit {0}}
    {d : Vec3}
    → given n ≡ node_at ws i → given b ≡ bounds_at ws i → given t ≡ validate b
    → given d ≡ normalize_by_division b.direction
    → pack_node count all ws i ≡ (placing count i n then λ (w : ℕ × ℕ). given (compact_words all b d w.0 w.1))
unfolding pack_node placing ◌then◌
node-checked count all ws i {n} {b} {t} {d} is read valid directed =
    rw (← is, ← read, ← valid, ← directed)
    (own_checks (payload_check n) (parent_check count n) (left_check i n) (payload_word n) (parent n)
    (λ (w p : ℕ). compact_words all b d w p))

pub node-refused : (count : ℕ) (all : Bounds3) (ws : List ℕ) (i k : ℕ) → node_at ws i ≡ refused k
    → pack_node count all ws i ≡ refused k
unfolding pack_node ◌then◌
node-refused count all ws i k e = rw e

-- ---- refusals are late

late-node : (ws : List ℕ) (i : ℕ) → Late (node_at ws i)
unfolding node_at node_of
late-node ws i =
    only-cond (leb (node_place (suc i)) (length ws))
    (only-cond (eqb (kind_of (get_or ws (node_place i) 0)) 1) only-given
    (only-cond (eqb (kind_of (get_or ws (node_place i) 0)) 2) only-given (only-refused (omega arith))))
    (only-refused (omega arith))

late-bounds : (ws : List ℕ) (i : ℕ) → Late (bounds_at ws i)
unfolding bounds_at record_at
late-bounds ws i =
    only-cond (leb (bounds_place i + record_words) (length ws) && side_known
    (get_or ws (side_place (bounds_place i)) 0)) only-given (only-refused (omega arith))

late-by_division : (v : Vec3) → Late (normalize_by_division v)
unfolding normalize_by_division
late-by_division v = only-cond (dividing (vec_length v)) only-given (only-refused (omega arith))

late-payload : (n : LightBVHNode) → Late (payload_check n)
unfolding payload_check
late-payload n = only-cond (ltb index_max (payload n)) (only-refused (omega arith)) only-given

late-parent : (count : ℕ) (n : LightBVHNode) → Late (parent_check count n)
unfolding parent_check
late-parent count n =
    only-cond (eqb (parent n) invalid_index || ltb (parent n) count) only-given (only-refused (omega arith))

late-left : (i : ℕ) (n : LightBVHNode) → Late (left_check i n)
unfolding left_check
late-left i (leaf h p) = only-given
late-left i (interior l r p) = only-cond (eqb l (i + 1)) only-given (only-refused (omega arith))

pub late_pack : (count : ℕ) (all : Bounds3) (ws : List ℕ) (i : ℕ) → Late (pack_node count all ws i)
unfolding pack_node
late_pack count all ws i =
    only_then (late-node ws i) (λ n. only_then (late-bounds ws i)
    (λ b. only_then (late-validate b) (λ _. only_then (late-by_division b.direction)
    (λ d. only_then (late-payload n)
    (λ _. only_then (late-parent count n) (λ _. only_then (late-left i n) (λ _. only-given)))))))

-- ---- how many nodes

pub count-known : (bytes : List ℕ) (n : ℕ) → node_count bytes ≡ given n
    → (n ≤ max_nodes) × (length bytes / node_bytes ≡ n)
unfolding node_count
count-known bytes n e = go (ltb max_nodes (length bytes / node_bytes)) refl (eqb (length bytes % node_bytes) 0) e
  where
    go : (b : Bool) → ltb max_nodes (length bytes / node_bytes) ≡ b → (t : Bool)
        → cond b (refused 2) (cond t (given (length bytes / node_bytes)) (refused 1)) ≡ given n
        → (n ≤ max_nodes) × (length bytes / node_bytes ≡ n)
    go true h t g = absurd (not-both g refl)
    go false h false g = absurd (not-both g refl)
    go false h true g =
        let is : length bytes / node_bytes ≡ n = given_injective g in
        (rw is at (ltb-false max_nodes (length bytes / node_bytes) h), is)

pub reserve-some : (n : ℕ) → 0 < n → packed_reserve n ≡ packed_place n
reserve-some zero h = absurd (omega arith)
reserve-some (suc n) h = refl

pub reserve-small : (n : ℕ) → n ≤ max_nodes → packed_reserve n ≤ 65536
reserve-small zero h = zero-le
reserve-small (suc n) h = omega arith

-- nothing is zeroed where there are no nodes
pub filled_none : (l : List ℕ) (n : ℕ) → n ≡ 0 → l ≡ filled l 0 (4 * packed_reserve n) 0
filled_none l n e = rw e (sym (filled_within l 0 0 0 zero-le zero-le))

-- ---- the loop over the nodes

module _ (all : Bounds3) (ws : List ℕ) (n : ℕ) where
  -- l is d with the words of the first i nodes behind the header's eight
  pub record Packing (i : ℕ) (d l : List ℕ) : Type 0 where
    pub nodes : List ℕ
    pub is : pack_nodes n all ws i ≡ given nodes
    pub size : length nodes ≡ packed_node_words * i
    pub words : l ≡ sets d (4 * header_words) (bytes_of nodes)

  pub packing-none : (d : List ℕ) → Packing 0 d d
  unfolding pack_nodes
  packing-none d = record { nodes = []; is = refl; size = refl; words = (words-none d header_words).is }

  pub packing-one : {i : ℕ} {d l m : List ℕ} (row : List ℕ) → Packing i d l → pack_node n all ws i ≡ given row
      → length row ≡ packed_node_words
      → m ≡ sets l (4 * packed_place i) (bytes_of row) → Packing (i + 1) d m
  unfolding pack_nodes ◌then◌
  packing-one {i} {d} {l} {m} row p e eight put =
      let at : 4 * header_words + length (bytes_of p.nodes) ≡ 4 * packed_place i =
      omega (arith, length-bytes_of p.nodes, p.size) in
      record {
        nodes = p.nodes ++ row;
        is = rw (add-one i, p.is, e);
        size = length-append p.nodes row ∙ omega (arith, p.size, eight);
        words =
            put ∙ ap (λ (z : List ℕ). sets z (4 * packed_place i) (bytes_of row)) p.words
            ∙ ap (λ (k : ℕ). sets (sets d (4 * header_words) (bytes_of p.nodes)) k (bytes_of row)) (sym at)
            ∙ sym (ap (sets d (4 * header_words)) (bytes_of-append p.nodes row) ∙ sets-append d (4 * header_words)
            (bytes_of p.nodes) (bytes_of row));
      }

  stays : (j m k : ℕ) → pack_nodes n all ws m ≡ refused k → pack_nodes n all ws (j + m) ≡ refused k
  unfolding pack_nodes ◌then◌
  stays zero m k e = let z : 0 + m ≡ m = omega arith in rw z e
  stays (suc j) m k e = let z : suc j + m ≡ suc (j + m) = omega arith in rw (z, stays j m k e)

  refused-at : (i k : ℕ) (nodes : List ℕ) → pack_nodes n all ws i ≡ given nodes → pack_node n all ws i ≡ refused k
      → pack_nodes n all ws (suc i) ≡ refused k
  unfolding pack_nodes ◌then◌
  refused-at i k nodes e h = rw (e, h)

  pub packing-refused : {i : ℕ} {d l : List ℕ} (k : ℕ) → Packing i d l → i < n → pack_node n all ws i ≡ refused k
      → packed_tree ws n (some all) ≡ refused k
  unfolding packed_tree ◌then◌
  packing-refused {i} k p h e =
      let to : n - suc i + suc i ≡ n = omega arith in
      let whole : pack_nodes n all ws n ≡ refused k =
      rw to at (stays (n - suc i) (suc i) k (refused-at i k p.nodes p.is e)) in
      rw whole

  pub packing-all : {i : ℕ} {d l : List ℕ} (p : Packing i d l) → i ≡ n
      → packed_tree ws n (some all) ≡ given (some (header all ++ p.nodes))
  unfolding packed_tree ◌then◌
  packing-all {i} p e =
      let whole : pack_nodes n all ws n ≡ given p.nodes = subst (λ (k : ℕ). pack_nodes n all ws k ≡ given p.nodes) e
      p.is in rw whole

  pub packing-length : {i : ℕ} {d l : List ℕ} → Packing i d l → length l ≡ length d
  packing-length {i} {d} p = ap length p.words ∙ length-sets d (4 * header_words) (bytes_of p.nodes)

  module _ (before : List ℕ) {i : ℕ} {d l : List ℕ} (some-node : 0 < n) (room : 4 * packed_reserve n ≤ length before)
      (head : d ≡ sets before 0 (bytes_of (header all))) (p : Packing i d l) where
    reserve : packed_reserve n ≡ packed_place n
    reserve = reserve-some n some-node

    size : length l ≡ length before
    size = packing-length p ∙ ap length head ∙ length-sets before 0 (bytes_of (header all))

    -- a node is refused, and the reserve zeroed
    pub outcome-refused : {m : List ℕ} (k : ℕ) → i < n → pack_node n all ws i ≡ refused k
        → m ≡ filled l 0 (4 * packed_reserve n) 0
        → (refused k ≡ words_packed (packed_tree ws n (some all)))
        × (m ≡ tray packed_bytes (4 * packed_reserve n) (packed_tree ws n (some all)) before)
    outcome-refused {m} k h e zeroed =
        let nodes-size : length (bytes_of p.nodes) ≡ 4 * (packed_node_words * i) =
        rw (← p.size) (length-bytes_of p.nodes) in
        let head-size : length (bytes_of (header all)) ≡ 4 * header_words = length-bytes_of (header all) in
        let behind : drop (4 * packed_reserve n) l ≡ drop (4 * packed_reserve n) before =
        ap (drop (4 * packed_reserve n)) p.words
        ∙ drop-sets (4 * packed_reserve n) (bytes_of p.nodes) d (4 * header_words) (omega (arith, nodes-size, reserve))
        ∙ ap (drop (4 * packed_reserve n)) head
        ∙ drop-sets (4 * packed_reserve n) (bytes_of (header all)) before 0 (omega (arith, head-size, reserve)) in
        rw (packing-refused k p h e) (
          refl,
          zeroed ∙ tray-zeroed packed_bytes (4 * packed_reserve n) before l k (omega (arith, size)) behind
              (only-number (late_pack n all ws i) e),
        )

    -- every node is packed
    pub outcome-given : i ≡ n
        → (given (some (packed_place n)) ≡ words_packed (packed_tree ws n (some all)))
        × (l ≡ tray packed_bytes (4 * packed_reserve n) (packed_tree ws n (some all)) before)
    outcome-given e =
        let count : length (header all ++ p.nodes) ≡ packed_reserve n =
        length-append (header all) p.nodes ∙ omega (arith, p.size, reserve) in
        let bytes : length (bytes_of (header all ++ p.nodes)) ≡ 4 * packed_reserve n =
        rw (← count) (length-bytes_of (header all ++ p.nodes)) in
        let head-size : 0 + length (bytes_of (header all)) ≡ 4 * header_words =
        omega (arith, length-bytes_of (header all)) in
        let at : 0 + length (bytes_of (header all ++ p.nodes)) ≡ 4 * packed_reserve n = omega (arith, bytes) in
        let whole : l ≡ sets before 0 (bytes_of (header all ++ p.nodes)) =
        p.words
        ∙ ap (λ (z : List ℕ). sets z 32 (bytes_of p.nodes)) head
        ∙ ap (λ (k : ℕ). sets (sets before 0 (bytes_of (header all))) k (bytes_of p.nodes)) (sym head-size)
        ∙ sym (ap (sets before 0) (bytes_of-append (header all) p.nodes) ∙ sets-append before 0 (bytes_of (header all))
        (bytes_of p.nodes)) in
        rw (packing-all p e) (
          ap (λ (k : ℕ). given (some k)) (sym (count ∙ reserve)),
          whole ∙ sets-eq (bytes_of (header all ++ p.nodes)) before 0 (omega (arith, at))
              ∙ ap (λ (k : ℕ). bytes_of (header all ++ p.nodes) ++ drop k before) at
              ∙ sym (tray-full packed_bytes (4 * packed_reserve n) before (some (header all ++ p.nodes)) bytes),
        )

-- ---- the whole

early-count : (bytes : List ℕ) → Early (node_count bytes)
unfolding node_count
early-count bytes =
    only-cond (ltb max_nodes (length bytes / node_bytes)) (only-refused (omega arith))
    (only-cond (eqb (length bytes % node_bytes) 0) only-given (only-refused (omega arith)))

early_check : (nodes : List ℕ) (room : ℕ) → Early (pack_check nodes room)
unfolding pack_check
early_check nodes room =
    only_then (early-count nodes) (λ n. only-cond (ltb room (4 * packed_reserve n))
    (only-refused (omega arith)) only-given)

late-agreed : (n k : ℕ) (all : Option Bounds3) → Late (agreed n k all)
unfolding agreed
late-agreed n k none = only-cond (eqb n 0 && eqb k 0) only-given (only-refused (omega arith))
late-agreed n k (some all) =
    only-cond (eqb n 0 || eqb k 0) (only-refused (omega arith)) (only_then (late-box all) (λ _. only-given))

module _ (n k : ℕ) where
  pub agreed-empty : (all : Bounds3) → n ≡ 0 → agreed n k (some all) ≡ refused 12
  unfolding agreed
  agreed-empty all e = rw (eq-eqb n 0 e)

  pub agreed-dark : (all : Bounds3) → (n ≡ 0 → ⊥) → k ≡ 0 → agreed n k (some all) ≡ refused 12
  unfolding agreed
  agreed-dark all h e = rw (ne_eqb n 0 h, eq-eqb k 0 e)

  pub agreed-valid : (all : Bounds3) → (n ≡ 0 → ⊥) → (k ≡ 0 → ⊥) → box_check all ≡ given tt
      → agreed n k (some all) ≡ given (some all)
  unfolding agreed ◌then◌
  agreed-valid all some-node some-lamp e = rw (ne_eqb n 0 some-node, ne_eqb k 0 some-lamp, e)

  pub agreed-refused : (all : Bounds3) → (n ≡ 0 → ⊥) → (k ≡ 0 → ⊥) → (j : ℕ) → box_check all ≡ refused j
      → agreed n k (some all) ≡ refused j
  unfolding agreed ◌then◌
  agreed-refused all some-node some-lamp j e = rw (ne_eqb n 0 some-node, ne_eqb k 0 some-lamp, e)

  pub agreed-nothing : n ≡ 0 → k ≡ 0 → agreed n k none ≡ given none
  unfolding agreed
  agreed-nothing h e = rw (eq-eqb n 0 h, eq-eqb k 0 e)

  pub agreed-lamps : n ≡ 0 → (k ≡ 0 → ⊥) → agreed n k none ≡ refused 12
  unfolding agreed
  agreed-lamps h e = rw (eq-eqb n 0 h, ne_eqb k 0 e)

  pub agreed-nodes : (n ≡ 0 → ⊥) → agreed n k none ≡ refused 12
  unfolding agreed
  agreed-nodes h = rw (ne_eqb n 0 h)

-- counted nodes: the room is short, or it is enough
module _ (nodes : List ℕ) (room : ℕ) {n : ℕ} (counted : given n ≡ node_count nodes) where
  reserve-known : bytes_reserve nodes ≡ 4 * packed_reserve n
  reserve-known = ap (λ (m : ℕ). 4 * packed_reserve m) (count-known nodes n (sym counted)).1

  pub check-short : room < bytes_reserve nodes → refused 3 ≡ pack_check nodes room
  unfolding pack_check ◌then◌
  check-short h = rw (← counted, ← reserve-known, lt-ltb room (bytes_reserve nodes) h)

  pub check-enough : bytes_reserve nodes ≤ room → given n ≡ pack_check nodes room
  unfolding pack_check ◌then◌
  check-enough h = rw (← counted, ← reserve-known, le-ltb room (bytes_reserve nodes) h)

pub check_uncounted : (nodes : List ℕ) (room : ℕ) {k : ℕ} → refused k ≡ node_count nodes
    → refused k ≡ pack_check nodes room
unfolding pack_check ◌then◌
check_uncounted nodes room e = rw (← e)

pub ruleset room_checks = (check_uncounted, check-short, check-enough)

-- nodes that pass the first checks: how many, and the room is lent
pub check-known : (nodes before : List ℕ) (n : ℕ) → pack_check nodes (length before) ≡ given n
    → (length nodes / node_bytes ≡ n) × (bytes_reserve nodes ≤ length before)
unfolding pack_check ◌then◌
check-known nodes before n h =
    let (m, counted, passed) =
    then-given (node_count nodes) (λ (m : ℕ). cond (ltb (length before) (4 * packed_reserve m)) (refused 3)
    (given m)) n h in
    let (few, is) = count-known nodes m counted in
    go m is (ltb (length before) (4 * packed_reserve m)) refl passed
  where
    go : (m : ℕ) → length nodes / node_bytes ≡ m → (b : Bool)
        → ltb (length before) (4 * packed_reserve m) ≡ b
        → cond b (refused 3) (given m) ≡ given n
        → (length nodes / node_bytes ≡ n) × (bytes_reserve nodes ≤ length before)
    go m is true e g = absurd (not-both g refl)
    go m is false e g =
        (is ∙ given_injective g, rw is (ltb-false (length before) (4 * packed_reserve m) e))

-- what agrees has nodes where there is a box, and none without
module _ (n k : ℕ) where
  pub agreed-some : (all : Option Bounds3) {box : Bounds3} → agreed n k all ≡ given (some box) → 0 < n
  unfolding agreed ◌then◌
  agreed-some none {box} e = go (eqb n 0 && eqb k 0) e
    where
      go : (b : Bool) → cond b (given none) (refused 12) ≡ given (some box) → 0 < n
      go true e = cc
      go false e = cc
  agreed-some (some all) {box} e = go (eqb n 0) refl (eqb k 0) e
    where
      go : (a : Bool) → eqb n 0 ≡ a → (b : Bool)
          → cond (a || b) (refused 12) (box_check all then λ _. given (some all)) ≡ given (some box)
          → 0 < n
      go true is b e = cc
      go false is b e = omega (arith, eqb-false n 0 is)

  pub agreed-none : (all : Option Bounds3) → agreed n k all ≡ given none → n ≡ 0
  unfolding agreed ◌then◌
  agreed-none none e = go (eqb n 0) refl (eqb k 0) none e
    where
      go : (a : Bool) → eqb n 0 ≡ a → (b : Bool) (v : Option Bounds3) → cond (a && b) (given v) (refused 12) ≡ given v
          → n ≡ 0
      go true is b v e = eqb-true n 0 is
      go false is b v e = cc
  agreed-none (some all) e = go (eqb n 0 || eqb k 0) (box_check all) e
    where
      go : (b : Bool) (x : Answer (Unit {0})) → cond b (refused 12) (x then λ _. given (some all)) ≡ given none
          → n ≡ 0
      go true x e = cc
      go false (given u) e = cc
      go false (refused j) e = cc

module _ (nodes : List ℕ) (k : ℕ) (all : Option Bounds3) (before : List ℕ) where
  -- what is answered, and what is left in the lent bytes
  abbrev pub Outcome : Answer (Option ℕ) → List ℕ → Type 0
  Outcome a after = (a ≡ words_packed (pack_light_bvh nodes k all (length before)))
      × (after ≡ tray packed_bytes (bytes_reserve nodes) (pack_light_bvh nodes k all (length before)) before)

  pub outcome-early : (j : ℕ) → pack_check nodes (length before) ≡ refused j → Outcome (refused j) before
  unfolding pack_light_bvh ◌then◌
  outcome-early j e =
      let is : pack_light_bvh nodes k all (length before) ≡ refused j = rw e in
      rw is (
        refl,
        sym (tray-early packed_bytes (bytes_reserve nodes) before j
            (only-number (early_check nodes (length before)) e)),
      )

  module _ (n : ℕ) (h : pack_check nodes (length before) ≡ given n) where
    pub outcome_late : {a : Answer (Option ℕ)} {after : List ℕ} (j : ℕ) → agreed n k all ≡ refused j → a ≡ refused j
        → after ≡ filled before 0 (bytes_reserve nodes) 0 → Outcome a after
    unfolding pack_light_bvh ◌then◌
    outcome_late j e refusal zeroed =
        let (counted, room) = check-known nodes before n h in
        let is : pack_light_bvh nodes k all (length before) ≡ refused j = rw (h, e) in
        rw is (
          refusal,
          zeroed ∙ tray-zeroed packed_bytes (bytes_reserve nodes) before before j room refl
              (only-number (late-agreed n k all) e),
        )

    pub outcome-agreed : {a : Answer (Option ℕ)} {after : List ℕ} (box : Option Bounds3) → agreed n k all ≡ given box
        → a ≡ words_packed (packed_tree (words_of nodes) (length nodes / node_bytes) box)
        → after ≡ tray packed_bytes (bytes_reserve nodes) (packed_tree (words_of nodes) (length nodes / node_bytes) box)
        before → Outcome a after
    unfolding pack_light_bvh ◌then◌
    outcome-agreed box e words bytes =
        let (counted, room) = check-known nodes before n h in
        let is : pack_light_bvh nodes k all (length before) ≡ packed_tree (words_of nodes) (length nodes / node_bytes)
        box = rw (h, e, counted) in
        rw is (words, bytes)

    pub outcome-nothing : n ≡ 0 → agreed n k all ≡ given none → Outcome (given none) before
    unfolding packed_tree tray
    outcome-nothing z e =
        let (counted, room) = check-known nodes before n h in
        let none-there : length nodes / node_bytes ≡ 0 = counted ∙ z in
        outcome-agreed none e refl (rw none-there)
