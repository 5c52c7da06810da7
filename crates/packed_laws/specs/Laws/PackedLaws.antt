-- What packed words hold: the overall box in front, a zero behind each corner (`packed-header`, `packed-zeros`), and
-- eight words a node (`packed-length`). The last two give back the node exactly, its handle or its children and its
-- parent (`packed-node`), and the first three its box in steps (`packed-box`). Assumes nothing.
use Prim.Native.Nat.{ℕ, zero, suc, ◌+◌, ◌-◌, ◌*◌, ◌/◌, ◌%◌, ◌≤◌, ◌<◌}
use Rattle.std.specs.Prelude.{◌≡◌, refl, Bool, true, false, cond, ◌&&◌, ◌||◌, eqb, ltb, length, get_or, take}
use Rattle.std.proofs.Common.{ap, sym, ◌∙◌, add-zero, arith, ltb-true, ltb-false, eqb-true, le-leb, length-append}
use Rattle.std.proofs.Common.{get_or-append-add}
use Rattle.std.proofs.Math.Path.{subst}
use mathlib.Core.List.{List, ◌++◌}
use Rattle.std.proofs.Math.Option.{Option, none, some, some-injective, none-ne-some}
use Rattle.std.proofs.lemmas.Bool.{lt-leb}
use Rattle.std.proofs.Math.ListN.{get_or-append}
use Rattle.words.specs.Answers.{Answer, given, refused, ◌then◌}
use Rattle.words.specs.LittleEndian.{words_of}
use Rattle.words.proofs.AnswerLaws.{then-given, given_injective, not-both, cond-given, cond-kept}
use Rattle.light_bounds.specs.Bounds.{box_check}
use Rattle.light_bounds.specs.LightBounds.{validate}
use Rattle.light_bounds.specs.Vecmath.{normalize_by_division}
use Rattle.light_bounds.specs.declared.bounds.Bounds3.{Bounds3}
use Rattle.light_bounds.specs.declared.light_bounds.LightBounds.{LightBounds}
use Rattle.light_bounds.specs.declared.vecmath.Vec3.{Vec3}
use Rattle.light_rows.specs.Nodes.{LightBVHNode, leaf, interior, parent, node_bytes, node_count, node_at, bounds_at}
use Rattle.packed_bvh.specs.Packed.{header_words, packed_node_words, index_max, leaf_bit, paired, payload, payload_word}
use Rattle.packed_bvh.specs.Packed.{compact_words, payload_check, parent_check, left_check, pack_node, pack_nodes}
use Rattle.packed_bvh.specs.Packed.{header}
use Rattle.packed_bvh.specs.Packed.{packed_place, packed_reserve, pack_check, agreed, packed_tree, pack_light_bvh}
use Rattle.packed_bvh.specs.Quantize.{quantize_bounds}
use Rattle.packed_bvh.specs.Laws.QuantizeLaws.{quantize-small}
use Rattle.packed_bvh.proofs.PackLaws.{count-known}
use Rattle.packed_bvh.specs.AsCoded.PackedRead.{read_node, read_box, box_at, box_steps}

-- ---- a node

payload-small : (n : LightBVHNode) → payload_check n ≡ given tt → payload n ≤ index_max
unfolding payload_check
payload-small n e = ltb-false index_max (payload n) (cond-kept (ltb index_max (payload n)) tt 13 tt e).0

left-next : (i l r p : ℕ) → left_check i (interior l r p) ≡ given tt → l ≡ i + 1
unfolding left_check
left-next i l r p e = eqb-true l (i + 1) (cond-given (eqb l (i + 1)) tt 12 tt e).0

-- a node that passed its checks is read from its payload's word and its parent
node-back : (i : ℕ) (n : LightBVHNode) → payload_check n ≡ given tt → left_check i n ≡ given tt
    → n ≡ read_node i (payload_word n) (parent n)
unfolding read_node
node-back i (leaf h p) small left =
    let over : leaf_bit + h - leaf_bit ≡ h = omega arith in
    rw (le-leb leaf_bit (leaf_bit + h) (omega arith), over)
node-back i (interior l r p) small left =
    let low = payload-small (interior l r p) small in
    rw (lt-leb leaf_bit r (omega arith), left-next i l r p left)

-- the words of a node that is packed, within the overall box
record Row (all : Bounds3) (ws : List ℕ) (i : ℕ) (row : List ℕ) : Type 0 where
  node : LightBVHNode
  own : LightBounds
  node-is : node_at ws i ≡ given node
  own_is : bounds_at ws i ≡ given own
  passes : validate own ≡ given tt
  back : node ≡ read_node i (payload_word node) (parent node)
  unit : (d : Vec3) × (compact_words all own d (payload_word node) (parent node) ≡ row)

-- behind its record's checks
placed : (count : ℕ) (all : Bounds3) (ws : List ℕ) (i : ℕ) (n : LightBVHNode) (b : LightBounds) (d : Vec3)
    (row : List ℕ)
    → node_at ws i ≡ given n → bounds_at ws i ≡ given b → validate b ≡ given tt
    → (payload_check n then λ _. parent_check count n then λ _. left_check i n then λ _. given
    (compact_words all b d (payload_word n) (parent n))) ≡ given row
    → Row all ws i row
placed count all ws i n b d row node own passes e =
    let words = compact_words all b d (payload_word n) (parent n) in
    let (_, small, e₁) =
    then-given (payload_check n) (λ _. parent_check count n then λ _. left_check i n then λ _. given words) row e in
    let (_, _, e₂) = then-given (parent_check count n) (λ _. left_check i n then λ _. given words) row e₁ in
    let (_, left, e₃) = then-given (left_check i n) (λ _. given words) row e₂ in
    record {
      node = n;
      own = b;
      node-is = node;
      own_is = own;
      passes = passes;
      back = node-back i n small left;
      unit = (d, given_injective {a = words} e₃);
    }

row_of : (count : ℕ) (all : Bounds3) (ws : List ℕ) (i : ℕ) (row : List ℕ) → pack_node count all ws i ≡ given row
    → Row all ws i row
unfolding pack_node
row_of count all ws i row e =
    let rest : LightBVHNode → LightBounds → Vec3 → Answer (List ℕ) =
    λ n b d. payload_check n then λ _. parent_check count n then λ _. left_check i n then λ _. given
    (compact_words all b d (payload_word n) (parent n)) in
    let (n, node, e₁) =
    then-given (node_at ws i)
    (λ (n : LightBVHNode). bounds_at ws i then λ (b : LightBounds). validate b then λ _. normalize_by_division
    b.direction then λ (d : Vec3). rest n b d)
    row e in
    let (b, own, e₂) =
    then-given (bounds_at ws i)
    (λ (b : LightBounds). validate b then λ _. normalize_by_division b.direction then λ
    (d : Vec3). rest n b d) row e₁ in
    let (_, passes, e₃) =
    then-given (validate b) (λ _. normalize_by_division b.direction then λ (d : Vec3). rest n b d) row e₂ in
    let (d, _, e₄) = then-given (normalize_by_division b.direction) (λ (d : Vec3). rest n b d) row e₃ in
    placed count all ws i n b d row node own passes e₄

row-size : (all : Bounds3) (ws : List ℕ) (i : ℕ) (row : List ℕ) → Row all ws i row → length row ≡ packed_node_words
unfolding compact_words
row-size all ws i row r = rw (← r.unit.1) refl

row-node : (all : Bounds3) (ws : List ℕ) (i : ℕ) (row : List ℕ) → Row all ws i row
    → node_at ws i ≡ given (read_node i (get_or row 6 0) (get_or row 7 0))
unfolding compact_words
row-node all ws i row r = rw (← r.unit.1) (r.node-is ∙ ap given r.back)

-- two numbers of sixteen bits come back
halves : (low high : ℕ) → low ≤ 65535 → (paired low high % 0x1_0000 ≡ low) × (paired low high / 0x1_0000 ≡ high)
halves low high l = (omega arith, omega arith)

words-box : (a b c d e f : ℕ) → a ≤ 65535 → c ≤ 65535 → e ≤ 65535
    → read_box (paired a b) (paired c d) (paired e f)
    ≡ record { min-x = a; min-y = b; min-z = c; max-x = d; max-y = e; max-z = f }
unfolding read_box
words-box a b c d e f h k l =
    rw ((halves a b h).0, (halves a b h).1, (halves c d k).0, (halves c d k).1, (halves e f l).0, (halves e f l).1)

row-box : (all : Bounds3) (ws : List ℕ) (i : ℕ) (row : List ℕ) (b : LightBounds) → Row all ws i row
    → bounds_at ws i ≡ given b
    → read_box (get_or row 0 0) (get_or row 1 0) (get_or row 2 0) ≡ box_steps all b.bounds
unfolding compact_words box_steps
row-box all ws i row b r e =
    let same : r.own ≡ b = given_injective (sym r.own_is ∙ e) in
    let min = r.own.bounds.min in
    let max = r.own.bounds.max in
    rw (← r.unit.1, ← same)
    (words-box (quantize_bounds false min.x all.min.x all.max.x)
    (quantize_bounds false min.y all.min.y all.max.y)
    (quantize_bounds false min.z all.min.z all.max.z)
    (quantize_bounds true max.x all.min.x all.max.x)
    (quantize_bounds true max.y all.min.y all.max.y)
    (quantize_bounds true max.z all.min.z all.max.z)
    (quantize-small false min.x all.min.x all.max.x)
    (quantize-small false min.z all.min.z all.max.z)
    (quantize-small true max.y all.min.y all.max.y))

-- ---- the nodes

-- the words of n nodes, one behind another
record Rows (all : Bounds3) (ws : List ℕ) (n : ℕ) (rows : List ℕ) : Type 0 where
  size : length rows ≡ packed_node_words * n
  each : (i : ℕ) → i < n
      → (row : List ℕ) × Row all ws i row
      × ((j : ℕ) → j < packed_node_words → get_or rows (packed_node_words * i + j) 0 ≡ get_or row j 0)

module _ (all : Bounds3) (ws : List ℕ) where
  rows-one : (n : ℕ) (rows row : List ℕ) → Rows all ws n rows → Row all ws n row → Rows all ws (suc n) (rows ++ row)
  rows-one n rows row before last =
      record {
        size = length-append rows row ∙
            omega (arith, before.size, row-size all ws n row last);
        each = λ i l. go i l (ltb i n) refl;
      }
    where
      go : (i : ℕ) → i < suc n → (b : Bool) → ltb i n ≡ b
          → (r : List ℕ) × Row all ws i r
          × ((j : ℕ) → j < packed_node_words → get_or (rows ++ row) (packed_node_words * i + j) 0 ≡ get_or r j 0)
      go i l true e =
          let low = ltb-true i n e in
          let (r, is, words) = before.each i low in (
            r,
            is,
            λ j few. get_or-append rows row 0 (packed_node_words * i + j) (omega (arith, before.size)) ∙
                words j few,
          )
      go i l false e =
          let here : i ≡ n = omega (arith, ltb-false i n e) in
          (row, rw here last, λ j few. rw (here, ← before.size) (get_or-append-add rows row j 0))

  rows_of : (count n : ℕ) (rows : List ℕ) → pack_nodes count all ws n ≡ given rows → Rows all ws n rows
  unfolding pack_nodes
  rows_of count zero rows e =
      subst (Rows all ws 0) (given_injective e) (record { size = refl; each = λ i l. absurd (omega arith) })
  rows_of count (suc n) rows e =
      let (before, is, e₁) =
      then-given (pack_nodes count all ws n)
      (λ (before : List ℕ). pack_node count all ws n then λ (node : List ℕ). given (before ++ node)) rows e in
      let (row, last, e₂) = then-given (pack_node count all ws n) (λ (node : List ℕ). given (before ++ node)) rows e₁ in
      subst (Rows all ws (suc n)) (given_injective e₂)
      (rows-one n before row (rows_of count n before is) (row_of count all ws n row last))

-- ---- the tree

check-count : (nodes : List ℕ) (room n : ℕ) → pack_check nodes room ≡ given n → length nodes / node_bytes ≡ n
unfolding pack_check
check-count nodes room n e =
    let (m, counted, e₁) =
    then-given (node_count nodes) (λ (m : ℕ). cond (ltb room (4 * packed_reserve m)) (refused 3) (given m)) n e in
    (count-known nodes m counted).1 ∙ (cond-kept (ltb room (4 * packed_reserve m)) m 3 n e₁).1

-- what is agreed on is the box that was handed over
agreed-is : (n k : ℕ) (all box : Option Bounds3) → agreed n k all ≡ given box → all ≡ box
unfolding agreed
agreed-is n k none box e = go (eqb n 0 && eqb k 0) e
  where
    go : (b : Bool) → cond b (given none) (refused 12) ≡ given box → none ≡ box
    go true e = given_injective e
    go false e = absurd (not-both e refl)
agreed-is n k (some all) box e = go (eqb n 0 || eqb k 0) e
  where
    go : (b : Bool) → cond b (refused 12) (box_check all then λ _. given (some all)) ≡ given box → some all ≡ box
    go true e = absurd (not-both e refl)
    go false e = given_injective (then-given (box_check all) (λ _. given (some all)) box e).2

-- packed words are the header of the box and the words of the nodes
record Made (nodes : List ℕ) (all : Option Bounds3) (ws : List ℕ) : Type 0 where
  box : Bounds3
  handed : all ≡ some box
  rows : List ℕ
  rows_are : Rows box (words_of nodes) (length nodes / node_bytes) rows
  is : header box ++ rows ≡ ws

tree-made : (nodes : List ℕ) (n : ℕ) (box : Option Bounds3) (ws : List ℕ) → length nodes / node_bytes ≡ n
    → packed_tree (words_of nodes) n box ≡ given (some ws) → Made nodes box ws
unfolding packed_tree
tree-made nodes n none ws count e = absurd (none-ne-some ws (given_injective e))
tree-made nodes n (some all) ws count e =
    let (rows, packed, e₁) =
    then-given (pack_nodes n all (words_of nodes) n) (λ (nodes : List ℕ). given (some (header all ++ nodes)))
    (some ws) e in
    record {
      box = all;
      handed = refl;
      rows = rows;
      rows_are = rw count (rows_of all (words_of nodes) n n rows packed);
      is = some-injective (header all ++ rows) ws (given_injective e₁);
    }

module _ (nodes : List ℕ) (all : Option Bounds3) (ws : List ℕ) (m : Made nodes all ws) where
  made-length : length ws ≡ packed_place (length nodes / node_bytes)
  made-length = rw (← m.is) (length-append (header m.box) m.rows ∙ omega (arith, m.rows_are.size))

  -- the words of the node at place i
  made_row : (i : ℕ) → i < length nodes / node_bytes
      → (row : List ℕ) × Row m.box (words_of nodes) i row
      × ((j : ℕ) → j < packed_node_words → get_or ws (packed_place i + j) 0 ≡ get_or row j 0)
  made_row i l =
      let (row, is, words) = m.rows_are.each i l in
      (row, is, λ j few. behind j ∙ words j few)
    where
      behind : (j : ℕ) → get_or ws (packed_place i + j) 0 ≡ get_or m.rows (packed_node_words * i + j) 0
      behind j =
          let at : packed_place i + j ≡ header_words + (packed_node_words * i + j) = omega arith in
          rw (← m.is, at) (get_or-append-add (header m.box) m.rows (packed_node_words * i + j) 0)

  made-node : (i : ℕ) → i < length nodes / node_bytes
      → node_at (words_of nodes) i ≡ given (read_node i (get_or ws (packed_place i + 6) 0) (get_or ws
      (packed_place i + 7) 0))
  made-node i l =
      let (row, is, words) = made_row i l in
      rw (words 6 (omega arith), words 7 (omega arith)) (row-node m.box (words_of nodes) i row is)

  made-box : (i : ℕ) (b : LightBounds) → i < length nodes / node_bytes → bounds_at (words_of nodes) i ≡ given b
      → box_at ws i ≡ box_steps m.box b.bounds
  made-box i b l e =
      let (row, is, words) = made_row i l in
      let first : get_or ws (packed_place i) 0 ≡ get_or row 0 0 =
      ap (λ (k : ℕ). get_or ws k 0) (sym (add-zero (packed_place i))) ∙ words 0 (omega arith) in
      rw (first, words 1 (omega arith), words 2 (omega arith)) (row-box m.box (words_of nodes) i row b is e)

  made-valid : (i : ℕ) (b : LightBounds) → i < length nodes / node_bytes → bounds_at (words_of nodes) i ≡ given b
      → validate b ≡ given tt
  made-valid i b l e =
      let (row, is, words) = made_row i l in
      subst (λ (r : LightBounds). validate r ≡ given tt) (given_injective (sym is.own_is ∙ e)) is.passes

  made-header : take header_words ws ≡ header m.box
  made-header = rw (← m.is) refl

  made-zeros : (get_or ws 3 0 ≡ 0) × (get_or ws 7 0 ≡ 0)
  made-zeros = rw (← m.is) (refl, refl)

module _ (nodes : List ℕ) (k : ℕ) (all : Option Bounds3) (room : ℕ) (ws : List ℕ)
    (e : pack_light_bvh nodes k all room ≡ given (some ws)) where
  made : Made nodes all ws
  unfolding pack_light_bvh
  made =
      let (n, checked, e₁) =
      then-given (pack_check nodes room)
      (λ (n : ℕ). agreed n k all then λ (box : Option Bounds3). packed_tree (words_of nodes) n box) (some ws) e in
      let (box, agrees, e₂) =
      then-given (agreed n k all) (λ (box : Option Bounds3). packed_tree (words_of nodes) n box) (some ws) e₁ in
      rw (agreed-is n k all box agrees) (tree-made nodes n box ws (check-count nodes room n checked) e₂)

  pub packed-length : length ws ≡ packed_place (length nodes / node_bytes)
  packed-length = made-length nodes all ws made

  -- parents, children and handles come back exactly, whatever nodes were packed
  pub packed-node : (i : ℕ) → i < length nodes / node_bytes
      → node_at (words_of nodes) i ≡ given (read_node i (get_or ws (packed_place i + 6) 0) (get_or ws
      (packed_place i + 7) 0))
  packed-node = made-node nodes all ws made

  -- each record passed its check
  pub packed-valid : (i : ℕ) → i < length nodes / node_bytes → (b : LightBounds)
      → bounds_at (words_of nodes) i ≡ given
      b
      → validate b ≡ given tt
  packed-valid i l b e = made-valid nodes all ws made i b l e

  -- and its box is packed in steps
  pub packed-box : (box : Bounds3) → all ≡ some box → (i : ℕ) → i < length nodes / node_bytes → (b : LightBounds)
      → bounds_at (words_of nodes) i ≡ given b
      → box_at ws i ≡ box_steps box b.bounds
  packed-box box is i l b e =
      rw (some-injective box made.box (sym is ∙ made.handed)) (made-box nodes all ws made i b l e)

  -- a box was handed over, and the first eight words are its corners, a zero behind each
  pub packed-header : (box : Bounds3) × (all ≡ some box) × (take header_words ws ≡ header box)
  packed-header = (made.box, made.handed, made-header nodes all ws made)

  pub packed-zeros : (get_or ws 3 0 ≡ 0) × (get_or ws 7 0 ≡ 0)
  packed-zeros = made-zeros nodes all ws made
