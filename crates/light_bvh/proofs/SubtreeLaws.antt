-- The tree of a stretch by those of its halves. Each half has a handle, and both together have the stretch's
-- (`halves`), so the depth that bounds a build is enough at the stretch's length (`depth`, `build-fork`, `build-leaf`);
-- a tree has as many leaves as its stretch has handles and a record of floats of the format (`build-sized`), so its
-- root is read back from its words as it is (`union-read`, `joined-read`). Assumes nothing.
use Prim.Native.Nat.{ℕ, zero, suc, ◌+◌, ◌-◌, ◌*◌, ◌/◌, ◌^◌, ◌≤◌, ◌<◌}
use mathlib.Core.Path.{◌≡◌, refl, ap, sym, ◌∙◌}
use mathlib.Core.Bool.{Bool, true, false, ◌&&◌}
use mathlib.Core.List.{List, [], ◌∷◌, ◌++◌, append-nil, append_assoc}
use mathlib.Core.Logic.{◌⊎◌, inl, inr}
use native.Mathlib.Omega.{arith}
use borrow.Author.Tests.{eqb-true, eqb-false, le-ltb, lt-ltb}
use lib.Dec.{eqb, leb}
use lib.ListN.{length, get_or, take, drop, length-append, length-drop, drop_of_length-le}
use lib.Seq.{sets-eq, take_at, drop_at, take_all, length-take-le}
use borrow.Rule.Slice.PartMut.{mid_of, put_mid, mid_len, same_len_mid}
use Rattle.words.specs.Answers.{Answer, given, refused, ◌then◌}
use Rattle.words.proofs.AnswerLaws.{Gives, gives, gives_none, gives-any, gives_then}
use Rattle.words.proofs.AnswerLaws.{gives-value, given_injective, refused_injective, then-given, not-both}
use Rattle.words.proofs.AnswerLaws.{then_same, then-refused, then_is, gives_of, cond-given}
use Rattle.light_bounds.proofs.BoundsLaws.{union-given}
use Rattle.light_bounds.specs.LightBounds.{union}
use Rattle.light_rows.specs.Laws.RecordLaws.{RecordFits, join-fits, record-fits-read}
use Rattle.light_rows.specs.RecordWords.{read_record, record_at, record_words, side_place}
use Rattle.light_bounds.specs.Side.{side_known}
use Rattle.light_bounds.specs.declared.light_bounds.LightBounds.{LightBounds}
use Rattle.light_rows.specs.Nodes.{LightBVHNode, leaf as leaf_node, interior, node_words, node_place, bounds_place}
use Rattle.light_rows.specs.Nodes.{bounds_at, node_list}
use Rattle.light_rows.specs.AsCoded.NodeRow.{head_fits, node_written}
use Rattle.light_rows.specs.Tree.{Tree, leaf, fork, bounds, leaves, flatten, right_place}
use Rattle.light_rows.specs.Laws.TreeLaws.{length-node_list, length-flatten, root-bounds-at}
use Rattle.light_rows.proofs.NodePlaces.{node_written-room}
use Rattle.light_split.specs.Lights.{light_of}
use Rattle.light_split.specs.Partition.{lefts, rights, partition_handles}
use Rattle.light_split.specs.AsCoded.Parted.{parted_count, parted_handles}
use Rattle.light_split.specs.Split.{choose_split}
use Rattle.light_split.specs.declared.split.Split.{Split}
use Rattle.light_split.proofs.PartitionLaws.{both_lengths, partition-joined, partition-half, partition-both}
use Rattle.light_bvh.specs.Subtree.{label_of, forked, tree_by, build_subtree}
use Rattle.light_bvh.specs.AsCoded.Stretches.{done, subtree_words}
use Rattle.light_bvh.specs.AsCoded.Stretches.{split_count, split_handles, union_at, joined_words}

-- ---- the halves

count-within : (n l p : ℕ) → 2 ≤ n → ((l ≡ 0) ⊎ (l ≡ n) → p ≡ n / 2) → ((l ≡ 0 → ⊥) → (l ≡ n → ⊥) → p ≡ l) → l ≤ n →
    (1 ≤ p) × (p < n)
count-within n l p h half both k = go (eqb l 0) (eqb l n) refl refl
  where
    go : (a b : Bool) → eqb l 0 ≡ a → eqb l n ≡ b → (1 ≤ p) × (p < n)
    go true b e f =
        let q = half (inl (eqb-true l 0 e)) in
        (omega arith, omega arith)
    go false true e f =
        let q = half (inr (eqb-true l n f)) in
        (omega arith, omega arith)
    go false false e f =
        let some = eqb-false l 0 e in
        let less = eqb-false l n f in
        let q = both some less in
        (omega arith, omega arith)

pub record Halves (n l r : ℕ) : Type 0 where
  pub left : 1 ≤ l
  pub right : 1 ≤ r
  pub sum : l + r ≡ n

module _ (ws hs : List ℕ) (s : Split) where
  pub halves-sum : length (partition_handles ws hs s).0 + length (partition_handles ws hs s).1 ≡ length hs
  halves-sum =
      sym (length-append (partition_handles ws hs s).0 (partition_handles ws hs s).1) ∙
      ap length (partition-joined ws hs s)
      ∙ length-append (lefts ws hs s) (rights ws hs s) ∙ both_lengths ws hs s

  pub halves : 2 ≤ length hs →
      Halves (length hs) (length (partition_handles ws hs s).0) (length (partition_handles ws hs s).1)
  halves h =
      let sum = both_lengths ws hs s in
      let sum' = halves-sum in
      let within = count-within (length hs) (length (lefts ws hs s)) (length (partition_handles ws hs s).0) h
      (partition-half ws hs s)
      (partition-both ws hs s) (omega arith) in
      record { left = within.0; right = omega arith; sum = sum' }

-- ---- the depth

-- builds that agree on shorter stretches
abbrev Agree : ℕ → (List ℕ → Answer Tree) → (List ℕ → Answer Tree) → Type 0
Agree n f g = (l : List ℕ) → length l < n → f l ≡ g l

forked-same : (ws hs : List ℕ) (f g : List ℕ → Answer Tree) → 2 ≤ length hs → Agree (length hs) f g →
    forked ws hs f ≡ forked ws hs g
unfolding forked
forked-same ws hs f g h same =
    then_same (choose_split ws hs) _ _ (λ s. let w = halves ws hs s h in
    rw (same (partition_handles ws hs s).0 (omega arith), same (partition_handles ws hs s).1 (omega arith)))

tree_by-same : (ws hs : List ℕ) (f g : List ℕ → Answer Tree) → Agree (length hs) f g → tree_by ws hs f ≡ tree_by ws hs g
unfolding tree_by
tree_by-same ws [] f g same = refl
tree_by-same ws (h ∷ []) f g same = refl
tree_by-same ws (h ∷ i ∷ hs) f g same = forked-same ws (h ∷ i ∷ hs) f g (omega arith) same

-- the builds that one of a depth goes by
below : List ℕ → ℕ → List ℕ → Answer Tree
below ws zero hs = refused 12
below ws (suc n) hs = build_subtree ws n hs

build-by : (ws : List ℕ) (n : ℕ) (hs : List ℕ) → build_subtree ws n hs ≡ tree_by ws hs (below ws n)
unfolding build_subtree below
build-by ws zero hs = refl
build-by ws (suc n) hs = refl

pub depth : (ws : List ℕ) (n m : ℕ) (hs : List ℕ) → length hs ≤ n → length hs ≤ m →
    build_subtree ws n hs ≡ build_subtree ws m hs
unfolding below
depth ws zero m hs h k =
    build-by ws zero hs ∙ tree_by-same ws hs (below ws zero) (below ws m) (λ l lt. absurd (omega arith)) ∙
    sym (build-by ws m hs)
depth ws (suc n) zero hs h k =
    build-by ws (suc n) hs ∙ tree_by-same ws hs (below ws (suc n)) (below ws zero) (λ l lt. absurd (omega arith)) ∙
    sym (build-by ws zero hs)
depth ws (suc n) (suc m) hs h k =
    build-by ws (suc n) hs ∙ tree_by-same ws hs (below ws (suc n)) (below ws (suc m))
    (λ l lt. depth ws n m l (omega arith) (omega arith))
    ∙ sym (build-by ws (suc m) hs)

below-enough : (ws : List ℕ) (n : ℕ) → Agree n (below ws n) (λ (l : List ℕ). build_subtree ws (length l) l)
unfolding below
below-enough ws zero l lt = absurd (omega arith)
below-enough ws (suc n) l lt = depth ws n (length l) l (omega arith) (omega arith)

-- the tree of a whole stretch
abbrev pub whole : List ℕ → List ℕ → Answer Tree
whole ws hs = build_subtree ws (length hs) hs

build-step : (ws hs : List ℕ) → whole ws hs ≡ tree_by ws hs (whole ws)
build-step ws hs =
    build-by ws (length hs) hs ∙ tree_by-same ws hs (below ws (length hs)) (whole ws) (below-enough ws (length hs))

tree_by-two : (ws hs : List ℕ) (f : List ℕ → Answer Tree) → 2 ≤ length hs → tree_by ws hs f ≡ forked ws hs f
unfolding tree_by
tree_by-two ws [] f h = absurd (omega arith)
tree_by-two ws (x ∷ []) f h = absurd (omega arith)
tree_by-two ws (x ∷ y ∷ hs) f h = refl

tree_by-one : (ws hs : List ℕ) (f : List ℕ → Answer Tree) → length hs ≡ 1 →
    tree_by ws hs f ≡ given (leaf (label_of ws (get_or hs 0 0)) (light_of ws (get_or hs 0 0)))
unfolding tree_by
tree_by-one ws [] f h = absurd (omega arith)
tree_by-one ws (x ∷ []) f h = refl
tree_by-one ws (x ∷ y ∷ hs) f h = absurd (omega arith)

pub build-fork : (ws hs : List ℕ) → 2 ≤ length hs → whole ws hs ≡ forked ws hs (whole ws)
build-fork ws hs h = build-step ws hs ∙ tree_by-two ws hs (whole ws) h

pub build-leaf : (ws hs : List ℕ) → length hs ≡ 1 →
    whole ws hs ≡ given (leaf (label_of ws (get_or hs 0 0)) (light_of ws (get_or hs 0 0)))
build-leaf ws hs h = build-step ws hs ∙ tree_by-one ws hs (whole ws) h

-- ---- the size, and the record

pub record Sized (n : ℕ) (t : Tree) : Type 0 where
  pub size : leaves t ≡ n
  pub fits : RecordFits (bounds t)

union-fits : (a b : LightBounds) → RecordFits a → RecordFits b → Gives RecordFits (union a b)
union-fits a b h k = gives_of (union a b) (λ r e. rw (union-given a b r e).2 (join-fits a b h k))

forked-sized : (ws hs : List ℕ) (f : List ℕ → Answer Tree) → ((l : List ℕ) → Gives (Sized (length l)) (f l)) →
    Gives (Sized (length hs)) (forked ws hs f)
unfolding forked leaves
forked-sized ws hs f good =
    gives_then (gives-any (choose_split ws hs)) (λ s _. gives_then (good (partition_handles ws hs s).0) (λ l hl.
    gives_then (good (partition_handles ws hs s).1)
    (λ r hr. gives_then (union-fits (bounds l) (bounds r) hl.fits hr.fits) (λ b hb.
    gives (record { size = omega (arith, halves-sum ws hs s, hl.size, hr.size); fits = hb })))))

tree_by-sized : (ws hs : List ℕ) (f : List ℕ → Answer Tree) → ((l : List ℕ) → Gives (Sized (length l)) (f l)) →
    Gives (Sized (length hs)) (tree_by ws hs f)
unfolding tree_by leaves
tree_by-sized ws [] f good = gives_none
tree_by-sized ws (h ∷ []) f good = gives (record { size = refl; fits = record-fits-read ws _ })
tree_by-sized ws (h ∷ i ∷ hs) f good = forked-sized ws (h ∷ i ∷ hs) f good

pub build-sized : (ws : List ℕ) (n : ℕ) (hs : List ℕ) → Gives (Sized (length hs)) (build_subtree ws n hs)
unfolding build_subtree
build-sized ws zero hs = tree_by-sized ws hs _ (λ l. gives_none)
build-sized ws (suc n) hs = tree_by-sized ws hs _ (λ l. build-sized ws n l)

pub build-size : (ws : List ℕ) (n : ℕ) (hs : List ℕ) (t : Tree) → build_subtree ws n hs ≡ given t → leaves t ≡ length hs
build-size ws n hs t e = (gives-value (build-sized ws n hs) e).size

pub build-fits : (ws : List ℕ) (n : ℕ) (hs : List ℕ) (t : Tree) → build_subtree ws n hs ≡ given t
    → RecordFits (bounds t)
build-fits ws n hs t e = (gives-value (build-sized ws n hs) e).fits

-- ---- read back from the words

bounds-read-back : (ws : List ℕ) (i : ℕ) (b : LightBounds) → bounds_at ws i ≡ given b
    → read_record ws (bounds_place i) ≡
    b
unfolding bounds_at record_at
bounds-read-back ws i b e =
    (cond-given (leb (bounds_place i + record_words) (length ws) && side_known (get_or ws (side_place
    (bounds_place i)) 0))
    (read_record ws (bounds_place i)) 12 b e).1

-- any words of a node, then two trees
abbrev pub laid_out : List ℕ → ℕ → Tree → Tree → List ℕ
laid_out root at l r = root ++ flatten (at + 1) at l ++ flatten (right_place at l) at r

module _ (root : List ℕ) (at : ℕ) (l r : Tree) (room : length root ≡ node_words) where
  left-read : RecordFits (bounds l) → read_record (laid_out root at l r) (bounds_place 1) ≡ bounds l
  left-read f =
      bounds-read-back (laid_out root at l r) 1 (bounds l)
      (root-bounds-at root (flatten (right_place at l) at r) 1 (at + 1) at l room f)

  right-start : length (root ++ flatten (at + 1) at l) ≡ node_place (2 * leaves l)
  right-start = length-append root (flatten (at + 1) at l) ∙ omega (arith, room, length-flatten (at + 1) at l)

  right-read : RecordFits (bounds r) → read_record (laid_out root at l r) (bounds_place (2 * leaves l)) ≡ bounds r
  right-read f =
      bounds-read-back (laid_out root at l r) (2 * leaves l) (bounds r)
      (rw append-nil at (root-bounds-at (root ++ flatten (at + 1) at l) [] (2 * leaves l) (right_place at l) at r
      right-start f))

  pub union-read : RecordFits (bounds l) → RecordFits (bounds r) →
      union_at (laid_out root at l r) (2 * leaves l) ≡ union (bounds l) (bounds r)
  union-read f g =
      ap (λ (b : LightBounds). union b (read_record (laid_out root at l r) (bounds_place (2 * leaves l)))) (left-read f)
      ∙ ap (union (bounds l)) (right-read g)

  pub joined-read : at + 1 < 2 ^ 30 → (p : ℕ) (b : LightBounds)
      → node_written (laid_out root at l r) 0 (interior (at + 1) (right_place at l) p) b ≡ flatten at p (fork b l r)
  unfolding flatten
  joined-read fits p b =
      let rest = flatten (at + 1) at l ++ flatten (right_place at l) at r in
      let node = node_list (interior (at + 1) (right_place at l) p) b in
      let long = length-append root rest in
      let is : laid_out root at l r ≡ root ++
      rest = append_assoc root (flatten (at + 1) at l) (flatten (right_place at l) at r) in
      let size = length-node_list (interior (at + 1) (right_place at l) p) b in
      rw is (node_written-room (root ++ rest) 0 (interior (at + 1) (right_place at l) p) b (omega arith)
      (lt-ltb (at + 1) 0x4000_0000 fits)
      ∙ sets-eq node (root ++ rest) 0 (omega arith)
      ∙ ap (λ (xs : List ℕ). node ++ xs) (drop_at root rest (0 + length node) (omega arith))
      ∙ sym (append_assoc node (flatten (at + 1) at l) (flatten (right_place at l) at r)))

-- ---- the stretch as it is parted, by a work that is as long

pub parted-is : (ws hs : List ℕ) (s : Split) (room : ℕ) → choose_split ws hs ≡ given s → length hs ≤ room →
    (x : Answer ℕ) (l : List ℕ)
    → x ≡ parted_count ws hs s room → l ≡ parted_handles ws hs s room
    → (x ≡ split_count ws hs) ×
    (l ≡ split_handles ws
    hs)
unfolding parted_count parted_handles split_count split_handles ◌then◌
parted-is ws hs s room e h x l count is =
    let t = le-ltb room (length hs) h in
    (rw e (rw t at count), rw e (rw t at is))

-- ---- as the code goes

pub refused-of : {A : Type 0} (x : Answer A) (n : ℕ) → done x ≡ refused n → x ≡ refused n
refused-of (given a) n e = absurd (not-both refl e)
refused-of (refused m) n e = ap refused (refused_injective e)

pub given-of : {A : Type 0} (x : Answer A) → done x ≡ given tt → (a : A) × (x ≡ given a)
given-of (given a) e = (a, refl)
given-of (refused n) e = absurd (not-both e refl)

-- a stretch that is parted, hs' with its halves one behind the other
pub record Cut (ws hs hs' : List ℕ) (left : ℕ) : Type 0 where
  pub split : Split
  pub chosen : choose_split ws hs ≡ given split
  pub count : left ≡ length (partition_handles ws hs split).0
  pub front : take left hs' ≡ (partition_handles ws hs split).0
  pub back : drop left hs' ≡ (partition_handles ws hs split).1
  pub same : length hs' ≡ length hs
  pub some : 1 ≤ left
  pub rest : left < length hs

pub cut_of : (ws hs hs' : List ℕ) (left : ℕ) → split_count ws hs ≡ given left → hs' ≡ split_handles ws hs →
    2 ≤ length hs → Cut ws hs hs' left
unfolding split_count split_handles
cut_of ws hs hs' left e e' h =
    let (s, chosen, count) = then-given (choose_split ws hs)
    (λ (s : Split). given (length (partition_handles ws hs s).0)) left e in
    let l = (partition_handles ws hs s).0 in
    let r = (partition_handles ws hs s).1 in
    let is : hs' ≡ l ++ r = rw chosen at e' in
    let size : length l ≡ left = given_injective count in
    let w = halves ws hs s h in
    record {
      split = s;
      chosen = chosen;
      count = sym size;
      front = rw is (take_at l r left size);
      back = rw is (drop_at l r left size);
      same = ap length is ∙ length-append l r ∙ w.sum;
      some = omega arith;
      rest = omega arith;
    }

-- what a build answers and leaves
abbrev pub Left : ℕ → ℕ → Answer Tree → Answer (Unit {0}) → List ℕ → Type 0
Left at p x r nodes = (r ≡ done x) × (nodes ≡ subtree_words at p x nodes)

-- of one list, it is so of a list that is the same
pub done-moved : (ws l l' : List ℕ) (r : Answer (Unit {0})) → l ≡ l' → r ≡ done (whole ws l) → done (whole ws l') ≡ r
done-moved ws l l' r e h = ap (λ (l : List ℕ). done (whole ws l)) (sym e) ∙ sym h

pub words-moved : (ws l l' : List ℕ) (at p : ℕ) (n : List ℕ) → l ≡ l' → n ≡ subtree_words at p (whole ws l) n →
    n ≡ subtree_words at p (whole ws l') n
words-moved ws l l' at p n e h = h ∙ ap (λ (l : List ℕ). subtree_words at p (whole ws l) n) e

lost-tree : (at p n : ℕ) (x : Answer Tree) (nodes : List ℕ) → x ≡ refused n → Left at p x (refused n) nodes
lost-tree at p n x nodes e = rw e (refl, refl)

pub lost-left : (ws hs : List ℕ) (at p n : ℕ) (nodes : List ℕ) → split_count ws hs ≡ refused n → 2 ≤ length hs
    → Left at p (whole ws hs) (refused n) nodes
unfolding split_count forked ◌then◌
lost-left ws hs at p n nodes e h =
    lost-tree at p n (whole ws hs) nodes
    (build-fork ws hs h ∙ then-refused (choose_split ws hs) _ n (no-split (choose_split ws hs) _ e))
  where
    no-split : (x : Answer Split) (f : Split → ℕ) → x then (λ (s : Split). given (f s)) ≡ refused n → x ≡ refused n
    no-split (given s) f e = absurd (not-both refl e)
    no-split (refused m) f e = ap refused (refused_injective e)

module _ {ws hs hs' : List ℕ} {left : ℕ} (cut : Cut ws hs hs' left) where
  -- the forked tree, of halves that are read off the parted stretch
  forked-cut : whole ws hs ≡ (whole ws (take left hs') then λ (l : Tree). whole ws (drop left hs') then λ (r : Tree).
      union (bounds l) (bounds r) then λ (b : LightBounds). given (fork b l r))
  unfolding forked ◌then◌
  forked-cut =
      rw (cut.front, cut.back) (build-fork ws hs (omega (arith, cut.some, cut.rest))
      ∙ ap (λ (x : Answer Split). x then λ (s : Split). whole ws (partition_handles ws hs s).0 then λ (l : Tree). whole
      ws (partition_handles ws hs s).1 then
      λ (r : Tree). union (bounds l) (bounds r) then λ (b : LightBounds). given (fork b l r)) cut.chosen)

  pub no-left : (at p n : ℕ) (nodes : List ℕ) → done (whole ws (take left hs')) ≡ refused n
      → Left at p (whole ws hs) (refused n) nodes
  no-left at p n nodes e =
      let x = refused-of (whole ws (take left hs')) n e in
      lost-tree at p n (whole ws hs) nodes (forked-cut ∙ then-refused (whole ws (take left hs')) _ n x)

  pub no-right : (at p n : ℕ) (nodes : List ℕ) → done (whole ws (take left hs')) ≡ given tt
      → done (whole ws (drop left hs')) ≡ refused n → Left at p (whole ws hs) (refused n) nodes
  no-right at p n nodes e e' =
      let (l, x) = given-of (whole ws (take left hs')) e in
      let y = refused-of (whole ws (drop left hs')) n e' in
      let lost = then-refused (whole ws (drop left hs')) _ n y in
      lost-tree at p n (whole ws hs) nodes (forked-cut ∙ then_is (whole ws (take left hs')) _ l x ∙ lost)

-- ---- one handle

node-alone : (nodes : List ℕ) (n : LightBVHNode) (b : LightBounds) → length nodes ≡ node_words → head_fits n ≡ true
    → node_written nodes 0 n b ≡ node_list n b
node-alone nodes n b room fits =
    let node = node_list n b in
    let size = length-node_list n b in
    let past : drop (0 + length node) nodes ≡ [] = drop_of_length-le nodes {i = 0 + length node} (omega arith) in
    node_written-room nodes 0 n b (omega arith) fits ∙ sets-eq node nodes 0 (omega arith)
    ∙ ap (λ (xs : List ℕ). node ++ xs) past ∙ append-nil node

pub leaf-left : (ws hs nodes nodes' : List ℕ) (at p label : ℕ) (light : LightBounds) → length hs ≡ 1 →
    length nodes + node_words ≡ node_words * (2 * length hs)
    → ((h : ℕ) → label_of ws h < 2 ^ 30) → label ≡ label_of ws (get_or hs 0 0) → light ≡ light_of ws (get_or hs 0 0)
    → nodes' ≡ node_written nodes 0 (leaf_node label p) light → Left at p (whole ws hs) (given tt) nodes'
unfolding flatten
leaf-left ws hs nodes nodes' at p label light one size labels is-label is-light e =
    let fits = lt-ltb (label_of ws (get_or hs 0 0)) 0x4000_0000 (labels (get_or hs 0 0)) in
    rw (build-leaf ws hs one) (refl, e ∙ rw (is-label, is-light) (node-alone nodes _ _ (omega arith) fits))

-- ---- more than one

joined-left : (at p right : ℕ) (nodes nodes' : List ℕ) (l r : Tree) (x : Answer LightBounds) (res : Answer (Unit {0}))
    → ((b : LightBounds) → node_written nodes 0 (interior (at + 1) (at + right) p) b ≡ flatten at p (fork b l r))
    → res ≡ done x → nodes' ≡
    joined_words at p right nodes x → Left at p (x then λ (b : LightBounds). given (fork b l r)) res nodes'
unfolding ◌then◌
joined-left at p right nodes nodes' l r (given b) res j e e' = (e, e' ∙ j b)
joined-left at p right nodes nodes' l r (refused n) res j e e' = (e, refl)

module _ {ws hs hs' : List ℕ} {left : ℕ} (cut : Cut ws hs hs' left) (at p : ℕ) where
  pub both_left : (root n1 n2 nodes : List ℕ) → at + 1 < 2 ^ 30 → length root ≡ node_words
      → done (whole ws (take left hs')) ≡ given tt → n1 ≡ subtree_words (at + 1) at (whole ws (take left hs')) n1
      → done (whole ws (drop left hs')) ≡ given tt → n2 ≡
      subtree_words (at + 2 * left) at (whole ws (drop left hs')) n2 → nodes ≡ root ++ n1 ++ n2
      → (res : Answer (Unit {0})) (nodes' : List ℕ) → res ≡ done (union_at nodes (2 * left))
      → nodes' ≡ joined_words at p (2 * left) nodes (union_at nodes (2 * left)) → Left at p (whole ws hs) res nodes'
  both_left root n1 n2 nodes fits room e w e' w' laid res nodes' told told' =
      let (l, x) = given-of (whole ws (take left hs')) e in
      let (r, y) = given-of (whole ws (drop left hs')) e' in
      let size : left ≡ leaves l = cut.count ∙ ap length (sym cut.front) ∙
      sym (build-size ws (length (take left hs')) (take left hs') l x) in
      let first : n1 ≡ flatten (at + 1) at l = w ∙ ap (λ (a : Answer Tree). subtree_words (at + 1) at a n1) x in
      let second : n2 ≡ flatten (at + 2 * left) at r = w' ∙
      ap (λ (a : Answer Tree). subtree_words (at + 2 * left) at a n2) y in
      let place : at + 2 * left ≡ right_place at l = ap (λ (k : ℕ). at + 2 * k) size in
      let out = laid_out root at l r in
      let is : nodes ≡ out =
      laid ∙ ap (λ (a : List ℕ). root ++ a ++ n2) first
      ∙ ap (λ (a : List ℕ). root ++ flatten (at + 1) at l ++ a) (second ∙ ap (λ (k : ℕ). flatten k at r) place) in
      let fit = build-fits ws (length (take left hs')) (take left hs') l x in
      let fit' = build-fits ws (length (drop left hs')) (drop left hs') r y in
      let u : union_at nodes (2 * left) ≡ union (bounds l) (bounds r) =
      ap (λ (a : List ℕ). union_at a (2 * left)) is ∙ ap (λ (k : ℕ). union_at out (2 * k)) size ∙
      union-read root at l r room fit fit' in
      let j : (b : LightBounds) → node_written nodes 0 (interior (at + 1) (at + 2 * left) p) b ≡
      flatten at p (fork b l r) =
      λ b. ap (λ (a : List ℕ). node_written a 0 (interior (at + 1) (at + 2 * left) p) b) is
      ∙ ap (λ (k : ℕ). node_written out 0 (interior (at + 1) k p) b) place ∙ joined-read root at l r room fits p b in
      let whole_is = forked-cut cut ∙ then_is (whole ws (take left hs')) _ l x ∙
      then_is (whole ws (drop left hs')) _ r y in
      rw whole_is (joined-left at p (2 * left) nodes nodes' l r (union (bounds l) (bounds r)) res j (told ∙ ap done u)
      (told' ∙ ap (joined_words at p (2 * left) nodes) u))

-- ---- the parts that are lent: where the build of a stretch stands once it is parted

pub record Stand (ws hs work nodes : List ℕ) (at : ℕ) (hs' : List ℕ) (left : ℕ) : Type 0 where
  pub cut : Cut ws hs hs' left
  pub room : length hs ≤ length work
  pub size : length nodes + node_words ≡ node_words * (2 * length hs)
  pub fits : at + 2 * length hs < 2 ^ 30
  pub labels : (h : ℕ) → label_of ws h < 2 ^ 30

-- what a build asks
abbrev pub Asks : List ℕ → List ℕ → List ℕ → List ℕ → ℕ → Type 0
Asks ws hs work nodes at =
    (1 ≤ length hs) × ((length hs ≤ length work) × ((length nodes + node_words ≡ node_words * (2 * length hs))
    × ((at + 2 * length hs < 2 ^ 30) × ((h : ℕ) → label_of ws h < 2 ^ 30))))

-- the parted stretch and the nodes, with what the first build leaves of the left parts
abbrev pub handles_left : ℕ → List ℕ → List ℕ → List ℕ
handles_left left hs h1 = h1 ++ drop (left - 0) hs

abbrev pub nodes_left : ℕ → List ℕ → List ℕ → List ℕ
nodes_left left nodes n1 = put_mid 16 (32 * left - 16) nodes n1

module _ {ws hs work nodes hs' : List ℕ} {at left : ℕ} (s : Stand ws hs work nodes at hs' left) where
  pub front-is : take (left - 0) hs' ≡ take left hs'
  front-is = let e : left - 0 ≡ left = omega arith in rw e

  pub front_length : length (take (left - 0) hs') ≡ left
  front_length = ap length front-is ∙ ap length s.cut.front ∙ sym s.cut.count

  pub words-length : length (mid_of 16 (32 * left - 16) nodes) ≡ 32 * left - 16
  words-length = mid_len 16 (32 * left) nodes (omega (arith, s.size, s.cut.rest))

  pub left-asks : (work' : List ℕ) → left ≤ length work'
      → Asks ws (take (left - 0) hs') work' (mid_of 16 (32 * left - 16) nodes) (at + 1)
  left-asks work' room =
      let some = s.cut.some in
      let rest = s.cut.rest in
      let n = front_length in
      let m = words-length in
      (omega (arith, n), (omega (arith, n), (omega (arith, n, m), (omega (arith, n, s.fits), s.labels))))

  module _ (h1 n1 : List ℕ) (same-h : length h1 ≡ length (take (left - 0) hs'))
      (same-n : length n1 ≡ length (mid_of 16 (32 * left - 16) nodes)) where
    pub handles-left : length (handles_left left hs' h1) ≡ length hs
    handles-left = same_len_mid 0 (left - 0) hs' h1 same-h ∙ s.cut.same

    pub nodes-left : length (nodes_left left nodes n1) ≡ length nodes
    nodes-left = same_len_mid 16 (32 * left - 16) nodes n1 same-n

    pub back_is : mid_of left (length hs - left) (handles_left left hs' h1) ≡ drop left hs'
    back_is =
        let e : left - 0 ≡ left = omega arith in
        let gone : drop left (handles_left left hs' h1) ≡ drop left hs' =
        drop_at h1 (drop (left - 0) hs') left (same-h ∙ front_length) ∙ ap (λ (k : ℕ). drop k hs') e in
        let short = length-drop left hs' in
        ap (take (length hs - left)) gone ∙
        take_all (length hs - left) (drop left hs') (omega (arith, short, s.cut.same))

    pub back-length : length (mid_of left (length hs - left) (handles_left left hs' h1)) ≡ length hs - left
    back-length = ap length back_is ∙ length-drop left hs' ∙ ap (λ (k : ℕ). k - left) s.cut.same

    pub words_right : length (mid_of (32 * left) (length (nodes_left left nodes n1) - 32 * left)
        (nodes_left left nodes n1)) ≡ length nodes - 32 * left
    words_right =
        mid_len (32 * left) (length (nodes_left left nodes n1)) (nodes_left left nodes n1) (omega arith) ∙
        ap (λ (k : ℕ). k - 32 * left) nodes-left

    pub right-asks : (work' : List ℕ) → length hs - left ≤ length work'
        → Asks ws (mid_of left (length hs - left) (handles_left left hs' h1)) work'
        (mid_of (32 * left) (length (nodes_left left nodes n1) - 32 * left) (nodes_left left nodes n1)) (at + 2 * left)
    right-asks work' room =
        let some = s.cut.some in
        let rest = s.cut.rest in
        let n = back-length in
        let m = words_right in
        let size = s.size in
        (omega (arith, n), (omega (arith, n), (omega (arith, n, m), (omega (arith, n, s.fits), s.labels))))

    pub root-length : length (take 16 nodes) ≡ node_words
    root-length = length-take-le 16 nodes (omega (arith, s.size, s.cut.some, s.cut.rest))

    -- the root's words, those of the left tree and those of the right one
    pub nodes-are : (n2 : List ℕ) →
        put_mid (32 * left) (length (nodes_left left nodes n1) - 32 * left) (nodes_left left nodes n1) n2 ≡
        take 16 nodes ++ n1 ++ n2
    nodes-are n2 =
        let some = s.cut.some in
        let rest = s.cut.rest in
        let size = s.size in
        let m = words-length in
        let front = take 16 nodes ++ n1 in
        let long : length front ≡ 32 * left = length-append (take 16 nodes) n1 ∙
        omega (arith, root-length, same-n, m) in
        let back = drop (32 * left - 16) (drop 16 nodes) in
        let all = nodes_left left nodes n1 in
        let is : all ≡ front ++ back = sym (append_assoc (take 16 nodes) n1 back) in
        let before : take (32 * left) all ≡ front = ap (take (32 * left)) is ∙ take_at front back (32 * left) long in
        let after : drop (length all - 32 * left) (drop (32 * left) all) ≡ [] =
        drop_of_length-le (drop (32 * left) all) {i = length all - 32 * left}
        (omega (arith, length-drop (32 * left) all)) in
        rw (before, after, append-nil n2)
