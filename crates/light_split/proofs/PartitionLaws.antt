-- A stretch that is parted: the items that pass a test, a list laid over the front of another, and the two loops
-- of `partition.rt`. Assumes nothing.
use Prim.Native.Nat.{ℕ, suc, ◌+◌, ◌-◌, ◌/◌, ◌≤◌, ◌<◌, zero-le}
use mathlib.Core.Path.{◌≡◌, refl, ap, sym, ◌∙◌}
use mathlib.Core.Bool.{Bool, true, false, cond, not, ◌||◌}
use mathlib.Core.List.{List, [], ◌∷◌, ◌++◌, append-nil}
use mathlib.Core.Logic.{◌⊎◌, ⊎_elim}
use native.Mathlib.Nat.{sub_self, le_refl}
use native.Mathlib.Omega.{arith}
use lib.ListN.{length, get_or, take, drop, set, length-append, length-set, length-drop, take-append-drop}
use lib.ListN.{drop_of_length-le}
use lib.Seq.{take_all, length-take-le, take-append_seam, paste, paste-zero, paste-suc}
use borrow.Author.Tests.{lt-ltb, le-ltb, eq-eqb, ne_eqb}
use lib.Dec.{eqb}
use Rattle.words.proofs.ListLaws.{kept_in, kept_out, kept_lengths, laid_next, laid-get_or}
use Rattle.words.specs.Answers.{given, refused}
use Rattle.light_bounds.specs.declared.bounds.Bounds3.{Bounds3}
use Rattle.light_split.specs.declared.split.Split.{Split}
use Rattle.light_split.specs.Lights.{centroid_ends}
use Rattle.light_split.specs.Partition.{goes_left, goes_right, lefts, rights, partition_handles}
use Rattle.light_split.specs.AsCoded.Parted.{parted_count, parted_handles, parted_work}
use Rattle.words.specs.Lists.{kept}
use Rattle.words.specs.AsCoded.ListParts.{laid}

-- ---- the loop that parts: of hs the items up to i are parted, by tests of which each item passes one

pub record Parting (l r : ℕ → Bool) (hs work hs' work' : List ℕ) (left right i : ℕ) : Type 0 where
  pub within : i ≤ length hs
  pub room : length hs ≤ length work
  pub same : length hs' ≡ length hs
  pub same_work : length work' ≡ length work
  pub sum : left + right ≡ i
  pub lefts : left ≡ length (kept l (take i hs))
  pub rights : right ≡ length (kept r (take i hs))
  pub handles : hs' ≡ laid (kept l (take i hs)) hs
  pub tray : work' ≡ laid (kept r (take i hs)) work

pub parting-none : (l r : ℕ → Bool) (hs work : List ℕ) → length hs ≤ length work → Parting l r hs work hs work 0 0 0
unfolding kept
parting-none l r hs work h =
    record {
      within = zero-le;
      room = h;
      same = refl;
      same_work = refl;
      sum = refl;
      lefts = refl;
      rights = refl;
      handles = refl;
      tray = refl;
    }

module _ {l r : ℕ → Bool} (other : (h : ℕ) → r h ≡ not (l h)) {hs work hs' work' : List ℕ} {left right i : ℕ}
    (p : Parting l r hs work hs' work' left right i) where
  -- what the loop reads has not been changed
  pub parting-read : get_or hs' i 0 ≡ get_or hs i 0
  parting-read = rw p.handles (laid-get_or (kept l (take i hs)) hs i (omega arith))

  pub parting-left : (x : ℕ) → x ≡ get_or hs i 0 → i < length hs → l x ≡ true →
      Parting l r hs work (set hs' left x) work' (left + 1) right (i + 1)
  parting-left x e h t =
      let more : kept l (take (i + 1) hs) ≡ kept l (take i hs) ++ (x ∷ []) = rw e (kept_in l hs i h (rw e at t)) in
      let out : kept r (take (i + 1) hs) ≡ kept r (take i hs) = kept_out r hs i h (ap r (sym e) ∙ other x ∙ ap not t) in
      record {
        within = omega arith;
        room = p.room;
        same = length-set hs' left x ∙ p.same;
        same_work = p.same_work;
        sum = omega arith;
        lefts = rw (more, length-append (kept l (take i hs)) (x ∷ [])) (omega arith);
        rights = rw out p.rights;
        handles = rw (more, p.handles, p.lefts) (laid_next (kept l (take i hs)) hs x (omega arith));
        tray = rw out p.tray;
      }

  pub parting-right : (x : ℕ) → x ≡ get_or hs i 0 → i < length hs → l x ≡ false →
      Parting l r hs work hs' (set work' right x) left (right + 1) (i + 1)
  parting-right x e h t =
      let more : kept r (take (i + 1) hs) ≡ kept r (take i hs) ++
      (x ∷ []) = rw e (kept_in r hs i h (ap r (sym e) ∙ other x ∙ ap not t)) in
      let out : kept l (take (i + 1) hs) ≡ kept l (take i hs) = kept_out l hs i h (rw e at t) in
      record {
        within = omega arith;
        room = p.room;
        same = p.same;
        same_work = length-set work' right x ∙ p.same_work;
        sum = omega arith;
        lefts = rw out p.lefts;
        rights = rw (more, length-append (kept r (take i hs)) (x ∷ [])) (omega arith);
        handles = rw out p.handles;
        tray = rw (more, p.tray, p.rights) (laid_next (kept r (take i hs)) work x (omega arith));
      }

  pub parting-all : length hs ≤ i →
      (left ≡ length (kept l hs)) × ((hs' ≡ laid (kept l hs) hs) × (work' ≡ laid (kept r hs) work))
  parting-all h =
      let e : take i hs ≡ hs = take_all i hs h in (
        p.lefts ∙ ap (λ (xs : List ℕ). length (kept l xs)) e,
        (
          p.handles ∙ ap (λ (xs : List ℕ). laid (kept l xs) hs) e,
          p.tray ∙
              ap (λ (xs : List ℕ). laid (kept r xs) work) e,
        ),
      )

-- ---- the loop that puts the work's front behind the first handles, up to place i

pub record Behind (hs : List ℕ) (left : ℕ) (work l : List ℕ) (i : ℕ) : Type 0 where
  pub after : left ≤ i
  pub within : i ≤ length hs
  pub room : length hs ≤ length work + left
  pub same : length l ≡ length hs
  pub is : l ≡ paste hs left work (i - left)

pub behind-none : (hs work : List ℕ) (left : ℕ) → left ≤ length hs → length hs ≤ length work + left →
    Behind hs left work hs left
behind-none hs work left h room =
    record {
      after = le_refl left;
      within = h;
      room = room;
      same = refl;
      is = rw (sub_self left)
          (paste-zero hs left work);
    }

pub behind-next : {hs work l : List ℕ} {left i : ℕ} → Behind hs left work l i → i < length hs
    → Behind hs left work (set l i (get_or work (i - left) 0)) (i + 1)
behind-next {hs} {work} {l} {left} {i} b h =
    let j = i - left in
    let e : i ≡ left + j = omega arith in
    let next : suc j ≡ i + 1 - left = omega arith in
    record {
      after = omega arith;
      within = omega arith;
      room = b.room;
      same = length-set l i (get_or work j 0) ∙ b.same;
      is =
          rw b.is (ap (λ (n : ℕ). set (paste hs left work j) n (get_or work j 0)) e
          ∙ paste-suc hs left work j 0 (omega arith) (omega arith) ∙ ap (λ (n : ℕ). paste hs left work n) next);
    }

pub behind-all : {hs work l : List ℕ} {left i : ℕ} → Behind hs left work l i → length hs ≤ i →
    l ≡ take left hs ++ take (length hs - left) work
behind-all {hs} {work} {l} {left} {i} b h =
    let e : i ≡ length hs = omega arith in
    let over : length hs ≤ left + (i - left) = omega arith in
    let past : drop (left + (i - left)) hs ≡ [] = drop_of_length-le hs over in
    b.is ∙ rw (past, append-nil (take left hs ++ take (i - left) work), e)

-- ---- the whole

-- who does not go left goes right
pub goes-right : (ws : List ℕ) (ends : Bounds3) (s : Split) (h : ℕ)
    → goes_right ws ends s h ≡ not
    (goes_left ws ends s h)
unfolding goes_right
goes-right ws ends s h = refl

or-true : (a b : Bool) → b ≡ true → (a || b) ≡ true
or-true true b e = refl
or-true false b e = e

half_length : (xs : List ℕ) → length (take (length xs / 2) xs) ≡ length xs / 2
half_length xs = length-take-le (length xs / 2) xs (omega arith)

cut-joined : (t : Bool) (l r : List ℕ) (m : ℕ)
    → let p : List ℕ × List ℕ = cond t (take m (l ++ r), drop m (l ++ r)) (l, r) in p.0 ++ p.1 ≡ l ++ r
cut-joined true l r m = take-append-drop m (l ++ r)
cut-joined false l r m = refl

module _ (ws hs : List ℕ) (s : Split) where
  pub both_lengths : length (lefts ws hs s) + length (rights ws hs s) ≡ length hs
  unfolding lefts rights
  both_lengths =
      let ends = centroid_ends ws hs in
      kept_lengths (goes_left ws ends s) (goes_right ws ends s) (goes-right ws ends s) hs

  -- both halves one behind the other, wherever the stretch is cut
  pub partition-joined : (partition_handles ws hs s).0 ++
      (partition_handles ws hs s).1 ≡ lefts ws hs s ++ rights ws hs
      s
  unfolding partition_handles
  partition-joined =
      let l = lefts ws hs s in
      let r = rights ws hs s in
      cut-joined (eqb (length l) 0 || eqb (length r) 0) l r (length (l ++ r) / 2)

  -- how many go left: half where a side is empty
  pub partition-half : (length (lefts ws hs s) ≡ 0) ⊎ (length (lefts ws hs s) ≡ length hs) →
      length (partition_handles ws hs s).0 ≡ length hs / 2
  unfolding partition_handles
  partition-half empty =
      let l = lefts ws hs s in
      let r = rights ws hs s in
      let sum = both_lengths in
      let one : (eqb (length l) 0 || eqb (length r) 0) ≡ true =
      ⊎_elim (λ e. rw (eq-eqb (length l) 0 e))
      (λ e. or-true (eqb (length l) 0) (eqb (length r) 0) (eq-eqb (length r) 0 (omega arith))) empty in
      rw one (half_length (l ++ r) ∙ rw (length-append l r, sum))

  pub partition-both : (length (lefts ws hs s) ≡ 0 → ⊥) → (length (lefts ws hs s) ≡ length hs → ⊥)
      → length (partition_handles ws hs s).0 ≡ length (lefts ws hs s)
  unfolding partition_handles
  partition-both some all =
      let l = lefts ws hs s in
      let r = rights ws hs s in
      let sum = both_lengths in
      rw (ne_eqb (length l) 0 some, ne_eqb (length r) 0 (λ e. all (omega arith)))

  module _ (work : List ℕ) where
    -- the work is too short
    pub parted-short : length work < length hs → (refused 3 ≡ parted_count ws hs s (length work))
        × ((hs ≡ parted_handles ws hs s (length work)) × (work ≡ parted_work ws hs s work))
    unfolding parted_count parted_handles parted_work
    parted-short h =
        let t = lt-ltb (length work) (length hs) h in
        (rw t, (rw t, rw t))

    -- the left handles, then those that were put into the work
    pub parted-long : length hs ≤ length work → (n : ℕ) → length (partition_handles ws hs s).0 ≡ n → (l work' : List ℕ)
        → l ≡ lefts ws hs s ++ rights ws hs s → work' ≡ laid (rights ws hs s) work
        → (given n ≡ parted_count ws hs s (length work)) ×
        ((l ≡ parted_handles ws hs s (length work)) × (work' ≡ parted_work ws hs s work))
    unfolding parted_count parted_handles parted_work
    parted-long h n is l work' e e' =
        let t = le-ltb (length work) (length hs) h in
        (rw (t, is), (rw (t, partition-joined) e, rw t e'))

-- what the first loop leaves of a stretch and its work
pub record Parted (ws hs : List ℕ) (s : Split) (work : List ℕ) (left : ℕ) (hs' work' : List ℕ) : Type 0 where
  pub count : left ≡ length (lefts ws hs s)
  pub within : left ≤ length hs
  pub same : length hs' ≡ length hs
  pub same_work : length work' ≡ length work
  pub handles : hs' ≡ laid (lefts ws hs s) hs
  pub tray : work' ≡ laid (rights ws hs s) work

pub parted-of : (ws hs : List ℕ) (s : Split) (work : List ℕ) {left : ℕ} {hs' work' : List ℕ} {ends : Bounds3} →
    ends ≡ centroid_ends ws hs
    → left ≡ length (kept (goes_left ws ends s) hs) → hs' ≡ laid (kept (goes_left ws ends s) hs) hs
    → work' ≡ laid (kept (goes_right ws ends s) hs) work → length hs' ≡ length hs → length work' ≡
    length work → Parted ws hs s work left hs' work'
unfolding lefts rights
parted-of ws hs s work e count handles tray same same_work =
    let sum = both_lengths ws hs s in
    let count' = rw e at count in
    record {
      count = count';
      within = omega arith;
      same = same;
      same_work = same_work;
      handles = rw e at handles;
      tray = rw e at tray;
    }

-- and what the second makes of it
pub parted_rejoined : {ws hs work hs' work' : List ℕ} {s : Split} {left : ℕ} → Parted ws hs s work left hs' work'
    → take left hs' ++ take (length hs' - left) work' ≡ lefts ws hs s ++ rights ws hs s
parted_rejoined {ws} {hs} {work} {hs'} {work'} {s} {left} p =
    let l = lefts ws hs s in
    let r = rights ws hs s in
    let sum = both_lengths ws hs s in
    let rest : length hs' - left ≡ length r = omega arith in
    rw (
      rest,
      p.handles,
      p.tray,
      p.count,
      take-append_seam l (drop (length l) hs),
      take-append_seam r
          (drop (length r) work),
    )
