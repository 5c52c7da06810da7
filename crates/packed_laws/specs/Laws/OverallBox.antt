-- The overall box of an accepted build is proper, finite with its minimum at most its maximum, and so is the box of
-- every node, which it holds (`overall-proper`, `node-within`). Boxes that pass their checks are proper
-- (`check-proper`, `proper_check`), and so is the union of two, which holds both. Assumes nothing.
use Rattle.std.specs.Prelude.{ℕ, zero, suc, ◌+◌, ◌-◌, ◌*◌, ◌/◌, ◌<◌, ◌≡◌, Bool, true, false, cond, not, ◌&&◌, ◌||◌}
use Rattle.std.specs.Prelude.{List, [], ◌∷◌, ◌++◌, ◌⊎◌, T, ltb, Float}
use Rattle.std.proofs.Math.Path.{refl, subst}
use Rattle.std.proofs.Common.{ap, sym, ◌∙◌, append-nil, inl, inr, ⊎_elim, arith, ltb-true, ltb-false}
use Rattle.std.proofs.Math.Option.{Option, none, some, some-injective, none-ne-some}
use Rattle.std.specs.Float.{nan, inf, fin}
use Rattle.std.specs.Float.Ieee.{lt, le, eq, is_nan}
use Rattle.std.specs.Float.Ieee.Fits.{and_l, and_r}
use Rattle.std.specs.Float.Ieee.Scale.{finite}
use Rattle.std.proofs.Math.ListN.{length}
use Rattle.ieee.specs.Choose.{fmin, fmax}
use Rattle.ieee.specs.Laws.ChooseOrder.{fmin-is, fmax-is, fmin-le, fmax-le}
use Rattle.ieee.specs.Laws.OrderLaws.{le_trans, le_refl, le_of_not_lt, not_le_of_lt}
use Rattle.ieee.specs.Single.{zerof}
use Rattle.words.specs.Answers.{Answer, given, refused, ◌then◌}
use Rattle.words.proofs.AnswerLaws.{then-given, given_injective, not-both}
use Rattle.light_bounds.specs.Bounds.{Holds, box_check, finite_box, inverted, box_union, least_of, greatest_of}
use Rattle.light_bounds.proofs.BoundsLaws.{union-given}
use Rattle.light_bounds.specs.LightBounds.{validate, cone_check, join, join_powered}
use Rattle.light_bounds.specs.Vecmath.{finite_vec}
use Rattle.light_bounds.specs.declared.bounds.Bounds3.{Bounds3}
use Rattle.light_bounds.specs.declared.light_bounds.LightBounds.{LightBounds}
use Rattle.light_rows.specs.Nodes.{LightBVHNode, leaf as leaf_node, interior, invalid_index, node_words, bounds_at}
use Rattle.light_rows.specs.Tree.{Tree, leaf, fork, bounds, right_place}
use Rattle.light_rows.specs.Laws.TreeLaws.{bounds_at-past}
use Rattle.light_split.specs.Lights.{light_of}
use Rattle.light_bvh.specs.Build.{is_powered, bounded_handles, grown, all_bounds, validated, LightBVH, tree_of}
use Rattle.light_bvh.specs.Build.{built_bvh}
use Rattle.light_bvh.specs.Build.{build_check, build_light_bvh, nodes_written}
use Rattle.light_bvh.specs.Subtree.{build_subtree}
use Rattle.light_bvh.proofs.RowsLaws.{all-halves, bounds-there}
use Rattle.words.proofs.ListLaws.{All, all_map, all_append, none-all}
use Rattle.tree_laws.specs.Laws.AcceptedTree.{Parts, accepted-parts, tree_of-built, accepted-none, accepted-read}
use Rattle.tree_laws.specs.Laws.BuiltTrees.{built_holds}
use Rattle.tree_laws.specs.Laws.PlaceLaws.{node_in, node_in-fork, node_in-leaf}
use Rattle.tree_laws.specs.Laws.NodeLaws.{node-words}

-- ---- an axis

-- finite ends in order
pub record Axis (lo hi : Float) : Type 0 where
  pub low : T (finite lo)
  pub high : T (finite hi)
  pub order : T (le lo hi)

known : (x : Float) → T (finite x) → T (not (is_nan x))
unfolding is_nan
known nan h = h
known (inf s) h = absurd h
known (fin s m e) h = tt

either : (P : Float → Type 0) (x y z : Float) → (z ≡ x) ⊎ (z ≡ y) → P x → P y → P z
either P x y z (inl e) p q = subst P (sym e) p
either P x y z (inr e) p q = subst P (sym e) q

module _ (a b c d : Float) (h : Axis a b) (k : Axis c d) where
  min-le : T (le (fmin a c) a) × T (le (fmin a c) c)
  min-le = fmin-le a c (known a h.low) (known c k.low)

  max-le : T (le b (fmax b d)) × T (le d (fmax b d))
  max-le = fmax-le b d (known b h.high) (known d k.high)

  axis-union : Axis (fmin a c) (fmax b d)
  axis-union = record {
    low = either (λ (z : Float). T (finite z)) a c (fmin a c) (fmin-is a c) h.low k.low;
    high = either (λ (z : Float). T (finite z)) b d (fmax b d) (fmax-is b d) h.high k.high;
    order = le_trans (fmin a c) a (fmax b d) min-le.0 (le_trans a b (fmax b d) h.order max-le.0);
  }

-- ---- a box

pub record Proper (b : Bounds3) : Type 0 where
  pub along-x : Axis b.min.x b.max.x
  pub along-y : Axis b.min.y b.max.y
  pub along-z : Axis b.min.z b.max.z

proper-union : (a b : Bounds3) → Proper a → Proper b → Proper (box_union a b)
unfolding box_union least_of greatest_of
proper-union a b p q = record {
  along-x = axis-union a.min.x a.max.x b.min.x b.max.x p.along-x q.along-x;
  along-y = axis-union a.min.y a.max.y b.min.y b.max.y p.along-y q.along-y;
  along-z = axis-union a.min.z a.max.z b.min.z b.max.z p.along-z q.along-z;
}

union_holds : (a b : Bounds3) → Proper a → Proper b → Holds (box_union a b) a × Holds (box_union a b) b
unfolding box_union least_of greatest_of
union_holds a b p q =
    let lx = min-le a.min.x a.max.x b.min.x b.max.x p.along-x q.along-x in
    let ly = min-le a.min.y a.max.y b.min.y b.max.y p.along-y q.along-y in
    let lz = min-le a.min.z a.max.z b.min.z b.max.z p.along-z q.along-z in
    let gx = max-le a.min.x a.max.x b.min.x b.max.x p.along-x q.along-x in
    let gy = max-le a.min.y a.max.y b.min.y b.max.y p.along-y q.along-y in
    let gz = max-le a.min.z a.max.z b.min.z b.max.z p.along-z q.along-z in (
      record { min-x = lx.0; min-y = ly.0; min-z = lz.0; max-x = gx.0; max-y = gy.0; max-z = gz.0 },
      record { min-x = lx.1; min-y = ly.1; min-z = lz.1; max-x = gx.1; max-y = gy.1; max-z = gz.1 },
    )

-- what holds both holds their union
union-held : (o a b : Bounds3) → Holds o a → Holds o b → Holds o (box_union a b)
unfolding box_union least_of greatest_of
union-held o a b h k = record {
  min-x =
      either (λ (z : Float). T (le o.min.x z)) a.min.x b.min.x _ (fmin-is a.min.x b.min.x)
      h.min-x k.min-x;
  min-y =
      either (λ (z : Float). T (le o.min.y z)) a.min.y b.min.y _ (fmin-is a.min.y b.min.y)
      h.min-y k.min-y;
  min-z =
      either (λ (z : Float). T (le o.min.z z)) a.min.z b.min.z _ (fmin-is a.min.z b.min.z)
      h.min-z k.min-z;
  max-x =
      either (λ (z : Float). T (le z o.max.x)) a.max.x b.max.x _ (fmax-is a.max.x b.max.x)
      h.max-x k.max-x;
  max-y =
      either (λ (z : Float). T (le z o.max.y)) a.max.y b.max.y _ (fmax-is a.max.y b.max.y)
      h.max-y k.max-y;
  max-z =
      either (λ (z : Float). T (le z o.max.z)) a.max.z b.max.z _ (fmax-is a.max.z b.max.z)
      h.max-z k.max-z;
}

holds_trans : (a b c : Bounds3) → Holds a b → Holds b c → Holds a c
holds_trans a b c h k = record {
  min-x = le_trans a.min.x b.min.x c.min.x h.min-x k.min-x;
  min-y = le_trans a.min.y b.min.y c.min.y h.min-y k.min-y;
  min-z = le_trans a.min.z b.min.z c.min.z h.min-z k.min-z;
  max-x = le_trans c.max.x b.max.x a.max.x k.max-x h.max-x;
  max-y = le_trans c.max.y b.max.y a.max.y k.max-y h.max-y;
  max-z = le_trans c.max.z b.max.z a.max.z k.max-z h.max-z;
}

holds-itself : (a : Bounds3) → Proper a → Holds a a
holds-itself a p = record {
  min-x = le_refl a.min.x (known a.min.x p.along-x.low);
  min-y = le_refl a.min.y (known a.min.y p.along-y.low);
  min-z = le_refl a.min.z (known a.min.z p.along-z.low);
  max-x = le_refl a.max.x (known a.max.x p.along-x.high);
  max-y = le_refl a.max.y (known a.max.y p.along-y.high);
  max-z = le_refl a.max.z (known a.max.z p.along-z.high);
}

-- ---- its check

not-or : (a b : Bool) → T (not (a || b)) → T (not a) × T (not b)
not-or true b h = absurd h
not-or false b h = (tt, h)

axis-of : (lo hi : Float) → T (finite lo) → T (finite hi) → T (not (lt hi lo)) → Axis lo hi
axis-of lo hi a b n = record { low = a; high = b; order = le_of_not_lt lo hi (known lo a) (known hi b) n }

pub check-proper : (b : Bounds3) → box_check b ≡ given tt → Proper b
unfolding box_check finite_vec
check-proper b e =
    let (whole, upright) = go (finite_box b) (inverted b) e in
    let low = and_l (finite_vec b.min) (finite_vec b.max) whole in
    let high = and_r (finite_vec b.min) (finite_vec b.max) whole in
    let (nx, rest) =
    not-or (lt b.max.x b.min.x) (lt b.max.y b.min.y || lt b.max.z b.min.z) upright in
    let (ny, nz) = not-or (lt b.max.y b.min.y) (lt b.max.z b.min.z) rest in
    record {
      along-x =
          axis-of b.min.x b.max.x (first b.min.x b.min.y b.min.z low)
          (first b.max.x b.max.y b.max.z high) nx;
      along-y =
          axis-of b.min.y b.max.y (second b.min.x b.min.y b.min.z low)
          (second b.max.x b.max.y b.max.z high) ny;
      along-z =
          axis-of b.min.z b.max.z (third b.min.x b.min.y b.min.z low)
          (third b.max.x b.max.y b.max.z high) nz;
    }
  where
    go : (f i : Bool) → ◌≡◌ {A = Answer (Unit {0})} (cond f (cond i (refused 6) (given tt)) (refused 5)) (given tt)
        → T f × T (not i)
    go true true e = absurd (not-both e refl)
    go true false e = (tt, tt)
    go false i e = absurd (not-both e refl)

    first : (x y z : Float) → T (finite x && (finite y && finite z)) → T (finite x)
    first x y z h = and_l (finite x) (finite y && finite z) h

    second : (x y z : Float) → T (finite x && (finite y && finite z)) → T (finite y)
    second x y z h = and_l (finite y) (finite z) (and_r (finite x) (finite y && finite z) h)

    third : (x y z : Float) → T (finite x && (finite y && finite z)) → T (finite z)
    third x y z h = and_r (finite y) (finite z) (and_r (finite x) (finite y && finite z) h)

pub proper_check : (b : Bounds3) → Proper b → box_check b ≡ given tt
unfolding box_check finite_vec
proper_check b p =
    rw (is b.min.x p.along-x.low, is b.min.y p.along-y.low, is b.min.z p.along-z.low)
    (rw (is b.max.x p.along-x.high, is b.max.y p.along-y.high, is b.max.z p.along-z.high)
    (rw (
      upright b.min.x b.max.x p.along-x,
      upright b.min.y b.max.y p.along-y,
      upright b.min.z
          b.max.z p.along-z,
    )))
  where
    is : (x : Float) → T (finite x) → finite x ≡ true
    is x h = go (finite x) h
      where
        go : (c : Bool) → T c → c ≡ true
        go true h = refl
        go false h = absurd h

    upright : (lo hi : Float) → Axis lo hi → lt hi lo ≡ false
    upright lo hi a = go (lt hi lo) (λ l. not_le_of_lt hi lo l a.order)
      where
        go : (c : Bool) → (T c → ⊥) → c ≡ false
        go true n = absurd (n tt)
        go false n = refl

-- that of a record is the first of its own
pub validate-proper : (r : LightBounds) → validate r ≡ given tt → Proper r.bounds
unfolding validate
validate-proper r e = check-proper r.bounds (then-given (box_check r.bounds) (λ _. cone_check r) tt e).1

-- ---- the box of the powered rows

-- it holds the box of each, which is proper
pub record Fit (all b : Bounds3) : Type 0 where
  pub held : Holds all b
  pub proper : Proper b

abbrev Around : List ℕ → Bounds3 → ℕ → Type 0
Around ws all h = Fit all (light_of ws h).bounds

abbrev Covers : List ℕ → Bounds3 → List ℕ → Type 0
Covers ws all hs = Proper all × All (Around ws all) hs

rows-covered : (ws : List ℕ) (m : ℕ) → validated ws m ≡ given tt → (all : Bounds3) → all_bounds ws m ≡ some all
    → Covers ws all (bounded_handles ws m)
unfolding validated all_bounds bounded_handles
rows-covered ws zero e all is = absurd (none-ne-some all is)
rows-covered ws (suc n) e all is =
    let (_, before, last) = then-given (validated ws n) (λ _. validate (light_of ws n)) tt e in
    go (validate-proper (light_of ws n) last) (rows-covered ws n before) (is_powered ws n) (all_bounds ws n) refl is
  where
    go : Proper (light_of ws n).bounds → ((a : Bounds3) → all_bounds ws n ≡ some a → Covers ws a (bounded_handles ws n))
        → (c : Bool) (o : Option Bounds3)
        → all_bounds ws n ≡ o → cond c (grown o (light_of ws n).bounds) o ≡ some all
        → Covers ws all (bounded_handles ws n ++ cond c (n ∷ []) [])
    go own ih true none h is =
        let same : (light_of ws n).bounds ≡ all = some-injective (light_of ws n).bounds all is in
        subst (λ (z : Bounds3). Covers ws z (bounded_handles ws n ++ n ∷ [])) same (
          own,
          all_append (Around ws (light_of ws n).bounds) (bounded_handles ws n) (n ∷ [])
              (none-all (Around ws (light_of ws n).bounds) (bounded_handles ws n) (λ l. bounds-there ws n l h))
              (record { held = holds-itself (light_of ws n).bounds own; proper = own }, tt),
        )
    go own ih true (some a) h is =
        let b = (light_of ws n).bounds in
        let same : box_union a b ≡ all = some-injective (box_union a b) all is in
        let (proper, each) = ih a h in
        let (holds-a, holds-b) = union_holds a b proper own in
        subst (λ (z : Bounds3). Covers ws z (bounded_handles ws n ++ n ∷ [])) same (
          proper-union a b proper own,
          all_append (Around ws (box_union a b)) (bounded_handles ws n) (n ∷ [])
              (all_map (λ h fit. record {
                held = holds_trans (box_union a b) a (light_of ws h).bounds holds-a
                    fit.held;
                proper = fit.proper;
              })
              (bounded_handles ws n) each) (record { held = holds-b; proper = own }, tt),
        )
    go own ih false o h is = rw (append-nil (bounded_handles ws n)) (ih all (h ∙ is))

-- ---- a tree within a box

abbrev Within : Bounds3 → Tree → Type 0
Within all (leaf h b) = Fit all b.bounds
Within all (fork b l r) = Fit all b.bounds × Within all l × Within all r

root-within : (all : Bounds3) (t : Tree) → Within all t → Fit all (bounds t).bounds
root-within all (leaf h b) w = w
root-within all (fork b l r) w = w.0

join-fit : (all : Bounds3) (a b : LightBounds) → Fit all a.bounds → Fit all b.bounds → Fit all (join a b).bounds
unfolding join
join-fit all a b h k = go (eq a.phi zerof) (eq b.phi zerof)
  where
    go : (c d : Bool) → Fit all (cond c b (cond d a (join_powered a b))).bounds
    go true d = k
    go false true = h
    go false false = record {
      held = union-held all a.bounds b.bounds h.held k.held;
      proper = proper-union a.bounds b.bounds h.proper k.proper;
    }

built-within : (ws : List ℕ) (all : Bounds3) (n : ℕ) (hs : List ℕ) (t : Tree) → build_subtree ws n hs ≡ given t
    → All (Around ws all) hs → Within all t
built-within ws all n hs t e =
    built_holds ws (λ (hs : List ℕ) (t : Tree). All (Around ws all) hs → Within all t)
    (λ h each. each.0)
    (λ hs s l r b two e holds-l holds-r each.
    let halves = all-halves (Around ws all) ws hs s each in
    let left = holds-l halves.0 in
    let right = holds-r halves.1 in
    let is = (union-given (bounds l) (bounds r) b e).2 in
    (rw is (join-fit all (bounds l) (bounds r) (root-within all l left) (root-within all r right)), left, right)) n hs t
    e

place-within : (all : Bounds3) (at p : ℕ) (t : Tree) (i : ℕ) (x : LightBVHNode × LightBounds) → Within all t
    → node_in at p t i ≡ some x
    → Fit all x.1.bounds
place-within all at p (leaf h b) i x w e =
    subst (λ (z : LightBVHNode × LightBounds). Fit all z.1.bounds)
    (some-injective (leaf_node h p, b) x (node_in-leaf at p h b i x e).1) w
place-within all at p (fork b l r) i x w e =
    ⊎_elim
    (λ here. subst (λ (z : LightBVHNode × LightBounds). Fit all z.1.bounds)
    (some-injective (interior (at + 1) (right_place at l) p, b) x here.1) w.0)
    (λ under. ⊎_elim (place-within all (at + 1) at l i x w.1)
    (place-within all (right_place at l) at r i x w.2) under)
    (node_in-fork at p b l r i x e)

-- ---- of a build that was accepted

-- a record that is read is a node's
pub record-low : (ws : List ℕ) (b : LightBVH) → Parts ws b → (i : ℕ) (r : LightBounds)
    → bounds_at (nodes_written b) i ≡ given r → i < 2 * b.k - 1
record-low ws b parts i r e = go (ltb i (length (nodes_written b) / node_words)) refl
  where
    go : (c : Bool) → ltb i (length (nodes_written b) / node_words) ≡ c → i < 2 * b.k - 1
    go true f = omega (arith, ltb-true i (length (nodes_written b) / node_words) f, node-words ws b parts)
    go false f =
        absurd (not-both e (bounds_at-past (nodes_written b) i (ltb-false i (length (nodes_written b) / node_words) f)))

module _ (lights : ℕ) (ws : List ℕ) (nodes table work : ℕ) (b : LightBVH)
    (accepted : build_light_bvh lights ws nodes table work ≡ given b) where
  parts : Parts ws b
  parts = accepted-parts lights ws nodes table work b accepted

  -- the box is that of the powered rows
  pub accepted-box : b.all-bounds ≡ all_bounds ws b.rows
  unfolding build_light_bvh built_bvh
  accepted-box =
      let (m, _, e₁) =
      then-given (build_check lights ws nodes table work)
      (λ (m : ℕ). validated ws m then λ _. built_bvh ws m) b accepted in
      let (_, _, e₂) = then-given (validated ws m) (λ _. built_bvh ws m) b e₁ in
      let (t, _, e₃) =
      then-given (tree_of ws (bounded_handles ws m))
      (λ (t : Option Tree). given (record
      { rows = m; k = length (bounded_handles ws m); all-bounds = all_bounds ws m; tree = t })) b e₂ in
      let made : LightBVH =
      record { rows = m; k = length (bounded_handles ws m); all-bounds = all_bounds ws m; tree = t } in
      subst (λ (b : LightBVH). b.all-bounds ≡ all_bounds ws b.rows) {x = made} (given_injective {a = made} e₃) refl

  module _ (all : Bounds3) (is : b.all-bounds ≡ some all) where
    covered : Covers ws all (bounded_handles ws b.rows)
    covered = rows-covered ws b.rows parts.checked all (sym accepted-box ∙ is)

    -- it is proper, so it passes its check
    pub overall-proper : Proper all
    overall-proper = covered.0

    -- and holds the box of each node, which is proper
    pub node-within : (i : ℕ) (r : LightBounds) → bounds_at (nodes_written b) i ≡ given r → Fit all r.bounds
    node-within i r e = go b.tree refl
      where
        low : i < 2 * b.k - 1
        low = record-low ws b parts i r e

        go : (o : Option Tree) → b.tree ≡ o → Fit all r.bounds
        go none bare = absurd (omega (arith, low, accepted-none ws b parts bare))
        go (some t) grown-is =
            let hs = bounded_handles ws b.rows in
            let built = tree_of-built ws hs t (parts.grown ∙ ap given grown-is) in
            let (x, at, read) = accepted-read ws b t parts grown-is i low in
            subst (λ (z : LightBounds). Fit all z.bounds) (given_injective (sym read.1 ∙ e))
            (place-within all 0 invalid_index t i x (built-within ws all (length hs) hs t built covered.1) at)
