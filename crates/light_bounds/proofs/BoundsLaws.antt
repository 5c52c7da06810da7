-- Bounds records: an importance is no NaN and not below zero, and a union of two records with power
-- has power and a box that holds both boxes. Assumes nothing.
use Rattle.std.specs.Prelude.{◌≡◌, refl, Bool, true, false, cond, not, ◌&&◌, T, Float}
use Rattle.std.proofs.Common.{sym, subst}
use Rattle.std.specs.Float.{nan, inf, fin, binary32}
use Rattle.std.specs.Float.Ieee.{lt, eq, fits, is_nan, of_bits}
use Rattle.std.specs.Float.Ieee.Fits.{and_l, and_r}
use Rattle.std.specs.Float.Ieee.Scale.{finite}
use Rattle.ieee.specs.Laws.ChooseOrder.{fmax-nonneg, fmin-le, fmax-le}
use Rattle.ieee.specs.Laws.OperationOrder.{add-positive}
use Rattle.ieee.specs.Laws.OrderLaws.{nonneg, le→nonneg, lt→le, not-eq-of-lt}
use Rattle.ieee.specs.Single.{◌⊗◌, ◌⊘◌, zerof}
use Rattle.words.specs.Answers.{Answer, given, refused, ◌then◌}
use Rattle.words.proofs.AnswerLaws.{Gives, gives, gives_none, gives-cond, gives-any}
use Rattle.words.proofs.AnswerLaws.{gives_then, gives-value, then-given, given_injective, not-both}
use Rattle.light_bounds.specs.Bounds.{Holds, box_check, finite_box, box_union, least_of, greatest_of, inverted}
use Rattle.light_bounds.specs.Importance.{Seen, dark, lit, facing, NormalStep, with_normal, finish}
use Rattle.light_bounds.specs.Importance.{finite_query, geometry, checked_importance, importance_by, importance}
use Rattle.light_bounds.specs.LightBounds.{join_powered, operand, union, validate, cone_check, join}
use Rattle.light_bounds.specs.Vecmath.{finite_vec}
use Rattle.light_bounds.specs.declared.bounds.Bounds3.{Bounds3}
use Rattle.light_bounds.specs.declared.light_bounds.LightBounds.{LightBounds}
use Rattle.light_bounds.specs.declared.importance.Query.{Query}
use Rattle.light_bounds.specs.declared.vecmath.Vec3.{Vec3}

-- ---- the importance

-- the last step is a max with zero
finish-nonneg : (phi : Float) (s : Seen) → T (nonneg (finish phi s))
unfolding finish of_bits
finish-nonneg phi dark = tt
finish-nonneg phi (lit p d2) = fmax-nonneg (phi ⊗ p ⊘ d2)
finish-nonneg phi (facing p d2 i) = fmax-nonneg (phi ⊗ p ⊘ d2 ⊗ i)

-- whatever the normal makes of what is seen
good : (r : LightBounds) (p : Vec3) (known : Bool) (normal : NormalStep)
    → Gives (λ (x : Float). T (nonneg x)) (importance_by r p known normal)
unfolding importance_by checked_importance
good r p known normal =
    gives_then (gives-any (validate r))
    (λ _ _. gives-cond known
    (gives_then (gives-any (geometry r p normal)) (λ s _. gives (finish-nonneg r.phi s))) gives_none)

-- an importance is no NaN and not below zero
pub importance-nonneg : (r : LightBounds) (q : Query) (x : Float) → importance r q ≡ given x → T (nonneg x)
unfolding importance
importance-nonneg r q x e = gives-value (good r q.p (finite_query q) (with_normal q.n)) e

-- ---- the union

-- a union that is given: both operands pass the check, and it is their join
pub union-given : (a b r : LightBounds) → union a b ≡ given r →
    (validate a ≡ given tt) × (validate b ≡ given tt) × (r ≡ join a b)
unfolding union
union-given a b r e =
    let (u, ea, e') = then-given (operand (validate a)) (λ _. operand (validate b) then λ _. given (join a b)) r e in
    let (v, eb, e'') = then-given (operand (validate b)) (λ _. given (join a b)) r e' in
    (passed (validate a) u ea, passed (validate b) v eb, sym (given_injective e''))
  where
    passed : (x : Answer (Unit {0})) (u : Unit {0}) → operand x ≡ given u → x ≡ given tt
    passed (given u) v h = refl
    passed (refused n) v h = absurd (not-both h refl)

-- where neither power is zero, the union is the record around both
join-made : (a b : LightBounds) → T (lt zerof a.phi) → T (lt zerof b.phi) → join a b ≡ join_powered a b
unfolding join
join-made a b p q =
    go (eq a.phi zerof) (eq b.phi zerof) (not-eq-of-lt zerof a.phi p) (not-eq-of-lt zerof b.phi q)
  where
    go : (c d : Bool) → T (not c) → T (not d) → cond c b (cond d a (join_powered a b)) ≡ join_powered a b
    go true d m n = absurd m
    go false true m n = absurd n
    go false false m n = refl

-- the union of two records with power has power. That the first power is an f32 is asked: a sum rounds to 0 only below
-- the smallest one.
pub union-power : (a b : LightBounds) → T (fits binary32 a.phi) → T (lt zerof a.phi) → T (lt zerof b.phi) →
    T (lt zerof (join a b).phi)
unfolding of_bits
union-power a b f p q =
    subst (λ (r : LightBounds). T (lt zerof r.phi)) (sym (join-made a b p q))
    (add-positive binary32 a.phi b.phi f p (le→nonneg b.phi (lt→le zerof b.phi q)))

known : (x : Float) → T (finite x) → T (not (is_nan x))
unfolding is_nan
known nan h = h
known (inf s) h = absurd h
known (fin s m e) h = tt

-- no coordinate is a NaN
record Known (b : Bounds3) : Type 0 where
  min-x : T (not (is_nan b.min.x))
  min-y : T (not (is_nan b.min.y))
  min-z : T (not (is_nan b.min.z))
  max-x : T (not (is_nan b.max.x))
  max-y : T (not (is_nan b.max.y))
  max-z : T (not (is_nan b.max.z))

abbrev Fails : Answer (Unit {0}) → Type 0
Fails (given u) = ⊥
Fails (refused n) = Unit {0}

-- a checked record's box is finite
checked : (r : LightBounds) → validate r ≡ given tt → T (finite_box r.bounds)
unfolding validate box_check ◌then◌
checked r e = go (finite_box r.bounds) (cond (inverted r.bounds) (refused 6) (given tt)) e
  where
    go : (c : Bool) (v : Answer (Unit {0})) → (cond c v (refused 5) then λ _. cone_check r) ≡ given tt → T c
    go true v e = tt
    go false v e = subst Fails e tt

known-box : (r : LightBounds) → validate r ≡ given tt → Known r.bounds
unfolding finite_vec
known-box r e =
    let a = r.bounds.min in
    let b = r.bounds.max in
    let h : T (finite_vec a && finite_vec b) = checked r e in
    let l : T (finite_vec a) = and_l (finite_vec a) (finite_vec b) h in
    let g : T (finite_vec b) = and_r (finite_vec a) (finite_vec b) h in
    record {
      min-x = known a.x (and_l (finite a.x) (finite a.y && finite a.z) l);
      min-y =
          known a.y (and_l (finite a.y) (finite a.z)
          (and_r (finite a.x) (finite a.y && finite a.z) l));
      min-z =
          known a.z (and_r (finite a.y) (finite a.z)
          (and_r (finite a.x) (finite a.y && finite a.z) l));
      max-x = known b.x (and_l (finite b.x) (finite b.y && finite b.z) g);
      max-y =
          known b.y (and_l (finite b.y) (finite b.z)
          (and_r (finite b.x) (finite b.y && finite b.z) g));
      max-z =
          known b.z (and_r (finite b.y) (finite b.z)
          (and_r (finite b.x) (finite b.y && finite b.z) g));
    }

box_holds : (a b : Bounds3) → Known a → Known b → Holds (box_union a b) a × Holds (box_union a b) b
unfolding box_union least_of greatest_of
box_holds a b p q =
    let lx = fmin-le a.min.x b.min.x p.min-x q.min-x in
    let ly = fmin-le a.min.y b.min.y p.min-y q.min-y in
    let lz = fmin-le a.min.z b.min.z p.min-z q.min-z in
    let gx = fmax-le a.max.x b.max.x p.max-x q.max-x in
    let gy = fmax-le a.max.y b.max.y p.max-y q.max-y in
    let gz = fmax-le a.max.z b.max.z p.max-z q.max-z in (
      record { min-x = lx.0; min-y = ly.0; min-z = lz.0; max-x = gx.0; max-y = gy.0; max-z = gz.0 },
      record { min-x = lx.1; min-y = ly.1; min-z = lz.1; max-x = gx.1; max-y = gy.1; max-z = gz.1 },
    )

-- the union's box holds both
pub union_holds : (a b : LightBounds) → validate a ≡ given tt → validate b ≡ given tt → T (lt zerof a.phi) →
    T (lt zerof b.phi)
    → Holds (join a b).bounds a.bounds × Holds (join a b).bounds b.bounds
union_holds a b v w p q =
    subst (λ (r : LightBounds). Holds r.bounds a.bounds × Holds r.bounds b.bounds) (sym (join-made a b p q))
    (box_holds a.bounds b.bounds (known-box a v) (known-box b w))
