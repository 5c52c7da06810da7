-- min and max in the order of floats. Assumes nothing.
use Rattle.std.specs.Prelude.{◌≡◌, refl, Bool, not, cond, ◌⊎◌, pos, Float}
use Rattle.std.proofs.Common.{sym, subst, inl, inr}
use Rattle.std.proofs.Math.Bool.{true, false}
use Rattle.std.proofs.Math.Dec.{T}
use Rattle.std.specs.Float.{nan, inf, fin}
use Rattle.std.specs.Float.Ieee.{lt, le, is_nan}
use Rattle.ieee.specs.Choose.{fmin, fmax}
use Rattle.ieee.specs.Laws.OrderLaws.{le_left, le_of_not_lt, le_refl, le_right}
use Rattle.ieee.specs.Laws.OrderLaws.{le_trans, le→nonneg, lt→le, nonneg}

-- ---- min and max

pick_is : (p q : Bool) (x y : Float) → (cond p y (cond q y x) ≡ x) ⊎ (cond p y (cond q y x) ≡ y)
pick_is true q x y = inr refl
pick_is false true x y = inr refl
pick_is false false x y = inl refl

pub fmin-is : (x y : Float) → (fmin x y ≡ x) ⊎ (fmin x y ≡ y)
unfolding fmin
fmin-is x y = pick_is (is_nan x) (lt y x) x y

pub fmax-is : (x y : Float) → (fmax x y ≡ x) ⊎ (fmax x y ≡ y)
unfolding fmax
fmax-is x y = pick_is (is_nan x) (lt x y) x y

pub fmin-nan : (y : Float) → fmin nan y ≡ y
unfolding fmin is_nan
fmin-nan y = refl

pub fmax-nan : (y : Float) → fmax nan y ≡ y
unfolding fmax is_nan
fmax-nan y = refl

module _ (x y : Float) (h : T (not (is_nan x))) (k : T (not (is_nan y))) where
  pub fmin-le : T (le (fmin x y) x) × T (le (fmin x y) y)
  unfolding fmin
  fmin-le = go (is_nan x) (lt y x) h (lt→le y x) (le_of_not_lt x y h k)
    where
      go : (p q : Bool) → T (not p) → (T q → T (le y x)) → (T (not q) → T (le x y)) →
          T (le (cond p y (cond q y x)) x) × T (le (cond p y (cond q y x)) y)
      go true q n a b = absurd n
      go false true n a b = (a tt, le_refl y k)
      go false false n a b = (le_refl x h, b tt)

  pub fmax-le : T (le x (fmax x y)) × T (le y (fmax x y))
  unfolding fmax
  fmax-le = go (is_nan x) (lt x y) h (lt→le x y) (le_of_not_lt y x k h)
    where
      go : (p q : Bool) → T (not p) → (T q → T (le x y)) → (T (not q) → T (le y x)) →
          T (le x (cond p y (cond q y x))) × T (le y (cond p y (cond q y x)))
      go true q n a b = absurd n
      go false true n a b = (a tt, le_refl y k)
      go false false n a b = (le_refl x h, b tt)

-- a min is at most its second value, whatever its first is, if that is a NaN too
pub fmin-cap : (x c : Float) → T (not (is_nan c)) → T (le (fmin x c) c)
unfolding is_nan
fmin-cap nan c k = subst (λ (z : Float). T (le z c)) (sym (fmin-nan c)) (le_refl c k)
fmin-cap (inf s) c k = (fmin-le (inf s) c tt k).1
fmin-cap (fin s m e) c k = (fmin-le (fin s m e) c tt k).1

pub fmin_mono : (x y c : Float) → T (not (is_nan c)) → T (le x y) → T (le (fmin x c) (fmin y c))
fmin_mono x y c n l =
    let b = fmin-le x c (le_left x y l) n in
    elim (fmin-is y c) [
      | inl e ↦ subst (λ (z : Float). T (le (fmin x c) z)) (sym e) (le_trans (fmin x c) x y b.0 l)
      | inr e ↦ subst (λ (z : Float). T (le (fmin x c) z)) (sym e) b.1
    ]

pub fmax_mono : (x y c : Float) → T (not (is_nan c)) → T (le x y) → T (le (fmax x c) (fmax y c))
fmax_mono x y c n l =
    let b = fmax-le y c (le_right x y l) n in
    elim (fmax-is x c) [
      | inl e ↦ subst (λ (z : Float). T (le z (fmax y c))) (sym e) (le_trans x y (fmax y c) l b.0)
      | inr e ↦ subst (λ (z : Float). T (le z (fmax y c))) (sym e) b.1
    ]

-- max with zero is no NaN and not below zero, whatever x is
pub fmax-nonneg : (x : Float) → T (nonneg (fmax x (fin false 0 (pos 0))))
fmax-nonneg nan = subst (λ (z : Float). T (nonneg z)) (sym (fmax-nan (fin false 0 (pos 0)))) tt
fmax-nonneg (inf s) =
    le→nonneg (fmax (inf s) (fin false 0 (pos 0)))
    (fmax-le (inf s) (fin false 0 (pos 0)) (unfold is_nan in tt) (unfold is_nan in tt)).1
fmax-nonneg (fin s m e) =
    le→nonneg (fmax (fin s m e) (fin false 0 (pos 0)))
    (fmax-le (fin s m e) (fin false 0 (pos 0)) (unfold is_nan in tt) (unfold is_nan in tt)).1
