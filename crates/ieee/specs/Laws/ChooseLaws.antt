-- The functions of Choose.antt by the tests that code makes. Assumes nothing.
use Rattle.std.specs.Prelude.{◌*◌, ◌≡◌, refl, Bool, true, false, cond, ◌||◌, T, Float}
use Rattle.std.proofs.Common.{sym, ◌∙◌, ap, subst, inl, inr, eq-eqb}
use Rattle.std.specs.Float.{binary32, nan, inf, fin}
use Rattle.std.specs.Float.Ieee.{lt, eq, ne, is_nan, fits, up, down, of_bits, to_bits}
use Rattle.std.specs.Float.Ieee.Bits.{of_bits-to_bits}
use Rattle.ieee.specs.Choose.{fmin, fmax, is_sign_negative}
use Rattle.ieee.specs.Whole.{negative}
use Rattle.ieee.specs.Laws.WholeLaws.{signed_word}

-- only a NaN differs from itself
nan-test : (x : Float) → is_nan x ≡ ne x x
unfolding is_nan ne eq
nan-test nan = refl
nan-test (inf true) = refl
nan-test (inf false) = refl
nan-test (fin true m e) = rw (eq-eqb (m * up e * down e) (m * up e * down e) refl)
nan-test (fin false m e) = rw (eq-eqb (m * up e * down e) (m * up e * down e) refl)

-- ---- min and max: the second where the first is a NaN or past it

pick : (x y : Float) (past : Bool) → cond (is_nan x) y (cond past y x) ≡ cond (ne x x || past) y x
pick x y past = ap (λ (b : Bool). cond b y (cond past y x)) (nan-test x) ∙ go (ne x x)
  where
    go : (b : Bool) → cond b y (cond past y x) ≡ cond (b || past) y x
    go true = refl
    go false = refl

pub fmin_tests : (x y : Float) → fmin x y ≡ cond (ne x x || lt y x) y x
unfolding fmin
fmin_tests x y = pick x y (lt y x)

pub fmax_tests : (x y : Float) → fmax x y ≡ cond (ne x x || lt x y) y x
unfolding fmax
fmax_tests x y = pick x y (lt x y)

-- ---- the sign of the stored word is the value's; a NaN has none

pub sign-is : (x : Float) → T (fits binary32 x) → is_sign_negative x ≡ negative x
unfolding is_sign_negative to_bits
sign-is x h =
    let back : of_bits binary32 (to_bits binary32 x) ≡ x = of_bits-to_bits binary32 x h in
    elim (signed_word binary32 (to_bits binary32 x)) [
      | inl e ↦ subst (λ (y : Float). is_sign_negative y ≡ negative y) (sym e ∙ back) refl
      | inr e ↦ sym e ∙ ap negative back
    ]
