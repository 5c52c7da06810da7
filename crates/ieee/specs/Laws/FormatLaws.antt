-- Floats of the format: what a word stands for, and what the functions of Choose and Sqrt give, the format holds (those
-- of Whole stand in WholeLaws, narrow's in NarrowLaws, the operators' in lib.Ieee.Fits). The format holds a number with
-- its sign in one way, so a value of it is its own rounding. Assumes nothing.
use Rattle.std.specs.Prelude.{ℕ, zero, suc, ◌*◌, ◌^◌, ◌≡◌, refl, Bool, true, false, cond, T, ℤ}
use lib.Ieee.{Format, binary32, Float, nan, inf, fin, up, down, round, lt, is_nan, fits}
use Rattle.std.specs.Float.Ieee.Bits.{of_bits-fits}
use Rattle.std.specs.Float.Ieee.Exact.{HasValue, round_exact}
use Rattle.std.specs.Float.Ieee.Fits.{down_pos, nan-fits, inf-fits, round-fits, cond-fits}
use Rattle.ieee.specs.Single.{single}
use Rattle.ieee.specs.Choose.{fmin, fmax, clamp, fabs}
use Rattle.ieee.specs.Sqrt.{root_of, sqrt}
use Rattle.ieee.specs.Laws.NearestLaws.{Held, held, held-shift, held-units}
use Rattle.ieee.specs.Laws.Patterns.{same-value}

-- ---- a word is a float of binary32, whatever its size

pub single-fits : (w : ℕ) → T (fits binary32 (single w))
single-fits w = of_bits-fits binary32 w

-- ---- functions that give one of their arguments, or one without its sign

pub fmin-fits : (f : Format) (x y : Float) → T (fits f x) → T (fits f y) → T (fits f (fmin x y))
unfolding fmin
fmin-fits f x y p q = cond-fits f (is_nan x) y (cond (lt y x) y x) q (cond-fits f (lt y x) y x q p)

pub fmax-fits : (f : Format) (x y : Float) → T (fits f x) → T (fits f y) → T (fits f (fmax x y))
unfolding fmax
fmax-fits f x y p q = cond-fits f (is_nan x) y (cond (lt x y) y x) q (cond-fits f (lt x y) y x q p)

pub clamp-fits : (f : Format) (x lo hi : Float) → T (fits f x) → T (fits f lo) → T (fits f hi)
    → T (fits f (clamp x lo hi))
unfolding clamp
clamp-fits f x lo hi p q r =
    let y = cond (lt x lo) lo x in
    cond-fits f (lt hi y) hi y r (cond-fits f (lt x lo) lo x q p)

pub fabs-fits : (f : Format) (x : Float) → T (fits f x) → T (fits f (fabs x))
unfolding fabs fits
fabs-fits f nan h = h
fabs-fits f (inf s) h = h
fabs-fits f (fin s zero e) h = h
fabs-fits f (fin s (suc m) e) h = h

-- ---- the root. That x is of the format is asked for a zero alone, which is its own root.

pub sqrt-fits : (f : Format) (x : Float) → T (fits f x) → T (fits f (sqrt f x))
unfolding sqrt root_of
sqrt-fits f nan h = nan-fits f
sqrt-fits f (inf true) h = nan-fits f
sqrt-fits f (inf false) h = inf-fits f false
sqrt-fits f (fin s zero e) h = h
sqrt-fits f (fin true (suc m) e) h = nan-fits f
sqrt-fits f (fin false (suc m) e) h = round-fits f false _ _

-- ---- a value of the format is its own rounding

self-value : (f : Format) (s : Bool) (m : ℕ) (e : ℤ) → Held f m e
    → HasValue (round f s (m * up e) (down e)) s (m * up e) (down e)
self-value f s m e H =
    let (i, is) = held-shift f m e H in
    round_exact f s (m * up e) (down e) m i (down_pos e) H.digits (held-units f m e (m * 2 ^ i) H is) is

pub round_self : (f : Format) (s : Bool) (m : ℕ) (e : ℤ) → T (fits f (fin s m e))
    → round f s (m * up e) (down e) ≡ fin s m e
round_self f s m e F =
    same-value f (round f s (m * up e) (down e)) (fin s m e) s (m * up e) (down e) (down_pos e)
    (round-fits f s (m * up e) (down e)) F
    (self-value f s m e (held f s m e F)) (refl, refl)
