-- Both ways to length 1 are of the length that can be divided by. Assumes nothing.
use Rattle.std.specs.Prelude.{◌≡◌, refl, Bool, true, false, cond, Float}
use Rattle.ieee.specs.Single.{◌⊘◌, onef}
use Rattle.words.specs.Answers.{given, refused, ◌then◌}
use Rattle.light_bounds.specs.Vecmath.{dividing, divided, divisor, normalize, normalize_by_division, scaled, vec_length}
use Rattle.light_bounds.specs.declared.vecmath.Vec3.{Vec3}

by : (b : Bool) (l : Float) (f : Float → Vec3)
    → cond b (given (f l)) (refused 7) ≡ (cond b (given l) (refused 7) then λ (x : Float). given (f x))
unfolding ◌then◌
by true l f = refl
by false l f = refl

pub normalize-by : (v : Vec3) → normalize v ≡ (divisor v then λ (l : Float). given (scaled v (onef ⊘ l)))
unfolding normalize
normalize-by v = by (dividing (vec_length v)) (vec_length v) (λ (l : Float). scaled v (onef ⊘ l))

pub division-by : (v : Vec3) → normalize_by_division v ≡ (divisor v then λ (l : Float). given (divided v l))
unfolding normalize_by_division
division-by v = by (dividing (vec_length v)) (vec_length v) (divided v)
