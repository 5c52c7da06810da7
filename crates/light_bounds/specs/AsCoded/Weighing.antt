-- A query as a walk holds it, for many records: the point of a finite query, and the normal at length 1. A record's
-- weight for it takes the importance's steps. Definitions only. Assumes nothing.
use Rattle.std.specs.Prelude.{Bool, true, false, cond, ◌&&◌, Float, Option, Some, None, Result, Ok, Err}
use Rattle.std.specs.Float.Ieee.{eq, lt}
use Rattle.ieee.specs.Single.{zerof, onef}
use Rattle.words.specs.Answers.{Answer, given, refused, ◌then◌, answered}
use Rattle.light_bounds.specs.Importance.{NormalStep, lit, facing, normal_factor, finite_query, cos_w}
use Rattle.light_bounds.specs.Importance.{checked_importance}
use Rattle.light_bounds.specs.LightBounds.{validate}
use Rattle.light_bounds.specs.Vecmath.{dot, normalize}
use Rattle.light_bounds.specs.declared.vecmath.Vec3.{Vec3}
use Rattle.light_bounds.specs.declared.light_bounds.LightBounds.{LightBounds}
use Rattle.light_bounds.specs.declared.importance.Query.{Query}
use Rattle.words.specs.declared.refusals.Refusal.{Refusal}
use Rattle.words.specs.declared.refusals.Refusal.TheVariants.{NoDirection}
use Rattle.light_bounds.specs.declared.importance.Prepared.{Prepared}

-- a normal that is held: at length 1, or why not
abbrev pub Normal : Type 0
Normal = Result Vec3 Refusal

-- one that is there has a length to divide by, or it is refusal 7
abbrev pub of_length : Answer Vec3 → Normal
of_length (given u) = Ok u
of_length (refused n) = Err NoDirection

-- `dot(n, n)` = 0 means no normal
unfoldable pub unit_normal : Vec3 → Option Normal
unit_normal n = cond (eq (dot n n) zerof) None (Some (of_length (normalize n)))

-- none where the query is not finite
abbrev pub finite_point : Query → Option Vec3
finite_point q = cond (finite_query q) (Some q.p) None

unfoldable pub prepared : Query → Prepared
prepared q = record { p = finite_point q; normal = unit_normal q.n }

-- what the normal that is held makes of what is seen: 7 where it has no length
unfoldable pub with_held : Option Normal → NormalStep
with_held None wi cos_b p d2 = given (lit p d2)
with_held (Some n) wi cos_b p d2 = answered n then λ (u : Vec3). given (facing p d2 (normal_factor (dot wi u) cos_b))

-- of a record that passed its check; 5 where no point is held
abbrev pub held_importance : LightBounds → Option Vec3 → NormalStep → Answer Float
held_importance r (Some p) normal = checked_importance r p true normal
held_importance r None normal = refused 5

-- a record's weight for the query that is held; of `prepared q` it is that for q (WeighingLaws `weigh-held`)
unfoldable pub weigh_held : LightBounds → Prepared → Answer Float
weigh_held r h = validate r then λ _. held_importance r h.p (with_held h.normal)

-- ---- as the code has it

-- no normal is held, the cone's edge is not at its axis, and the direction is inside the cone
abbrev pub is_plain : LightBounds → Option Normal → Vec3 → Bool
is_plain r None wi = lt r.cos_theta_e onef && lt r.cos_theta_o (cos_w r wi)
is_plain r (Some n) wi = false
