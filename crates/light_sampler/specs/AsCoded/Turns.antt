-- The walks' steps as the code has them: what they answer, and how they weigh, by the query that is held. Definitions
-- only. Assumes nothing.
use Rattle.std.specs.Prelude.{ℕ, cond, List, eqb, Float, Option, Some, None, Result, Ok, Err}
use Rattle.words.specs.Answers.{Answer, given, refused}
use Rattle.words.specs.Refusals.{number}
use Rattle.words.specs.declared.refusals.Refusal.{Refusal}
use Rattle.light_bounds.specs.AsCoded.Weighing.{weigh_held}
use Rattle.light_bounds.specs.declared.light_bounds.LightBounds.{LightBounds}
use Rattle.light_bounds.specs.declared.importance.Prepared.{Prepared}
use Rattle.light_sampler.specs.Fork.{Turn as Turned, neither, left, right}
use Rattle.light_rows.specs.Nodes.{invalid_index}
use Rattle.light_sampler.specs.Sampler.{leaf_of}
use Rattle.light_sampler.specs.Walks.{Weighing, Rise, nought, part}
use Rattle.light_sampler.specs.declared.fork.Branch.{Branch}
use Rattle.light_sampler.specs.declared.fork.Turn.{Turn}
use Rattle.light_sampler.specs.declared.fork.Branch.TheVariants.{Left, Right}

-- for the query that is held; of `prepared q` it is `by_query q` (proofs WalkLaws `by-held`)
abbrev pub by_prepared : Prepared → Weighing
by_prepared h = λ (b : LightBounds). weigh_held b h

abbrev pub into : Branch → Float → Float → Turned
into Left s u = left s u
into Right s u = right s u

-- none: neither branch
abbrev pub turned : Option Turn → Turned
turned (Some to) = into to.branch to.share to.u
turned None = neither

abbrev pub turn_answer : Result (Option Turn) Refusal → Answer Turned
turn_answer (Ok t) = given (turned t)
turn_answer (Err why) = refused (number why)

-- none: no child has weight
abbrev pub risen_of : Result (Option Float) Refusal → Answer Rise
risen_of (Ok (Some s)) = given (part s)
risen_of (Ok None) = given nought
risen_of (Err why) = refused (number why)

-- the place of a light's leaf, none where its word is the invalid one
unfoldable pub leaf_found : List ℕ → ℕ → Option ℕ
leaf_found table handle = let leaf = leaf_of table handle in cond (eqb leaf invalid_index) None (Some leaf)
