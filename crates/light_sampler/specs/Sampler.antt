-- `bvh_light_sampler_sample` and `bvh_light_sampler_pmf` of `light_bvh.rs`, over words as little-endian bytes: the
-- checks of R6 and R7, then the walk. A draw and a chance by name are the outcomes of `sample_walk` and `pmf_walk`,
-- which also tell the places entered. Definitions only. Assumes nothing.
use Rattle.std.specs.Prelude.{ℕ, zero, suc, ◌/◌, ◌%◌, cond, ◌&&◌, List, eqb, ltb, Float, length, get_or}
use Rattle.std.proofs.Math.Option.{none, some}
use Rattle.std.specs.Float.Ieee.{le}
use Rattle.ieee.specs.Choose.{fmin}
use Rattle.ieee.specs.Single.{zerof, onef}
use Rattle.words.specs.Answers.{Answer, given, refused, ◌then◌}
use Rattle.words.specs.Limits.{max_lamps}
use Rattle.words.specs.LittleEndian.{words_of}
use Rattle.words.specs.Refusals.{number}
use Rattle.light_bounds.specs.declared.importance.Query.{Query}
use Rattle.light_rows.specs.Nodes.{invalid_index, node_count}
use Rattle.light_sampler.specs.Fork.{most}
use Rattle.light_sampler.specs.Walks.{Walked, ended, after_check, Draw, descend, ascend}
use Rattle.std.specs.Prelude.{Option as Option-of-std, Some, None, Result, Ok, Err}
use Rattle.words.specs.declared.refusals.Refusal.{Refusal}
use Rattle.light_sampler.specs.declared.sample.SampledLight.{SampledLight}

-- ---- draw

-- 2 and 1 of the nodes, then 11 where u is not from 0 to 1, which no NaN is: how many nodes
unfoldable pub sample_check : List ℕ → Float → Answer ℕ
sample_check nodes u = node_count nodes then λ (n : ℕ). cond (le zerof u && le u onef) (given n) (refused 11)

-- without nodes there is none to draw
unfoldable pub from_root : List ℕ → Query → Float → ℕ → Walked Draw
from_root ws q u zero = ended (given none)
from_root ws q u (suc n) = descend ws q (suc n) 0 onef (fmin u most)

unfoldable pub sample_walk : List ℕ → Query → Float → Walked Draw
sample_walk nodes q u = after_check (sample_check nodes u) (from_root (words_of nodes) q u)

abbrev pub sample : List ℕ → Query → Float → Answer Draw
sample nodes q u = (sample_walk nodes q u).outcome

-- ---- chance by name

-- 2 of the nodes or of the table, then 1: how many nodes
unfoldable pub pmf_check : List ℕ → List ℕ → Answer ℕ
pmf_check nodes table =
    cond (ltb max_lamps (length table / 4)) (refused 2)
    (node_count nodes then λ (n : ℕ). cond (eqb (length table % 4) 0) (given n) (refused 1))

-- `handle_to_leaf`, none past its end
unfoldable pub leaf_of : List ℕ → ℕ → ℕ
leaf_of table handle = get_or table handle invalid_index

-- a light without a leaf has chance 0
unfoldable pub from_leaf : List ℕ → Query → ℕ → ℕ → Walked Float
from_leaf ws q i n = cond (eqb i invalid_index) (ended (given zerof)) (ascend ws q n i onef)

unfoldable pub pmf_walk : List ℕ → List ℕ → Query → ℕ → Walked Float
pmf_walk nodes table q handle =
    after_check (pmf_check nodes table) (from_leaf (words_of nodes) q (leaf_of (words_of table) handle))

abbrev pub pmf : List ℕ → List ℕ → Query → ℕ → Answer Float
pmf nodes table q handle = (pmf_walk nodes table q handle).outcome

-- ---- as the code has it

abbrev pub drawn : Result (Option-of-std SampledLight) Refusal → Answer Draw
drawn (Ok (Some s)) = given (some (s.light, s.pmf))
drawn (Ok None) = given none
drawn (Err why) = refused (number why)
