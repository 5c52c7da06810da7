-- The words in which demand 3 is said, as docs/REQUIREMENTS.md R8 explains them; those of the
-- nodes and the table alone stand in tree_laws TreeWords. Definitions only. Assumes nothing.
use Rattle.std.specs.Prelude.{ℕ, ◌≡◌, List, T, Float}
use Rattle.std.proofs.Math.Option.{some}
use Rattle.std.specs.Float.{binary32}
use Rattle.std.specs.Float.Ieee.{fits as fits_format, le}
use Rattle.ieee.specs.Single.{zerof, onef}
use Rattle.words.specs.Answers.{given}
use Rattle.words.specs.LittleEndian.{bytes_of}
use Rattle.light_bounds.specs.declared.importance.Query.{Query}
use Rattle.light_bvh.specs.Build.{LightBVH, nodes_written, table_written}
use Rattle.light_sampler.specs.Sampler.{sample_walk, sample, pmf_walk}

-- a u of the format from 0 to 1, as floats compare
pub record FromZeroToOne (u : Float) : Type 0 where
  pub fits : T (fits_format binary32 u)
  pub from_zero : T (le zerof u)
  pub to_one : T (le u onef)

-- "the u values": `u ≤ v` as floats compare, -0 as 0
pub record InOrder (u v : Float) : Type 0 where
  pub first : FromZeroToOne u
  pub second : FromZeroToOne v
  pub order : T (le u v)

-- the nodes' and the handle table's words that build leaves, handed to the draw and to the chance by name as bytes
abbrev pub nodes : LightBVH → List ℕ
nodes b = bytes_of (nodes_written b)

abbrev pub table : LightBVH → List ℕ
table b = bytes_of (table_written b)

-- u draws the lamp h; a draw with none or a refusal draws no lamp
abbrev pub Draws : LightBVH → Query → Float → ℕ → Type 0
Draws b q u h = (c : Float) × (sample (nodes b) q u ≡ given (some (h, c)))

-- the nodes that a draw enters, root first; and those that the chance by name enters, leaf first
abbrev pub draw_enters : LightBVH → Query → Float → List ℕ
draw_enters b q u = (sample_walk (nodes b) q u).places

abbrev pub name_enters : LightBVH → Query → ℕ → List ℕ
name_enters b q h = (pmf_walk (nodes b) (table b) q h).places
