-- The alias table's answer: where there is room, a bad weight's refusal or the table of the weights that are played.
-- Assumes nothing.
use Prim.Native.Nat.{ℕ}
use Rattle.std.specs.Prelude.{Some, None}
use mathlib.Core.Path.{◌≡◌, refl, sym, ap, ◌∙◌}
use mathlib.Core.Bool.{Bool, true, false, cond}
use mathlib.Core.List.{List, map}
use borrow.Author.Tests.{le-leb, le-ltb}
use lib.Ieee.{binary64, eq}
use lib.ListN.{length, replicate, length-map}
use Rattle.ieee.specs.Narrow.{narrow}
use Rattle.ieee.specs.Single.{single, zerof, onef}
use Rattle.words.specs.Answers.{given, refused}
use Rattle.alias_table.specs.AliasTable.{sum_from, filled_in, total, table, build_power_alias_table}
use Rattle.alias_table.specs.Laws.GameLaws.{table-length}
use Rattle.alias_table.specs.AsCoded.Stacks.{sums_of, weighted, played, Room}
use Rattle.alias_table.specs.declared.Sums.{Sums}
use Rattle.alias_table.proofs.WeightLaws.{sums-are, sums_refuse, weighted-length}

module _ (words : List ℕ) (sums : Sums) (e : Some sums ≡ sums_of (map single words)) where
  table_is : table (map single words) ≡ played (weighted (eq sums.single zerof) words)
  unfolding table played filled_in weighted
  table_is =
      rw (
        (sums-are (map single words) sums e).single-sum,
        weighted-length (eq sums.single zerof) words,
        length-map,
      )

  pub total-is :
      narrow (cond (eq sums.single zerof) (sum_from binary64 zerof (replicate (length words) onef)) sums.double)
      ≡ total (weighted (eq sums.single zerof) words)
  unfolding total weighted
  total-is = go (eq sums.single zerof)
    where
      go : (b : Bool) → narrow (cond b (sum_from binary64 zerof (replicate (length words) onef)) sums.double)
          ≡ narrow (sum_from binary64 zerof (cond b (replicate (length words) onef) (map single words)))
      go true = refl
      go false = ap narrow (sym (sums-are (map single words) sums e).double-sum)

  pub played-length : length (played (weighted (eq sums.single zerof) words)) ≡ length words
  played-length = rw (← table_is) (table-length (map single words) ∙ length-map words single)

module _ (words : List ℕ) {bins work : List ℕ} (room : Room (length words) bins work) where
  pub answer-bad : None ≡ sums_of (map single words)
      → build_power_alias_table words (length bins) (length work) ≡ refused 8
  unfolding build_power_alias_table
  answer-bad e =
      rw (le-ltb _ _ room.few, le-leb _ _ room.bins-room, le-leb _ _ room.work-room, sums_refuse _ e)

  pub answer-given : (sums : Sums) → Some sums ≡ sums_of (map single words)
      → build_power_alias_table words (length bins) (length work)
      ≡ given (played (weighted (eq sums.single zerof) words))
  unfolding build_power_alias_table
  answer-given sums e =
      rw (
        le-ltb _ _ room.few,
        le-leb _ _ room.bins-room,
        le-leb _ _ room.work-room,
        (sums-are _ sums e).good,
        table_is words sums e,
      )
