-- A stretch of handles and the nodes built of it, as the recursion leaves them in words. Definitions only. Assumes
-- nothing.
use Rattle.std.specs.Prelude.{ℕ, ◌+◌, List, ◌++◌, length}
use Rattle.words.specs.Answers.{Answer, given, refused, ◌then◌}
use Rattle.light_bounds.specs.LightBounds.{union}
use Rattle.light_bounds.specs.declared.light_bounds.LightBounds.{LightBounds}
use Rattle.light_rows.specs.RecordWords.{read_record}
use Rattle.light_rows.specs.Nodes.{interior, bounds_place}
use Rattle.light_rows.specs.AsCoded.NodeRow.{node_written}
use Rattle.light_rows.specs.Tree.{Tree, flatten}
use Rattle.light_split.specs.Partition.{partition_handles}
use Rattle.light_split.specs.Split.{choose_split}
use Rattle.light_split.specs.declared.split.Split.{Split}

-- that something is given, or why not
abbrev pub done : {A : Type 0} → Answer A → Answer (Unit {0})
done (given a) = given tt
done (refused n) = refused n

-- the words of a tree whose root stands at a place, under a parent; without one, whatever is left
abbrev pub subtree_words : ℕ → ℕ → Answer Tree → List ℕ → List ℕ
subtree_words at parent (given t) left = flatten at parent t
subtree_words at parent (refused n) left = left

-- how many handles the left half of a stretch has, and the stretch with its halves one behind the other
unfoldable pub split_count : List ℕ → List ℕ → Answer ℕ
split_count ws hs = choose_split ws hs then λ (s : Split). given (length (partition_handles ws hs s).0)

unfoldable pub split_handles : List ℕ → List ℕ → List ℕ
split_handles ws hs = parted (choose_split ws hs)
  where
    parted : Answer Split → List ℕ
    parted (given s) = (partition_handles ws hs s).0 ++ (partition_handles ws hs s).1
    parted (refused n) = hs

-- the record around the trees at nodes 1 and `right`, read back from their words; and the node over them, in front
abbrev pub union_at : List ℕ → ℕ → Answer LightBounds
union_at ws right = union (read_record ws (bounds_place 1)) (read_record ws (bounds_place right))

abbrev pub joined_words : ℕ → ℕ → ℕ → List ℕ → Answer LightBounds → List ℕ
joined_words at parent right ws (given b) = node_written ws 0 (interior (at + 1) (at + right) parent) b
joined_words at parent right ws (refused n) = ws
