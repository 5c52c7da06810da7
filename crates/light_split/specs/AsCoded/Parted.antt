-- What parting a stretch answers and leaves in its handles and its work. Definitions only. Assumes nothing.
use Rattle.std.specs.Prelude.{ℕ, cond, List, ◌++◌, ltb, length}
use Rattle.words.specs.AsCoded.ListParts.{laid}
use Rattle.words.specs.Answers.{Answer, given, refused}
use Rattle.light_split.specs.declared.split.Split.{Split}
use Rattle.light_split.specs.Partition.{partition_handles, rights}

-- how many go left
unfoldable pub parted_count : List ℕ → List ℕ → Split → ℕ → Answer ℕ
parted_count ws hs s room = cond (ltb room (length hs)) (refused 3) (given (length (partition_handles ws hs s).0))

-- the stretch: the left half, then the right
unfoldable pub parted_handles : List ℕ → List ℕ → Split → ℕ → List ℕ
parted_handles ws hs s room = cond (ltb room (length hs)) hs ((partition_handles ws hs s).0 ++
    (partition_handles ws hs
    s).1)

unfoldable pub parted_work : List ℕ → List ℕ → Split → List ℕ → List ℕ
parted_work ws hs s work = cond (ltb (length work) (length hs)) work (laid (rights ws hs s) work)
