-- `packed_bvh::pack::place`: its tests are the payload's check, the parent's, then the left child's. Assumes nothing.
use borrow.Author.Rules.{rules}
use Rattle.words.proofs.AnswerLaws.{steps}
use Rattle.packed_bvh.specs.Packed.{payload_check, parent_check, left_check}
use Rattle.packed_bvh.specs.AsCoded.PackedParts.{placing}
use Rattle.packed_bvh.proofs.pack.place.Goals as goal

pub returns-then-payload-gt-INDEX_MAX : goal.returns-then-payload-gt-INDEX_MAX
unfolding placing payload_check
returns-then-payload-gt-INDEX_MAX c = search (rules, steps)

pub returns-then-not-is_parent : goal.returns-then-not-is_parent
unfolding placing payload_check parent_check
returns-then-not-is_parent c = search (rules, steps)

pub returns-in-Leaf : goal.returns-in-Leaf
unfolding placing payload_check parent_check left_check
returns-in-Leaf c = search (rules, steps)

pub returns-then-left_child-index : goal.returns-then-left_child-index
unfolding placing payload_check parent_check left_check
returns-then-left_child-index c = search (rules, steps)

pub returns-else-left_child-index : goal.returns-else-left_child-index
unfolding placing payload_check parent_check left_check
returns-else-left_child-index c = search (rules, steps)
