-- `packed_bvh::pack::pack_node`: its steps are the definition's, whose last three `place` takes together. Assumes
-- nothing.
use borrow.Author.Rules.{rules}
use Rattle.words.specs.Answers.{◌then◌}
use Rattle.packed_bvh.proofs.PackLaws.{node-checked}
use Rattle.packed_bvh.proofs.pack.pack_node.Goals as goal

pub returns-in_err-placed : goal.returns-in_err-placed
unfolding ◌then◌
returns-in_err-placed c =
    rw (
      node-checked c.args.count c.args.all _ c.args.index c.in_ok-node.ensures c.in_ok-bounds.ensures
          c.in_ok-validate.ensures c.in_ok-d.ensures,
      ← c.in_err-placed.ensures,
    ) (search rules)

pub returns : goal.returns
unfolding ◌then◌
returns c =
    rw (
      node-checked c.args.count c.args.all _ c.args.index c.in_ok-node.ensures c.in_ok-bounds.ensures
          c.in_ok-validate.ensures c.in_ok-d.ensures,
      ← c.in_ok-placed.ensures,
      c.compact_words.ensures,
    )
