-- Within the table the word is read, which is the invalid one or the leaf's place; past its end there is none. Assumes
-- nothing.
use mathlib.Core.Path.{◌≡◌, ◌∙◌}
use borrow.Author.Tests.{eq-eqb, ne_eqb}
use lib.ListN.{get_or-eq_default}
use Rattle.std.proofs.lemmas.List.{get_or_default}
use Rattle.words.specs.LittleEndian.{words_of}
use Rattle.words.proofs.LittleEndianLaws.{length-words_of}
use Rattle.light_rows.specs.Nodes.{invalid_index}
use Rattle.light_sampler.specs.Sampler.{leaf_of}
use Rattle.light_sampler.specs.AsCoded.Turns.{leaf_found}
use Rattle.light_sampler.proofs.pmf.leaf_of.Goals as goal
use Rattle.light_sampler.proofs.pmf.leaf_of.Goals.{After-word_at-leaf}

-- the word that is read
word : (c : After-word_at-leaf) → c.word_at-leaf.result ≡ leaf_of (words_of c.args.table.now) c.args.handle
unfolding leaf_of
word c = c.word_at-leaf.ensures ∙ get_or_default (words_of c.args.table.now) c.args.handle 0 invalid_index
    (rw length-words_of c.if-table-handle.false)

pub returns-then-table-handle : goal.returns-then-table-handle
unfolding leaf_of leaf_found
returns-then-table-handle c =
    let none : leaf_of (words_of c.args.table.now) c.args.handle ≡ invalid_index =
    get_or-eq_default (words_of c.args.table.now) invalid_index (rw length-words_of c.if-table-handle.true) in
    rw none

pub returns-then-leaf : goal.returns-then-leaf
unfolding leaf_found
returns-then-leaf c =
    rw (← word (goal.at.returns-then-leaf c).After-word_at-leaf, eq-eqb _ _ c.if-leaf.true)

pub returns-else-leaf : goal.returns-else-leaf
unfolding leaf_found
returns-else-leaf c =
    rw (← word (goal.at.returns-else-leaf c).After-word_at-leaf, ne_eqb _ _ c.if-leaf.false)
