-- Each turn puts a word behind those that are written. Assumes nothing.
use Rattle.packed_bvh.proofs.PackLaws.{words-none, words-next, words-all}
use Rattle.packed_bvh.proofs.pack.write_words.Goals as goal

pub loop-i-init : goal.loop-i-init
loop-i-init c = words-none _ _

pub loop-i-preserved : goal.loop-i-preserved
loop-i-preserved c = words-next _ c.requires c.loop-i-test.true c.loop-i.invariant c.set_word.ensures

pub returns : goal.returns
returns c = words-all _ c.loop-i-test.false c.loop-i.invariant
