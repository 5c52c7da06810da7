-- The walk that is left comes to what the whole walk comes to. Assumes nothing.
use Prim.Native.Nat.{◌-◌}
use mathlib.Core.Path.{◌≡◌}
use Rattle.ieee.specs.Single.{onef}
use Rattle.words.specs.Answers.{given}
use Rattle.words.specs.LittleEndian.{words_of}
use Rattle.light_rows.specs.Nodes.{node_value, node_at}
use Rattle.light_sampler.specs.Walks.{ascend}
use Rattle.light_sampler.proofs.pmf.ascend.Given as goal

abbrev pub invariant-loop : goal.invariant-loop
invariant-loop l = record {
  stands : given (node_value l.here) ≡ node_at (words_of l.nodes) l.place;
  walk : (ascend (words_of l.nodes) l.fn.query (l.count - l.counter) l.place l.pmf).outcome
      ≡ (ascend (words_of l.nodes) l.fn.query l.count l.leaf onef).outcome;
}
