-- The lamps are counted, then the tree is made; what is refused before build leaves the trays as they are. Assumes
-- nothing.
use mathlib.Core.Path.{◌≡◌, sym, ap, ◌∙◌}
use native.Mathlib.Omega.{arith}
use borrow.Author.Rules.{rules}
use Rattle.words.specs.Answers.{given, refused, ◌then◌, answered}
use Rattle.words.specs.Refusals.{number}
use Rattle.light_report.specs.Report.{block_bytes, report_tree, block_lamps}
use Rattle.light_report.specs.AsCoded.Written.{sizes, taken}
use Rattle.light_report.specs.Laws.ReportLaws.{front-word, lamps-there}
use Rattle.light_report.proofs.TreeBytes.{unbuilt, sizes-given, sizes-refused}
use Rattle.light_report.proofs.take_tree.Goals as goal
use Rattle.light_report.proofs.take_tree.Goals.{In_ok-lamps}

-- how many lamps there are, and that they are there
count : (c : In_ok-lamps) → block_lamps c.args.input.now ≡ given c.in_ok-lamps.lamps
count c = sym c.block_lamps.ensures ∙ ap answered c.in_ok-lamps.was

pub make_tree-requires : goal.make_tree-requires
make_tree-requires c =
    let (word, few, there) = lamps-there c.args.input.now _ (count (goal.at.make_tree-requires c).In_ok-lamps) in
    (few, there)

pub returns : goal.returns
unfolding report_tree ◌then◌
returns c =
    let word = front-word c.args.input.now (block_bytes c.in_ok-lamps.lamps) (omega arith) in
    rw (count (goal.at.returns c).In_ok-lamps) (record {
      result_value = sizes-given _ _ _ (rw c.in_ok-powered.was at c.make_tree.ensures.result_value);
      nodes_after = rw word at c.make_tree.ensures.nodes_after;
      table_after = rw word at c.make_tree.ensures.table_after;
    })

pub returns-in_err-powered : goal.returns-in_err-powered
unfolding report_tree ◌then◌
returns-in_err-powered c =
    let why = c.in_err-powered in
    let word = front-word c.args.input.now (block_bytes c.in_ok-lamps.lamps) (omega arith) in
    let refusal : taken c.from_residual-in_err-powered.result ≡ refused (number why.field-0.0) = search rules in
    rw (count (goal.at.returns-in_err-powered c).In_ok-lamps) (record {
      result_value = refusal ∙ sizes-refused _ _ why.ensures.result_value;
      nodes_after = rw word at c.make_tree.ensures.nodes_after;
      table_after = rw word at c.make_tree.ensures.table_after;
    })

pub returns-in_err-lamps : goal.returns-in_err-lamps
unfolding report_tree ◌then◌ sizes
returns-in_err-lamps c =
    let none = sym c.in_err-lamps.ensures in
    rw none (record {
      result_value = search rules;
      nodes_after = unbuilt _ _ none _ _ _;
      table_after = unbuilt _ _
          none _ _ _;
    })
