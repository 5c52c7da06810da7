-- A tree that a report takes: its rows are the block's lamps, no more than 512, and its nodes and table are as
-- long as they say. Assumes nothing.
use Rattle.std.specs.Prelude.{ℕ, ◌≤◌, ◌≡◌, Bool, ◌&&◌, List, length, get_or, take}
use Rattle.std.proofs.Math.Path.{refl, sym}
use Rattle.std.proofs.Common.{◌∙◌}
use Rattle.std.proofs.Math.Bool.{true, false, cond}
use borrow.Author.Tests.{eqb-true}
use Rattle.std.proofs.Math.Dec.{eqb}
use Rattle.words.specs.Answers.{given, refused, ◌then◌}
use Rattle.words.specs.Limits.{crowded}
use Rattle.words.specs.LittleEndian.{words_of}
use Rattle.words.specs.Rows.{below}
use Rattle.words.proofs.AnswerLaws.{then-given, given_injective, not-both}
use Rattle.light_rows.specs.Block.{block_words, side_at, block_layout, block_handles}
use Rattle.light_bvh.specs.Build.{LightBVH, validated, built_bvh, is_short, build_check}
use Rattle.light_bvh.specs.Build.{build_light_bvh, nodes_reserve, nodes_written, table_written}
use Rattle.light_bvh.proofs.RowsLaws.{bounded-few}
use Rattle.tree_laws.specs.Laws.AcceptedTree.{Parts, accepted-parts, handles-count}
use Rattle.tree_laws.specs.Laws.NodeLaws.{node-words, table-words}
use Rattle.light_report.specs.Report.{report_lamps, block_bytes, block_lamps, tree_of, report_tree}
use Rattle.light_report.specs.Laws.ReportLaws.{lamps-there}

layout-count : (ws : List ℕ) (m : ℕ) → block_layout ws ≡ given m → get_or ws 0 0 ≡ m
unfolding block_layout
layout-count ws m e = go (crowded ws) (eqb (length ws) (block_words (get_or ws 0 0)) && below (side_at ws)
    (get_or ws 0 0)) e
  where
    go : (a b : Bool) → cond a (refused 2) (cond b (given (get_or ws 0 0)) (refused 1)) ≡ given m → get_or ws 0 0 ≡ m
    go true b e = absurd (not-both e refl)
    go false true e = given_injective e
    go false false e = absurd (not-both e refl)

module _ (lights : ℕ) (ws : List ℕ) (nodes table work : ℕ) (b : LightBVH)
    (accepted : build_light_bvh lights ws nodes table work ≡ given b) where
  parts : Parts ws b
  parts = accepted-parts lights ws nodes table work b accepted

  -- the records that are counted are the block's
  pub rows_are : b.rows ≡ lights
  unfolding build_light_bvh build_check
  rows_are =
      let (m, check, e) = then-given (build_check lights ws nodes table work)
      (λ (m : ℕ). validated ws m then λ _. built_bvh ws m) b accepted in
      let (l, layout, e₁) =
      then-given (block_layout ws)
      (λ (m : ℕ). cond (eqb lights m) (given m) (refused 1) then λ (m : ℕ). block_handles ws then λ (m : ℕ).
      cond (is_short m nodes table work) (refused 3) (given m)) m check in
      let (k, same, e₂) =
      then-given (cond (eqb lights l) (given l) (refused 1))
      (λ (m : ℕ). block_handles ws then λ (m : ℕ). cond (is_short m nodes table work) (refused 3) (given m)) m e₁ in
      sym (handles-count ws b.rows parts.labelled) ∙ layout-count ws l layout ∙ sym
      (go l k (eqb lights l) refl same)
    where
      go : (l k : ℕ) (t : Bool) → eqb lights l ≡ t → cond t (given l) (refused 1) ≡ given k → lights ≡ l
      go l k true is e = eqb-true lights l is
      go l k false is e = absurd (not-both e refl)

  pub powered-few : b.k ≤ b.rows
  powered-few = rw parts.powered (bounded-few ws b.rows)

-- what a tree that is taken of an input has
pub record TreeOf (input : List ℕ) (b : LightBVH) : Type 0 where
  pub powered : b.k ≤ b.rows
  pub few : b.rows ≤ report_lamps
  pub word : get_or (words_of input) 0 0 ≡ b.rows
  pub there : block_bytes b.rows ≤ length input
  pub nodes : length (nodes_written b) ≡ nodes_reserve b.k
  pub table : length (table_written b) ≡ b.rows

pub tree-of : (input : List ℕ) (b : LightBVH) → report_tree input ≡ given b → TreeOf input b
unfolding report_tree tree_of
tree-of input b is =
    let (m, count, tree) = then-given (block_lamps input)
    (λ (m : ℕ). tree_of m (words_of (take (block_bytes m) input))) b is in
    let (word, few, there) = lamps-there input m count in
    let ws = words_of (take (block_bytes m) input) in
    let rows = rows_are m ws _ _ _ b tree in
    record {
      powered = powered-few m ws _ _ _ b tree;
      few = rw rows few;
      word = word ∙ sym rows;
      there = rw rows there;
      nodes = node-words ws b (parts m ws _ _ _ b tree);
      table = table-words ws b (parts m ws _ _ _ b tree);
    }
