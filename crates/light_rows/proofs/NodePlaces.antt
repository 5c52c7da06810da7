-- Nodes at a place, as the code writes them: whether the row is there and the head has room is settled first, then the
-- words. Assumes nothing.
use Prim.Native.Nat.{ℕ, suc, ◌+◌, ◌/◌, ◌≤◌, ◌<◌}
use mathlib.Core.Path.{◌≡◌, ◌∙◌}
use mathlib.Core.Bool.{true, false, and-false}
use mathlib.Core.List.{List, ◌∷◌}
use native.Mathlib.Numerals.{add-one}
use native.Mathlib.Omega.{arith}
use borrow.Author.Tests.{le-leb, lt-leb}
use lib.Dec.{leb}
use lib.ListN.{length, set, length-set}
use lib.Seq.{sets}
use Rattle.light_bounds.specs.declared.light_bounds.LightBounds.{LightBounds}
use Rattle.light_rows.specs.RecordWords.{record_list}
use Rattle.light_rows.specs.AsCoded.RecordRow.{written_at}
use Rattle.light_rows.specs.Laws.RecordPlaces.{written_at-sets}
use Rattle.light_rows.specs.Nodes.{LightBVHNode, node_words, node_place, node_list}
use Rattle.light_rows.specs.AsCoded.NodeRow.{head_fits, node_fits, node_written}

-- three words, then the record
pub put-node-parts : (ws : List ℕ) (at head right p : ℕ) (b : LightBounds) → at + node_words ≤ length ws
    → written_at (set (set (set ws at head) (at + 1) right) (at + 2) p) (at + 3) b ≡
    sets ws at (head ∷ right ∷ p ∷ record_list b)
put-node-parts ws at head right p b h =
    let e2 : at + 2 ≡ suc (suc at) = omega arith in
    let e3 : at + 3 ≡ suc (suc (suc at)) = omega arith in
    written_at-sets (set (set (set ws at head) (at + 1) right) (at + 2) p) (at + 3) b (simp length-set (omega arith))
    ∙ rw (e3, e2, add-one at)

-- ---- whether it fits

module _ (ws : List ℕ) (i : ℕ) (n : LightBVHNode) where
  pub row_fits_lem : i < length ws / node_words → head_fits n ≡ true → node_fits ws i n ≡ true
  unfolding node_fits
  row_fits_lem h f = rw (le-leb (node_place (suc i)) (length ws) (omega arith), f)

  pub no_row : length ws / node_words ≤ i → node_fits ws i n ≡ false
  unfolding node_fits
  no_row h = rw (lt-leb (node_place (suc i)) (length ws) (omega arith))

  pub too_wide : head_fits n ≡ false → node_fits ws i n ≡ false
  unfolding node_fits
  too_wide f = rw f (and-false (leb (node_place (suc i)) (length ws)))

-- a node that fits is written
pub node_written-room : (ws : List ℕ) (i : ℕ) (n : LightBVHNode) (b : LightBounds) → i < length ws / node_words
    → head_fits n ≡ true → node_written ws i n b ≡ sets ws (node_place i) (node_list n b)
unfolding node_written
node_written-room ws i n b h f = rw (row_fits_lem ws i n h f)
