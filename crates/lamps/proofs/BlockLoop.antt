-- The loop that takes the bounds of each lamp and writes their rows behind the count: its state, one lamp more, and
-- what is left at its end. Assumes nothing.
use Prim.Native.Nat.{ℕ, ◌+◌, ◌*◌, ◌≤◌, ◌<◌}
use mathlib.Core.Path.{◌≡◌, refl, ap, sym, ◌∙◌}
use mathlib.Core.List.{List, [], ◌∷◌, ◌++◌, append-nil}
use native.Mathlib.Omega.{arith}
use borrow.Author.Tests.{le-leb}
use lib.ListN.{length, get_or, set, length-set}
use lib.Seq.{sets, set-set, length-sets}
use Rattle.words.specs.Answers.{given, refused, count}
use Rattle.words.specs.AsCoded.Fill.{filled}
use Rattle.words.specs.Limits.{max_lamps}
use Rattle.words.specs.Tray.{tray}
use Rattle.words.specs.Laws.TrayLaws.{tray-full}
use Rattle.words.proofs.Reserves.{tray-zeroed}
use Rattle.words.proofs.RowLaws.{Written, written_none, written_one, written-under, written_behind}
use Rattle.words.proofs.RowLaws.{Walked, walked_none, walked_one, walked-refused, walked_all}
use Rattle.light_bounds.specs.declared.light_bounds.LightBounds.{LightBounds}
use Rattle.light_rows.specs.Block.{bounds_words, bounds_row, block_words, handle_place, pack_exhaustive_bounds}
use Rattle.light_rows.specs.AsCoded.BlockRow.{row_written}
use Rattle.lamps.specs.BuildBounds.{build_light_bounds}
use Rattle.lamps.specs.AsCoded.Passed.{next_bounds}
use Rattle.lamps.specs.declared.build_bounds.Passed.{Passed}
use Rattle.lamps.specs.LampList.{lamp_list}
use Rattle.lamps.proofs.BuildLaws.{list_counted, build-refused, build-given, row_width, length-block}
use Rattle.lamps.proofs.WalkLaws.{bounds_walk}

-- the bounds of the lamps before `place` are taken, and written behind the count
pub record Taking (list : List ℕ) (m : ℕ) (block₀ block : List ℕ) (place at : ℕ) : Type 0 where
  pub few : m ≤ max_lamps
  pub room : block_words m ≤ length block
  pub within : place ≤ m
  pub done : List LightBounds
  pub walked : Walked (bounds_walk list) m 1 place at done
  pub written : Written bounds_row bounds_words row_width (m ∷ []) done block₀ block

pub taking-none : (list : List ℕ) (m : ℕ) (d : List ℕ) → m ≤ max_lamps → block_words m ≤ length d →
    Taking list m (set d 0 m) (set d 0 m) 0 1
taking-none list m d few room =
    record {
      few = few;
      room = rw length-set room;
      within = omega arith;
      done = [];
      walked = walked_none (bounds_walk list) m 1;
      written =
          rw set-set at (written_none bounds_row bounds_words row_width (m ∷ []) (set d 0 m)
          (rw length-set (omega arith)));
    }

-- a row that fits is written
row_written_lem : (ws : List ℕ) (i : ℕ) (b : LightBounds) → handle_place i + bounds_words ≤ length ws
    → row_written ws i b ≡ sets ws (handle_place i) (bounds_row i b)
unfolding row_written
row_written_lem ws i b h = rw (le-leb (handle_place i + bounds_words) (length ws) h)

module _ {list : List ℕ} {m : ℕ} {block₀ block : List ℕ} {place at : ℕ} (t : Taking list m block₀ block place at) where
  pub taking-next : (p : Passed) → place < m → next_bounds list at ≡ given p
      → Taking list m block₀ (row_written block place p.bounds) (place + 1) p.next.at
  taking-next p h e =
      let n : length t.done ≡ place = t.walked.size in
      let put = row_written_lem block place p.bounds (omega (arith, t.room)) in
      let behind : 1 + bounds_words * length t.done ≡ handle_place place = ap (λ (k : ℕ). 1 + bounds_words * k) n in
      let row = written_one bounds_row bounds_words row_width p.bounds (handle_place place) t.written behind
      (omega (arith, t.room, t.written.same)) in
      record {
        few = t.few;
        room = rw (put, length-sets) t.room;
        within = omega arith;
        done = t.done ++ p.bounds ∷ [];
        walked = walked_one (bounds_walk list) p t.walked h e;
        written = rw put (rw n at row);
      }

module _ (d : List ℕ) {list l : List ℕ} {m place at : ℕ} (t : Taking list m (set d 0 m) l place at)
    (counted : count (lamp_list list) ≡ given m)
    (enough : block_words m ≤ length d) where
  under : Written bounds_row bounds_words row_width (m ∷ []) t.done d l
  under = written-under bounds_row bounds_words row_width d t.written (omega arith)

  same : block_words (get_or list 0 0) ≡ block_words m
  same = let (rs, read, n, is, few) = list_counted list m counted in ap (λ (k : ℕ). block_words k) (sym is)

  -- a lamp that is refused: its number, and zeros
  pub taking-refused : (n : ℕ) → place < m → next_bounds list at ≡ refused n
      → (refused n ≡ count (build_light_bounds list (length d)))
      × (filled l 0 (block_words m) 0 ≡
      tray pack_exhaustive_bounds (block_words (get_or list 0 0)) (build_light_bounds list (length d)) d)
  taking-refused n h e =
      let (is, late) = build-refused list (length d) m counted enough n
      (walked-refused (bounds_walk list) t.walked h e) in
      let behind = written_behind bounds_row bounds_words row_width (block_words m) under (omega (arith, t.walked.size))
      in
      rw (is, same) (refl, tray-zeroed pack_exhaustive_bounds (block_words m) d l n t.room behind late)

  -- all of them: the count, and the block
  pub taking-all : m ≤ place
      → (given m ≡ count (build_light_bounds list (length d)))
      × (l ≡ tray pack_exhaustive_bounds (block_words (get_or list 0 0)) (build_light_bounds list (length d)) d)
  unfolding pack_exhaustive_bounds
  taking-all h =
      let n : length t.done ≡ m = omega (arith, t.walked.size, t.within) in
      let is = build-given list (length d) m counted enough t.done
      (walked_all (bounds_walk list) t.walked h ∙ ap given (append-nil t.done)) in
      rw (is, same) (
        ap given (sym n),
        under.is ∙ rw n
            (rw n at (sym (tray-full pack_exhaustive_bounds (block_words m) d t.done (length-block t.done ∙ rw n)))),
      )
