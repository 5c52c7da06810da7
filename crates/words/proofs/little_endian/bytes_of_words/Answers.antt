-- `words::little_endian::bytes_of_words` meets its contract. The loop's invariant: the bytes before `4 * i` are those
-- of the words, and the others are as they came. Assumes nothing.
use Prim.Native.Nat.{ℕ, ◌+◌, ◌*◌, ◌/◌, ◌≤◌, ◌<◌}
use mathlib.Core.Path.{◌≡◌, refl}
use mathlib.Core.List.{List}
use borrow.Author.Tests.{lt-ltb, le-leb, lt-leb}
use native.Mathlib.Omega.{arith}
use lib.ListN.{length, get_or}
use Rattle.words.specs.LittleEndian.{bytes_of, bytes_of_word}
use Rattle.words.specs.AsCoded.WordSlices.{set_word, written_words}
use Rattle.words.specs.Tray.{tray}
use Rattle.words.proofs.LittleEndianLaws.{length-bytes_of, bytes_of-at}
use Rattle.words.proofs.Stores.{Copied, copied_none, copied_run}
use Rattle.words.proofs.Reserves.{tray_copied}
use Rattle.words.proofs.little_endian.bytes_of_words.Goals as goal

-- a turn
copied-word : (ws : List ℕ) {d l : List ℕ} {i : ℕ} → Copied (bytes_of ws) d (4 * i) l → i < length ws →
    4 * length ws ≤ length d
    → Copied (bytes_of ws) d (4 * (i + 1)) (set_word l i (get_or ws i 0))
unfolding set_word
copied-word ws {l} {i} c h k =
    let e : 4 * (i + 1) ≡ 4 * i + 4 = omega arith in
    simp (e, lt-ltb i (length l / 4) (omega arith))
    (copied_run (bytes_of_word (get_or ws i 0)) c (bytes_of-at ws i h) (rw length-bytes_of (omega arith)) (omega arith))

pub returns-then-bytes-words : goal.returns-then-bytes-words
unfolding written_words tray
returns-then-bytes-words c = let args = c.args in
    let h : length args.bytes.now < 4 * length args.words.now = omega arith in
    simp (lt-leb _ _ h) (record { result_value = refl; bytes_after = refl })

pub loop-i-init : goal.loop-i-init
loop-i-init c = copied_none

pub loop-i-preserved : goal.loop-i-preserved
loop-i-preserved c = rw c.set_word.ensures (copied-word _ c.loop-i.invariant (omega arith) (omega arith))

pub returns : goal.returns
unfolding written_words
returns c = let args = c.args in
    let h : 4 * length args.words.now ≤ length args.bytes.now = omega arith in
    simp (le-leb _ _ h) (record {
      result_value = refl;
      bytes_after = tray_copied _ _ _ _ c.loop-i.invariant (omega arith) (length-bytes_of _);
    })
