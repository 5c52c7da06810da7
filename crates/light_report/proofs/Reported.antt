-- The lines of groups, one behind the other. Assumes nothing.
use Prim.Native.Nat.{ℕ, suc, ◌+◌, ◌*◌, ◌/◌, ◌%◌, ◌≤◌, ◌<◌}
use mathlib.Core.Path.{◌≡◌, refl, sym, ap, subst, ◌∙◌}
use mathlib.Core.List.{List, ◌++◌, append-nil}
use native.Mathlib.Nat.{zero-add}
use native.Mathlib.Omega.{arith}
use borrow.Author.Tests.{eq-eqb, ne_eqb}
use lib.ListN.{length, take, drop, length-append}
use lib.Seq.{sets, length-sets, drop-drop, take-append_seam, drop-append_seam}
use Rattle.std.proofs.Common.{length-drop}
use Rattle.words.specs.Answers.{refused}
use Rattle.text.specs.AsCoded.Puts.{Put}
use Rattle.light_report.specs.Lines.{line_bytes, group_line, group_lines, part_line, report_lines}
use Rattle.text.proofs.PutLaws.{put_then}

-- the lines of the first i groups are written
pub record Reported (nodes table bytes before : List ℕ) (count : ℕ) (out : List ℕ) (at i : ℕ) : Type 0 where
  pub all : count ≡ length bytes / 28
  pub room : 29 * count + 29 ≤ length before
  pub within : i ≤ count
  pub same : length out ≡ length before
  pub short : at ≤ 29 * i
  pub lines : Put before 0 (group_lines nodes table bytes i) out at

pub reported-none : {nodes table bytes before : List ℕ} → 29 * (length bytes / 28) + 29 ≤ length before
    → Reported nodes table bytes before (length bytes / 28) before 0 0
unfolding group_lines
reported-none room =
    record {
      all = refl;
      room = room;
      within = omega arith;
      same = refl;
      short = omega arith;
      lines = record { is = refl; past = refl };
    }

pub reported-next : {nodes table bytes before out out' : List ℕ} {count at end i : ℕ} → i < count
    → Reported nodes table bytes before count out at i
    → Put out at (group_line nodes table (take 28 (drop (28 * i) bytes))) out' end → end ≤ at + 29
    → Reported nodes table bytes before count out' end (i + 1)
unfolding group_lines
reported-next {nodes} {table} {bytes} {before} {out} {out'} {count} {at} {end} {i} h r w few =
    let up : i + 1 ≡ suc i = omega arith in
    record {
      all = r.all;
      room = r.room;
      within = omega (arith, h);
      same = rw w.is (length-sets out at (group_line nodes table (take 28 (drop (28 * i) bytes))) ∙ r.same);
      short = omega (arith, r.short, few);
      lines = rw up (put_then r.lines w);
    }

-- a group that is cut off the front of what is left
pub group-cut : (bytes : List ℕ) {group rest rest' : List ℕ} (i : ℕ) → rest ≡ drop (28 * i) bytes
    → rest ≡ group ++ rest'
    → length group ≡ 28
    → (i < length bytes / 28) × (take 28 (drop (28 * i) bytes) ≡ group) × (rest' ≡ drop (28 * (i + 1)) bytes)
group-cut bytes {group} {rest} {rest'} i left cut whole =
    let e : drop (28 * i) bytes ≡ group ++ rest' = sym left ∙ cut in
    let step : 28 * i + 28 ≡ 28 * (i + 1) = omega arith in (
      omega (arith, ap length e, length-drop (28 * i) bytes, length-append group rest', whole),
      rw (e, ← whole) (take-append_seam group rest'),
      rw (← step) (sym (ap (drop 28) e
          ∙ subst (λ (n : ℕ). drop n (group ++ rest') ≡ rest') whole (drop-append_seam group rest'))
          ∙ drop-drop 28 (28 * i) bytes),
    )

-- what is left at the end is no whole group
pub groups-end : (bytes : List ℕ) {rest : List ℕ} (i : ℕ) → rest ≡ drop (28 * i) bytes → length rest < 28
    → length bytes / 28 ≤
    i
groups-end bytes {rest} i left few = omega (arith, ap length left, length-drop (28 * i) bytes, few)

-- at the end all lines are there, but for a part group's
pub reported-all : {nodes table bytes before out : List ℕ} {count at i : ℕ} → count ≤ i → length bytes % 28 ≡ 0
    → Reported nodes table bytes before count out at i
    → (out ≡ sets before 0 (report_lines nodes table bytes)) ×
    ((at ≡ length (report_lines nodes table bytes)) × (at ≤ length before))
unfolding report_lines part_line
reported-all {nodes} {table} {bytes} {before} {out} {count} {at} {i} h whole r =
    let e : i ≡ length bytes / 28 = omega (arith, h, r.all, r.within) in
    let there = rw e at r.lines in
    simp (eq-eqb (length bytes % 28) 0 whole, append-nil)
    (there.is, (there.past ∙ zero-add _, omega (arith, r.short, r.room, r.within)))

pub reported-part : {nodes table bytes before out out' : List ℕ} {count at end i : ℕ} → count ≤ i
    → (length bytes % 28 ≡ 0 → ⊥)
    → Reported nodes table bytes before count out at i → Put out at (line_bytes (refused 1)) out' end → end ≤ at + 29
    → (out' ≡ sets before 0 (report_lines nodes table bytes)) ×
    ((end ≡ length (report_lines nodes table bytes)) × (end ≤ length before))
unfolding report_lines part_line
reported-part {nodes} {table} {bytes} {before} {out} {out'} {count} {at} {end} {i} h part r w few =
    let e : i ≡ length bytes / 28 = omega (arith, h, r.all, r.within) in
    let there = put_then (rw e at r.lines) w in
    simp (ne_eqb (length bytes % 28) 0 part)
    (there.is, (there.past ∙ zero-add _, omega (arith, r.short, r.room, r.within, few)))
