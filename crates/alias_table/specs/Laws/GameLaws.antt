-- Laws of the alias table's game: what pushing does, that the game ends, how many bins there are, and that every bin is
-- settled once. Assumes nothing.
use Prim.Native.Nat.{ℕ, zero, suc, ◌+◌, ◌≤◌, ◌<◌}
use Rattle.std.specs.Prelude.{◌≡◌, Bool, true, false, cond, ◌⊎◌, eqb, pos, Float, length, replicate}
use Rattle.std.proofs.Math.Path.{refl, ap}
use Rattle.std.proofs.Common.{sym, ◌∙◌, inl, inr, ⊎_elim, zero-add, lt_of_not-le, arith, eq-eqb, ne_eqb}
use mathlib.Core.List.{List, [], ◌∷◌, ◌++◌, map}
use Rattle.std.proofs.Math.Decide.{dec_le}
use Rattle.std.specs.Float.Ieee.{binary32, of_int, eq, lt}
use Rattle.std.proofs.Math.ListN.{length-map}
use Rattle.std.proofs.lemmas.List.{length-replicate}
use Rattle.ieee.specs.Single.{◌⊕◌, ◌⊖◌, ◌⊗◌, zerof, onef}
use Rattle.alias_table.specs.AliasTable.{Bin, Entry, State, sum_from, filled_in, total}
use Rattle.alias_table.specs.AliasTable.{bin, push, push_all, start, table}
use Rattle.alias_table.specs.AliasTable.{update, settle, whole, turned, turn, turns, leftover, finish}

-- ---- pushing

abbrev on_under : Entry → State → State
on_under e s = record { bins = s.bins; under = e ∷ s.under; over = s.over }

abbrev on_over : Entry → State → State
on_over e s = record { bins = s.bins; under = s.under; over = e ∷ s.over }

push-either : (e : Entry) (s : State) → (push e s ≡ on_under e s) ⊎ (push e s ≡ on_over e s)
unfolding push
push-either e s = go (lt e.weight onef)
  where
    go : (b : Bool) → (cond b (on_under e s) (on_over e s) ≡ on_under e s) ⊎
        (cond b (on_under e s) (on_over e s) ≡ on_over e s)
    go true = inl refl
    go false = inr refl

pub push-bins : (e : Entry) (s : State) → (push e s).bins ≡ s.bins
push-bins e s = ⊎_elim (λ p. rw p) (λ p. rw p) (push-either e s)

-- a bin's entry
abbrev entry_of : Float → ℕ → Bin → Entry
entry_of count i b = record { weight = b.p ⊗ count; index = i }

-- ---- the game ends

-- a game that is over stays as it is
turned-over : (bs : List Bin) (us os : List Entry) → (us ≡ []) ⊎ (os ≡ []) → turned bs us os ≡
    record { bins = bs; under = us; over = os }
unfolding turned
turned-over bs [] os h = refl
turned-over bs (u ∷ us) [] h = refl
turned-over bs (u ∷ us) (o ∷ os) (inl e) = absurd (omega (arith, ap length e))
turned-over bs (u ∷ us) (o ∷ os) (inr e) = absurd (omega (arith, ap length e))

pub over-stays : (s : State) → (s.under ≡ []) ⊎ (s.over ≡ []) → turn s ≡ s
over-stays s h = turned-over s.bins s.under s.over h

pub turns_stay : (n : ℕ) (s : State) → (s.under ≡ []) ⊎ (s.over ≡ []) → turns n s ≡ s
unfolding turns
turns_stay zero s h = refl
turns_stay (suc n) s h = rw (over-stays s h) (turns_stay n s h)

-- a turn takes one out
height-push : (e : Entry) (s : State) →
    length (push e s).under + length (push e s).over ≡ suc (length s.under + length s.over)
height-push e s = ⊎_elim (λ p. rw p (omega arith)) (λ p. rw p (omega arith)) (push-either e s)

height-push_all : (count : Float) (i : ℕ) (bs : List Bin) (s : State)
    → length (push_all count i bs s).under + length (push_all count i bs s).over ≡
    length bs + (length s.under + length s.over)
unfolding push_all
height-push_all count i [] s = omega arith
height-push_all count i (b ∷ bs) s =
    let e = entry_of count i b in
    omega (arith, height-push_all count (suc i) bs (push e s), height-push e s)

height-start : (ws : List Float) → length (start ws).under + length (start ws).over ≡ length ws
unfolding start
height-start ws =
    height-push_all (of_int binary32 (pos (length ws))) 0 (map (bin (total ws)) ws)
    (record { bins = map (bin (total ws)) ws; under = []; over = [] })
    ∙ omega (arith, length-map ws (bin (total ws)))

ends-from : (n : ℕ) (bs : List Bin) (us os : List Entry) → length us + length os ≤ n
    → ((turns n (record { bins = bs; under = us; over = os })).under ≡ []) ⊎
    ((turns n (record { bins = bs; under = us; over = os })).over ≡ [])
unfolding turns turned
ends-from zero bs [] os h = inl refl
ends-from zero bs (u ∷ us) os h = absurd (omega arith)
ends-from (suc n) bs [] os h =
    inl (ap (λ (s : State). s.under) (turns_stay (suc n) (record { bins = bs; under = []; over = os }) (inl refl)))
ends-from (suc n) bs (u ∷ us) [] h =
    inr (ap (λ (s : State). s.over) (turns_stay (suc n) (record { bins = bs; under = u ∷ us; over = [] }) (inr refl)))
ends-from (suc n) bs (u ∷ us) (o ∷ os) h =
    let e : Entry = record { weight = u.weight ⊕ o.weight ⊖ onef; index = o.index } in
    let rest : State = record { bins = update bs u.index (settle u.weight o.index); under = us; over = os } in
    ends-from n (push e rest).bins (push e rest).under (push e rest).over (omega (arith, height-push e rest))

-- the game is over after as many turns as bins
pub ends-after : (ws : List Float) (n : ℕ) → length ws ≤ n →
    ((turns n (start ws)).under ≡ []) ⊎ ((turns n (start ws)).over ≡ [])
ends-after ws n h = ends-from n (start ws).bins (start ws).under (start ws).over (omega (arith, height-start ws))

-- ---- how many bins

pub push_all-bins : (count : Float) (i : ℕ) (bs : List Bin) (s : State) → (push_all count i bs s).bins ≡ s.bins
unfolding push_all
push_all-bins count i [] s = refl
push_all-bins count i (b ∷ bs) s =
    push_all-bins count (suc i) bs (push (entry_of count i b) s) ∙ push-bins (entry_of count i b) s

pub start-bins : (ws : List Float) → (start ws).bins ≡ map (bin (total ws)) ws
unfolding start
start-bins ws =
    push_all-bins (of_int binary32 (pos (length ws))) 0 (map (bin (total ws)) ws)
    (record { bins = map (bin (total ws)) ws; under = []; over = [] })

pub length-update : (bs : List Bin) (i : ℕ) (f : Bin → Bin) → length (update bs i f) ≡ length bs
unfolding update
length-update [] i f = refl
length-update (b ∷ bs) zero f = refl
length-update (b ∷ bs) (suc i) f = ap suc (length-update bs i f)

length-turned : (bs : List Bin) (us os : List Entry) → length (turned bs us os).bins ≡ length bs
unfolding turned
length-turned bs [] os = refl
length-turned bs (u ∷ us) [] = refl
length-turned bs (u ∷ us) (o ∷ os) = rw (push-bins, length-update)

pub length-turns : (n : ℕ) (s : State) → length (turns n s).bins ≡ length s.bins
unfolding turns
length-turns zero s = refl
length-turns (suc n) s = length-turns n (turn s) ∙ length-turned s.bins s.under s.over

pub length-leftover : (es : List Entry) (bs : List Bin) → length (leftover es bs) ≡ length bs
unfolding leftover
length-leftover [] bs = refl
length-leftover (e ∷ es) bs = length-update (leftover es bs) e.index whole ∙ length-leftover es bs

pub finish-length : (s : State) → length (finish s) ≡ length s.bins
finish-length s = length-leftover s.over (leftover s.under s.bins) ∙ length-leftover s.under s.bins

pub filled_in-length : (ws : List Float) → length (filled_in ws) ≡ length ws
unfolding filled_in
filled_in-length ws = go (eq (sum_from binary32 zerof ws) zerof)
  where
    go : (b : Bool) → length (cond b (replicate (length ws) onef) ws) ≡ length ws
    go true = length-replicate (length ws) onef
    go false = refl

pub ends : (ws : List Float) →
    ((turns (length ws) (start (filled_in ws))).under ≡ []) ⊎ ((turns (length ws) (start (filled_in ws))).over ≡ [])
ends ws = ends-after (filled_in ws) (length ws) (omega (arith, filled_in-length ws))

pub start-length : (ws : List Float) → length (start ws).bins ≡ length ws
start-length ws = rw (start-bins, length-map)

pub table-length : (ws : List Float) → length (table ws) ≡ length ws
unfolding table
table-length ws =
    finish-length (turns (length ws) (start (filled_in ws))) ∙ length-turns (length ws) (start (filled_in ws)) ∙
    start-length (filled_in ws) ∙ filled_in-length ws

-- ---- every bin is settled once

-- how often a place stands in a list
unfoldable pub occurrences : ℕ → List ℕ → ℕ
occurrences i [] = 0
occurrences i (j ∷ js) = cond (eqb i j) (suc (occurrences i js)) (occurrences i js)

abbrev pub places : List Entry → List ℕ
places es = map (λ (e : Entry). e.index) es

-- the place that a turn settles, if there is a turn to take
unfoldable pub settled_by : List Entry → List Entry → List ℕ
settled_by (u ∷ us) (o ∷ os) = u.index ∷ []
settled_by [] os = []
settled_by (u ∷ us) [] = []

-- the places in the order in which their bins are settled: turn by turn, then what is left over
unfoldable pub in_turns : ℕ → State → List ℕ
in_turns zero s = places s.under ++ places s.over
in_turns (suc n) s = settled_by s.under s.over ++ in_turns n (turn s)

abbrev pub settled_places : List Float → List ℕ
settled_places ws = in_turns (length ws) (start (filled_in ws))

-- one where the places are the same
pub hit : ℕ → ℕ → ℕ
hit i j = cond (eqb i j) 1 0

pub hit_same : (i j : ℕ) → i ≡ j → hit i j ≡ 1
unfolding hit
hit_same i j e = rw (eq-eqb i j e)

pub hit_other : (i j : ℕ) → (i ≡ j → ⊥) → hit i j ≡ 0
unfolding hit
hit_other i j e = rw (ne_eqb i j e)

pub occurrences-none : (i : ℕ) → occurrences i [] ≡ 0
unfolding occurrences
occurrences-none i = refl

pub occurrences-cons : (i j : ℕ) (js : List ℕ) → occurrences i (j ∷ js) ≡ hit i j + occurrences i js
unfolding occurrences hit
occurrences-cons i j js = go (eqb i j)
  where
    go : (b : Bool) → cond b (suc (occurrences i js)) (occurrences i js) ≡ cond b 1 0 + occurrences i js
    go true = omega arith
    go false = omega arith

pub occurrences-append : (i : ℕ) (js ks : List ℕ) → occurrences i (js ++ ks) ≡ occurrences i js + occurrences i ks
unfolding occurrences
occurrences-append i [] ks = sym (zero-add (occurrences i ks))
occurrences-append i (j ∷ js) ks =
    omega (arith, occurrences-cons i j (js ++ ks), occurrences-cons i j js, occurrences-append i js ks)

-- how often a place stands on the stacks
unfoldable pub held : ℕ → List Entry → List Entry → ℕ
held i us os = occurrences i (places us) + occurrences i (places os)

abbrev pub held_in : ℕ → State → ℕ
held_in i s = held i s.under s.over

held-push : (i : ℕ) (e : Entry) (s : State) → held_in i (push e s) ≡ hit i e.index + held_in i s
unfolding held
held-push i e s =
    ⊎_elim (λ p. rw p (omega (arith, occurrences-cons i e.index (places s.under))))
    (λ p. rw p (omega (arith, occurrences-cons i e.index (places s.over))))
    (push-either e s)

pub held-turned : (i : ℕ) (bs : List Bin) (us os : List Entry) →
    held_in i (turned bs us os) + occurrences i (settled_by us os) ≡ held i us os
unfolding turned settled_by held
held-turned i bs [] os = omega (arith, occurrences-none i)
held-turned i bs (u ∷ us) [] = omega (arith, occurrences-none i)
held-turned i bs (u ∷ us) (o ∷ os) =
    omega (
      arith,
      held-push i (record { weight = u.weight ⊕ o.weight ⊖ onef; index = o.index })
          (record { bins = update bs u.index (settle u.weight o.index); under = us; over = os }),
      occurrences-none i,
      occurrences-cons i u.index [],
      occurrences-cons i u.index (places us),
      occurrences-cons i o.index (places os),
    )

pub held-turns : (i n : ℕ) (s : State) → held_in i (turns n s) ≤ held_in i s
unfolding turns
held-turns i zero s = omega arith
held-turns i (suc n) s = omega (arith, held-turns i n (turn s), held-turned i s.bins s.under s.over)

held-in_turns : (i n : ℕ) (s : State) → occurrences i (in_turns n s) ≡ held_in i s
unfolding in_turns held
held-in_turns i zero s = occurrences-append i (places s.under) (places s.over)
held-in_turns i (suc n) s =
    let more = occurrences-append i (settled_by s.under s.over) (in_turns n (turn s)) in
    omega (arith, more, held-in_turns i n (turn s), held-turned i s.bins s.under s.over)

-- the places before and past the bins pushed
held_outside : (i : ℕ) (count : Float) (j : ℕ) (bs : List Bin) (s : State) → (i < j) ⊎ (j + length bs ≤ i) →
    held_in i (push_all count j bs s) ≡ held_in i s
unfolding push_all
held_outside i count j [] s h = refl
held_outside i count j (b ∷ bs) s h =
    let e = entry_of count j b in
    held_outside i count (suc j) bs (push e s) (⊎_elim (λ l. inl (omega arith)) (λ l. inr (omega arith)) h)
    ∙ omega (arith, held-push i e s, hit_other i j (λ p. ⊎_elim (λ l. omega arith) (λ l. omega arith) h))

-- and those of the bins
held-inside : (i : ℕ) (count : Float) (j : ℕ) (bs : List Bin) (s : State) → j ≤ i → i < j + length bs →
    held_in i (push_all count j bs s) ≡ suc (held_in i s)
unfolding push_all
held-inside i count j [] s h k = absurd (omega arith)
held-inside i count j (b ∷ bs) s h k =
    go (dec_le i j) (λ l. held-inside i count (suc j) bs (push (entry_of count j b) s) l (omega arith))
  where
    go : Dec (i ≤ j) → (j < i →
        held_in i (push_all count (suc j) bs (push (entry_of count j b) s)) ≡ suc (held_in i (push
        (entry_of count j b) s)))
        → held_in i (push_all count (suc j) bs (push (entry_of count j b) s)) ≡ suc (held_in i s)
    go (yes l) more =
        held_outside i count (suc j) bs (push (entry_of count j b) s) (inl (omega arith))
        ∙ omega (arith, held-push i (entry_of count j b) s, hit_same i j (omega arith))
    go (no n) more =
        more (lt_of_not-le n)
        ∙ omega (arith, held-push i (entry_of count j b) s, hit_other i j (λ p. omega (arith, lt_of_not-le n)))

module _ (ws : List Float) (i : ℕ) where
  held_none : held_in i (record { bins = map (bin (total ws)) ws; under = []; over = [] }) ≡ 0
  unfolding held occurrences
  held_none = refl

  pub held_start : i < length ws → held_in i (start ws) ≡ 1
  unfolding start
  held_start h =
      held-inside i (of_int binary32 (pos (length ws))) 0 (map (bin (total ws)) ws)
      (record { bins = map (bin (total ws)) ws; under = []; over = [] })
      (omega arith) (rw length-map (omega arith))
      ∙ ap suc held_none

  pub held-past : length ws ≤ i → held_in i (start ws) ≡ 0
  unfolding start
  held-past h =
      held_outside i (of_int binary32 (pos (length ws))) 0 (map (bin (total ws)) ws)
      (record { bins = map (bin (total ws)) ws; under = []; over = [] })
      (inr (rw length-map (omega arith)))
      ∙ held_none

-- every bin is settled once, and nothing else is
pub once : (ws : List Float) (i : ℕ) → i < length ws → occurrences i (settled_places ws) ≡ 1
once ws i h = held-in_turns i (length ws) (start (filled_in ws)) ∙ held_start (filled_in ws) i (rw filled_in-length h)

pub no_other : (ws : List Float) (i : ℕ) → length ws ≤ i → occurrences i (settled_places ws) ≡ 0
no_other ws i h = held-in_turns i (length ws) (start (filled_in ws))
    ∙ held-past (filled_in ws) i
    (rw filled_in-length h)
