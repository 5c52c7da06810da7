-- Laws of the alias table's definition, beyond the Rust: every alias is a place or none, a bin's share is its weight's,
-- an under bin's q is its weight as it was computed, and a leftover has q 1 and no alias. That the game ends and that
-- every bin is settled once stands in GameLaws. Assumes nothing.
use Prim.Native.Nat.{ℕ, zero, suc, ◌+◌, ◌-◌, ◌≤◌, ◌<◌}
use Rattle.std.specs.Prelude.{◌≡◌, Bool, true, false, ◌⊎◌, eqb, Float, get_or}
use Rattle.std.proofs.Math.Path.{refl, ap}
use Rattle.std.proofs.Common.{sym, ◌∙◌, inl, inr, ⊎_elim, suc-add, zero-add, lt_of_not-le, eqb-true}
use mathlib.Core.List.{List, [], ◌∷◌, ◌++◌, map}
use Rattle.std.proofs.Math.Decide.{dec_le}
use native.Mathlib.Omega.{arith}
use Rattle.std.proofs.lemmas.Bool.{eqb-false}
use Rattle.std.proofs.Math.ListN.{length, get_or-map}
use Rattle.ieee.specs.Single.{◌⊘◌, zerof, onef}
use Rattle.alias_table.specs.AliasTable.{Bin, Entry, State, none, filled_in, total, bin, start, table}
use Rattle.alias_table.specs.AliasTable.{update, settle, whole, turned, turn, turns, leftover, finish}
use Rattle.alias_table.specs.Laws.GameLaws.{push-bins, ends-after, start-bins, length-turns}
use Rattle.alias_table.specs.Laws.GameLaws.{length-leftover, filled_in-length, start-length, table-length}
use Rattle.alias_table.specs.Laws.GameLaws.{occurrences, places, hit_same, hit_other}
use Rattle.alias_table.specs.Laws.GameLaws.{occurrences-none, occurrences-cons, occurrences-append}
use Rattle.alias_table.specs.Laws.GameLaws.{settled_by, held, held_in, held-turned}
use Rattle.alias_table.specs.Laws.GameLaws.{held-turns, held_start, held-past}

-- ---- the bin at a place

abbrev pub bin_at : List Bin → ℕ → Bin
bin_at bs i = get_or bs i (record { q = zerof; p = zerof; alias = none })

update_here : (bs : List Bin) (i : ℕ) (f : Bin → Bin) → i < length bs → bin_at (update bs i f) i ≡ f (bin_at bs i)
unfolding update
update_here [] i f h = absurd (omega arith)
update_here (b ∷ bs) zero f h = refl
update_here (b ∷ bs) (suc i) f h = update_here bs i f (omega arith)

update-there : (bs : List Bin) (i j : ℕ) (f : Bin → Bin) → (i ≡ j → ⊥) → bin_at (update bs j f) i ≡ bin_at bs i
unfolding update
update-there [] i j f h = refl
update-there (b ∷ bs) zero zero f h = absurd (h refl)
update-there (b ∷ bs) zero (suc j) f h = refl
update-there (b ∷ bs) (suc i) zero f h = refl
update-there (b ∷ bs) (suc i) (suc j) f h = update-there bs i j f (λ e. h (ap suc e))

-- ---- every alias is a place of the table, or none

abbrev Valid : ℕ → Bin → Type 0
Valid m b = (b.alias < m) ⊎ (b.alias ≡ none)

AllValid : ℕ → List Bin → Type 0
AllValid m [] = Unit
AllValid m (b ∷ bs) = Valid m b × AllValid m bs

valid-at : (m : ℕ) (bs : List Bin) (i : ℕ) → i < length bs → AllValid m bs → Valid m (bin_at bs i)
unfolding AllValid
valid-at m [] i h v = absurd (omega arith)
valid-at m (b ∷ bs) zero h v = v.0
valid-at m (b ∷ bs) (suc i) h v = valid-at m bs i (omega arith) v.1

valid-update : (m : ℕ) (bs : List Bin) (i : ℕ) (f : Bin → Bin) → ((b : Bin) → Valid m b → Valid m (f b)) →
    AllValid m bs → AllValid m (update bs i f)
unfolding AllValid update
valid-update m [] i f h v = v
valid-update m (b ∷ bs) zero f h v = (h b v.0, v.1)
valid-update m (b ∷ bs) (suc i) f h v = (v.0, valid-update m bs i f h v.1)

valid-start : (m : ℕ) (sum : Float) (ws : List Float) → AllValid m (map (bin sum) ws)
unfolding AllValid
valid-start m sum [] = tt
valid-start m sum (w ∷ ws) = (inr refl, valid-start m sum ws)

-- an entry's place is one of m where the stacks hold no other
low-place : (m : ℕ) (us os : List Entry) (o : Entry) → ((i : ℕ) → m ≤ i → held i us (o ∷ os) ≡ 0) → o.index < m
unfolding held
low-place m us os o h =
    lt_of_not-le (λ l. omega (
      arith,
      h o.index l,
      occurrences-cons o.index o.index (places os),
      hit_same
          o.index o.index refl,
    ))

valid-turned : (m : ℕ) (bs : List Bin) (us os : List Entry) → ((i : ℕ) → m ≤ i → held i us os ≡ 0) → AllValid m bs →
    AllValid m (turned bs us os).bins
unfolding turned
valid-turned m bs [] os h v = v
valid-turned m bs (u ∷ us) [] h v = v
valid-turned m bs (u ∷ us) (o ∷ os) h v =
    rw push-bins (valid-update m bs u.index (settle u.weight o.index)
    (λ b w. inl (low-place m (u ∷ us) os o h)) v)

valid-turns : (m n : ℕ) (s : State) → ((i : ℕ) → m ≤ i → held_in i s ≡ 0) → AllValid m s.bins →
    AllValid m (turns n s).bins
unfolding turns
valid-turns m zero s h v = v
valid-turns m (suc n) s h v =
    valid-turns m n (turn s) (λ i l. omega (arith, h i l, held-turned i s.bins s.under s.over))
    (valid-turned m s.bins s.under s.over h v)

valid-leftover : (m : ℕ) (es : List Entry) (bs : List Bin) → AllValid m bs → AllValid m (leftover es bs)
unfolding leftover
valid-leftover m [] bs v = v
valid-leftover m (e ∷ es) bs v = valid-update m (leftover es bs) e.index whole (λ b w. w) (valid-leftover m es bs v)

pub aliases : (ws : List Float) (i : ℕ) → i < length ws →
    ((bin_at (table ws) i).alias < length ws) ⊎ ((bin_at (table ws) i).alias ≡ none)
unfolding table
aliases ws i h =
    let m = length ws in
    let s = start (filled_in ws) in
    let past : (j : ℕ) → m ≤ j → held_in j s ≡ 0 = λ j l. held-past (filled_in ws) j (rw filled_in-length l) in
    let v : AllValid m s.bins = rw start-bins (valid-start m (total (filled_in ws)) (filled_in ws)) in
    let t = turns m s in
    valid-at m (finish t) i (omega (arith, table-length ws))
    (valid-leftover m t.over (leftover t.under t.bins)
    (valid-leftover m t.under t.bins (valid-turns m m s past v)))

-- ---- a bin's share does not change

shares : List Bin → List Float
shares bs = map (λ (b : Bin). b.p) bs

shares-update : (bs : List Bin) (i : ℕ) (f : Bin → Bin) → ((b : Bin) → (f b).p ≡ b.p) →
    shares (update bs i f) ≡ shares bs
unfolding shares update
shares-update [] i f h = refl
shares-update (b ∷ bs) zero f h = rw (h b)
shares-update (b ∷ bs) (suc i) f h = ap (λ (l : List Float). b.p ∷ l) (shares-update bs i f h)

shares-turned : (bs : List Bin) (us os : List Entry) → shares (turned bs us os).bins ≡ shares bs
unfolding turned
shares-turned bs [] os = refl
shares-turned bs (u ∷ us) [] = refl
shares-turned bs (u ∷ us) (o ∷ os) =
    rw push-bins (shares-update bs u.index (settle u.weight o.index) (λ b. refl))

shares-turns : (n : ℕ) (s : State) → shares (turns n s).bins ≡ shares s.bins
unfolding turns
shares-turns zero s = refl
shares-turns (suc n) s = shares-turns n (turn s) ∙ shares-turned s.bins s.under s.over

shares-leftover : (es : List Entry) (bs : List Bin) → shares (leftover es bs) ≡ shares bs
unfolding leftover
shares-leftover [] bs = refl
shares-leftover (e ∷ es) bs = shares-update (leftover es bs) e.index whole (λ b. refl) ∙ shares-leftover es bs

shares-table : (ws : List Float) → shares (table ws) ≡ shares (map (bin (total (filled_in ws))) (filled_in ws))
unfolding table
shares-table ws =
    let s = start (filled_in ws) in
    let t = turns (length ws) s in
    shares-leftover t.over (leftover t.under t.bins)
    ∙ shares-leftover t.under t.bins
    ∙ shares-turns (length ws) s
    ∙ ap shares (start-bins (filled_in ws))

share-of : (ws : List Float) (sum : Float) (i : ℕ) → i < length ws →
    get_or (shares (map (bin sum) ws)) i zerof ≡ get_or ws i zerof ⊘ sum
unfolding shares
share-of [] sum i h = absurd (omega arith)
share-of (w ∷ ws) sum zero h = refl
share-of (w ∷ ws) sum (suc i) h = share-of ws sum i (omega arith)

share-at : (bs : List Bin) (i : ℕ) → (bin_at bs i).p ≡ get_or (shares bs) i zerof
unfolding shares
share-at bs i = sym (get_or-map (λ (b : Bin). b.p) bs i (record { q = zerof; p = zerof; alias = none }))

-- p is the weight's share
pub p-is : (ws : List Float) (i : ℕ) → i < length ws →
    (bin_at (table ws) i).p ≡ get_or (filled_in ws) i zerof ⊘ total (filled_in ws)
p-is ws i h =
    share-at (table ws) i
    ∙ rw (shares-table ws) (share-of (filled_in ws) (total (filled_in ws)) i
    (rw filled_in-length h))

-- ---- an under bin's q

-- a place that stands on no stack is settled for good
leftover-there : (i : ℕ) (es : List Entry) (bs : List Bin) → occurrences i (places es) ≡ 0 →
    bin_at (leftover es bs) i ≡ bin_at bs i
unfolding leftover
leftover-there i [] bs h = refl
leftover-there i (e ∷ es) bs h =
    update-there (leftover es bs) i e.index whole
    (λ p. omega (arith, h, occurrences-cons i e.index (places es), hit_same i e.index p))
    ∙ leftover-there i es bs (omega (arith, h, occurrences-cons i e.index (places es)))

finish-there : (i : ℕ) (s : State) → held_in i s ≡ 0 → bin_at (finish s) i ≡ bin_at s.bins i
unfolding held
finish-there i s h =
    leftover-there i s.over (leftover s.under s.bins) (omega arith) ∙
    leftover-there i s.under s.bins (omega arith)

turned-there : (i : ℕ) (bs : List Bin) (us os : List Entry) → held i us os ≡ 0 →
    bin_at (turned bs us os).bins i ≡ bin_at bs i
unfolding turned held
turned-there i bs [] os h = refl
turned-there i bs (u ∷ us) [] h = refl
turned-there i bs (u ∷ us) (o ∷ os) h =
    rw push-bins (update-there bs i u.index (settle u.weight o.index)
    (λ p. omega (arith, h, occurrences-cons i u.index (places us), hit_same i u.index p)))

turns-there : (i n : ℕ) (s : State) → held_in i s ≡ 0 → bin_at (finish (turns n s)) i ≡ bin_at s.bins i
unfolding turns
turns-there i zero s h = finish-there i s h
turns-there i (suc n) s h =
    turns-there i n (turn s) (omega (arith, h, held-turned i s.bins s.under s.over)) ∙
    turned-there i s.bins s.under s.over h

turns-add : (n k : ℕ) (s : State) → turns (n + k) s ≡ turns k (turns n s)
unfolding turns
turns-add zero k s = rw zero-add
turns-add (suc n) k s = rw suc-add (turns-add n k (turn s))

module _ (bs : List Bin) (us' os' : List Entry) (u o : Entry) (us os : List Entry) (eu : us' ≡ u ∷ us)
    (eo : os' ≡ o ∷ os) where
  settled-bins : (turned bs us' os').bins ≡ update bs u.index (settle u.weight o.index)
  unfolding turned
  settled-bins = rw (eu, eo) (push-bins _ _)

  held-once : 1 ≤ held u.index us' os'
  unfolding held
  held-once =
      rw eu (omega (arith, occurrences-cons u.index u.index (places us), hit_same u.index u.index refl))

  settled-out : held u.index us' os' ≤ 1 → held_in u.index (turned bs us' os') ≡ 0
  unfolding settled_by
  settled-out h =
      let one_out : occurrences u.index (settled_by us' os') ≡ 1 =
      rw (eu, eo) (omega (
        arith,
        occurrences-cons u.index u.index [],
        occurrences-none u.index,
        hit_same
            u.index u.index refl,
      )) in
      omega (arith, h, held-turned u.index bs us' os')

-- the state after n turns
abbrev after : ℕ → List Float → State
after n ws = turns n (start (filled_in ws))

module _ (ws : List Float) (n : ℕ) (u o : Entry) (us os : List Entry) (eu : (after n ws).under ≡ u ∷ us)
    (eo : (after n ws).over ≡ o ∷ os) where
  early : n < length ws
  early =
      lt_of_not-le (λ l. ⊎_elim (λ e. omega (arith, ap (λ (es : List Entry). length es) (sym eu ∙ e)))
      (λ e. omega (arith, ap (λ (es : List Entry). length es) (sym eo ∙ e)))
      (ends-after (filled_in ws) n (rw filled_in-length l)))

  low : u.index < length ws
  low =
      let held-there = held-once (after n ws).bins _ _ u o us os eu eo in
      lt_of_not-le (λ l. omega (
        arith,
        held-past (filled_in ws) u.index (rw filled_in-length l),
        held-turns u.index
            n (start (filled_in ws)),
      ))

  out : held_in u.index (turn (after n ws)) ≡ 0
  out =
      settled-out (after n ws).bins _ _ u o us os eu eo
      (omega (
        arith,
        held-turns u.index n (start (filled_in ws)),
        held_start (filled_in ws) u.index
            (rw filled_in-length low),
      ))

  settled-bin : bin_at (table ws) u.index ≡ settle u.weight o.index (bin_at (after n ws).bins u.index)
  unfolding table turns
  settled-bin =
      let k = length ws - suc n in
      let e : length ws ≡ n + suc k = omega (arith, early) in
      ap (λ (j : ℕ). bin_at (finish (after j ws)) u.index) e
      ∙ ap (λ (t : State). bin_at (finish t) u.index) (turns-add n (suc k) (start (filled_in ws)))
      ∙ turns-there u.index k (turn (after n ws)) out
      ∙ ap (λ (l : List Bin). bin_at l u.index) (settled-bins (after n ws).bins _ _ u o us os eu eo)
      ∙ update_here (after n ws).bins u.index (settle u.weight o.index)
      (omega (arith, low, length-turns n (start (filled_in ws)), start-length (filled_in ws), filled_in-length ws))

-- q of a bin that a turn settles is its weight as computed, and its alias is the other's place
pub settled-q : (ws : List Float) (n : ℕ) (u o : Entry) (us os : List Entry) →
    (turns n (start (filled_in ws))).under ≡ u ∷ us
    → (turns n (start (filled_in ws))).over ≡ o ∷ os → ((bin_at (table ws) u.index).q ≡ u.weight) ×
    ((bin_at (table ws) u.index).alias ≡ o.index)
settled-q ws n u o us os eu eo =
    let is = settled-bin ws n u o us os eu eo in
    (ap (λ (b : Bin). b.q) is, ap (λ (b : Bin). b.alias) is)

-- ---- a leftover's q and alias

-- a bin made whole stays whole
whole-stays : (bs : List Bin) (i j : ℕ) → (bin_at bs i).q ≡ onef → (bin_at (update bs j whole) i).q ≡ onef
unfolding update
whole-stays [] i j h = h
whole-stays (b ∷ bs) zero zero h = refl
whole-stays (b ∷ bs) zero (suc j) h = h
whole-stays (b ∷ bs) (suc i) zero h = h
whole-stays (b ∷ bs) (suc i) (suc j) h = whole-stays bs i j h

leftover-stays : (i : ℕ) (es : List Entry) (bs : List Bin) → (bin_at bs i).q ≡ onef
    → (bin_at (leftover es bs) i).q ≡
    onef
unfolding leftover
leftover-stays i [] bs h = h
leftover-stays i (e ∷ es) bs h = whole-stays (leftover es bs) i e.index (leftover-stays i es bs h)

leftover-whole : (i : ℕ) (es : List Entry) (bs : List Bin) → i < length bs → 1 ≤ occurrences i (places es) →
    (bin_at (leftover es bs) i).q ≡ onef
unfolding leftover
leftover-whole i [] bs h k = absurd (omega (arith, occurrences-none i))
leftover-whole i (e ∷ es) bs h k = go (eqb i e.index) refl (λ l. leftover-whole i es bs h l)
  where
    go : (b : Bool) → eqb i e.index ≡ b → (1 ≤ occurrences i (places es) → (bin_at (leftover es bs) i).q ≡ onef)
        → (bin_at (update (leftover es bs) e.index whole) i).q ≡ onef
    go true p more =
        ap (λ (j : ℕ). (bin_at (update (leftover es bs) j whole) i).q) (sym (eqb-true i e.index p))
        ∙ ap (λ (b : Bin). b.q) (update_here (leftover es bs) i whole (omega (arith, length-leftover es bs)))
    go false p more =
        whole-stays (leftover es bs) i e.index
        (more (omega (
          arith,
          k,
          occurrences-cons i e.index (places es),
          hit_other i e.index
              (eqb-false i e.index p),
        )))

-- the alias of a bin is not touched by that
alias-update : (bs : List Bin) (i j : ℕ) → (bin_at (update bs j whole) i).alias ≡ (bin_at bs i).alias
unfolding update
alias-update [] i j = refl
alias-update (b ∷ bs) zero zero = refl
alias-update (b ∷ bs) zero (suc j) = refl
alias-update (b ∷ bs) (suc i) zero = refl
alias-update (b ∷ bs) (suc i) (suc j) = alias-update bs i j

leftover-alias : (i : ℕ) (es : List Entry) (bs : List Bin) → (bin_at (leftover es bs) i).alias ≡ (bin_at bs i).alias
unfolding leftover
leftover-alias i [] bs = refl
leftover-alias i (e ∷ es) bs = alias-update (leftover es bs) i e.index ∙ leftover-alias i es bs

-- a bin that a stack still holds after a turn is as it was
held-bin : (i : ℕ) (bs : List Bin) (us os : List Entry) → held i us os ≤ 1 → 1 ≤ held_in i (turned bs us os) →
    bin_at (turned bs us os).bins i ≡ bin_at bs i
unfolding turned settled_by
held-bin i bs [] os h k = refl
held-bin i bs (u ∷ us) [] h k = refl
held-bin i bs (u ∷ us) (o ∷ os) h k =
    rw push-bins (update-there bs i u.index (settle u.weight o.index)
    (λ p. omega (
      arith,
      h,
      k,
      held-turned i bs (u ∷ us) (o ∷ os),
      occurrences-cons i u.index [],
      occurrences-none
          i,
      hit_same i u.index p,
    )))

held-bins : (i n : ℕ) (s : State) → held_in i s ≤ 1 → 1 ≤ held_in i (turns n s) →
    bin_at (turns n s).bins i ≡ bin_at s.bins i
unfolding turns
held-bins i zero s h k = refl
held-bins i (suc n) s h k =
    held-bins i n (turn s) (omega (arith, h, held-turned i s.bins s.under s.over)) k
    ∙ held-bin i s.bins s.under s.over h (omega (arith, k, held-turns i n (turn s)))

no-alias : (sum : Float) (ws : List Float) (i : ℕ) → (bin_at (map (bin sum) ws) i).alias ≡ none
no-alias sum [] i = refl
no-alias sum (w ∷ ws) zero = refl
no-alias sum (w ∷ ws) (suc i) = no-alias sum ws i

-- a bin that is left over when the game has ended has q 1 and no alias
pub left_over : (ws : List Float) (i : ℕ) → i < length ws
    → 1 ≤ occurrences i (places (turns (length ws) (start (filled_in ws))).under ++
    places (turns (length ws) (start (filled_in ws))).over)
    → ((bin_at (table ws) i).q ≡ onef) × ((bin_at (table ws) i).alias ≡ none)
unfolding table held
left_over ws i h k =
    let s = start (filled_in ws) in
    let t = turns (length ws) s in
    let one-held : 1 ≤ held_in i t = omega (arith, k, occurrences-append i (places t.under) (places t.over)) in
    let long : length t.bins ≡ length ws = length-turns (length ws) s ∙ start-length (filled_in ws) ∙
    filled_in-length ws in (
      go t (omega (arith, h, long)) (dec_le 1 (occurrences i (places t.over))) one-held,
      leftover-alias i t.over (leftover t.under t.bins)
          ∙ leftover-alias i t.under t.bins
          ∙ ap (λ (b : Bin). b.alias) (held-bins i (length ws) s
          (omega (arith, held_start (filled_in ws) i (rw filled_in-length h))) one-held)
          ∙ ap (λ (l : List Bin). (bin_at l i).alias) (start-bins (filled_in ws))
          ∙ no-alias (total (filled_in ws)) (filled_in ws) i,
    )
  where
    go : (t : State) → i < length t.bins → Dec (1 ≤ occurrences i (places t.over)) → 1 ≤ held_in i t →
        (bin_at (finish t) i).q ≡ onef
    go t l (yes o) m =
        leftover-whole i t.over (leftover t.under t.bins)
        (omega (arith, l, length-leftover t.under t.bins)) o
    go t l (no n) m =
        leftover-stays i t.over (leftover t.under t.bins)
        (leftover-whole i t.under t.bins l (omega (arith, lt_of_not-le n)))
