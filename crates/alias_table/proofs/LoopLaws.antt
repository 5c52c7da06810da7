-- The game's loops: the turns on their way to the last state; the start, bin by bin; and what is left over. Assumes
-- nothing.
use Prim.Native.Nat.{ℕ, zero, suc, ◌+◌, ◌-◌, ◌*◌, ◌/◌, ◌≤◌, ◌<◌}
use mathlib.Core.Path.{◌≡◌, refl, sym, ap, ◌∙◌}
use mathlib.Core.Bool.{Bool, true, false, cond}
use mathlib.Core.List.{List, [], ◌∷◌, ◌++◌, map}
use mathlib.Core.Logic.{◌⊎◌, inl, inr, ⊎_elim}
use native.Mathlib.Nat.{zero-add}
use native.Mathlib.Numerals.{add-one}
use native.Mathlib.Omega.{arith}
use lib.IntN.{pos}
use lib.Ieee.{Float, binary32, of_bits, to_bits, of_int, lt}
use lib.Ieee.Fits.{mul-fits, sub-fits}
use lib.ListN.{length, get_or, set, take, drop, length-set, length-map, length-append, length-drop, get_or-map}
use lib.ListN.{get_or-append, drop_of_length-le}
use lib.Seq.{sets, drop-cons, drop-drop, drop-append_seam, take_all, take-suc, length-take-le, get_or-take, get_or-drop}
use Rattle.ieee.specs.Single.{◌⊕◌, ◌⊖◌, ◌⊗◌, ◌⊘◌, single, zerof, onef}
use Rattle.words.proofs.RowLaws.{Written, written_none, written_one}
use Rattle.alias_table.specs.AliasTable.{Bin, Entry, State, none, total, bin, push, push_all, start}
use Rattle.alias_table.specs.AliasTable.{update, settle, turned, turn, turns, leftover, bin_row, bin_words}
use Rattle.alias_table.specs.Laws.GameLaws.{turns_stay, push-bins, start-bins, length-update, length-leftover}
use Rattle.alias_table.specs.AsCoded.Stacks.{stack_at, put, top, Stack, Stacks, Game}
use Rattle.alias_table.specs.AsCoded.Stacks.{Room, Started, Playing, Played, Sound, Left, Wholed}
use Rattle.alias_table.proofs.StackLaws.{bin_width, length-bin_words, settle-words, stacks-push}
use Rattle.alias_table.proofs.StackLaws.{stacks-none, popped, stack_top, stack-part, whole_words}

-- ---- the turns

-- where the tops of the stacks stand
abbrev pub under_top : ℕ → ℕ
under_top un = 2 * (un - 1)

abbrev pub over_top : ℕ → ℕ → ℕ
over_top m ov = 2 * m + 2 * (ov - 1)

-- what the over bin has left
abbrev pub left : List ℕ → ℕ → ℕ → Float
left work u o = single (get_or work u 0) ⊕ single (get_or work o 0) ⊖ onef

-- the settled bin's words
abbrev pub settled : List ℕ → List ℕ → ℕ → ℕ → List ℕ
settled bins work u o =
    set (set bins (3 * get_or work (u + 1) 0) (get_or work u 0)) (3 * get_or work (u + 1) 0 + 2) (get_or work (o + 1) 0)

module _ {m : ℕ} {bins_rest work_rest : List ℕ} {s : State} {bins work : List ℕ} {un ov : ℕ}
    (g : Game m bins_rest work_rest s bins work un ov)
    (u : 0 < un) (o : 0 < ov) where
  bs : List Bin
  bs =
      update s.bins (get_or work (under_top un + 1) 0)
      (settle (single (get_or work (under_top un) 0)) (get_or work (over_top m ov + 1) 0))

  turned-is : turn s ≡ push (record
      { weight = left work (under_top un) (over_top m ov); index = get_or work (over_top m ov + 1) 0 })
      (record { bins = bs; under = stack_at 0 work (un - 1); over = stack_at (2 * m) work (ov - 1) })
  unfolding bs turned
  turned-is =
      rw (
        ← g.stacks.under-is.are,
        ← g.stacks.over-is.are,
        stack_top 0 work un u,
        stack_top (2 * m) work ov
            o,
        zero-add,
      )

  sound : (get_or work (under_top un + 1) 0 < m) ×
      (to_bits binary32 (single (get_or work (under_top un) 0)) ≡ get_or work (under_top un) 0)
  sound = rw zero-add at (g.stacks.under-is.sound (un - 1) (omega arith))

  pub settle_in : 3 * get_or work (under_top un + 1) 0 + 2 < length bins
  settle_in = rw (g.bins-are, length-append, length-bin_words, g.count) (omega (arith, sound.0))

  pub turn-next : (below : Bool) → lt (left work (under_top un) (over_top m ov)) onef ≡ below
      → Game m bins_rest work_rest (turn s) (settled bins work (under_top un) (over_top m ov))
      (put work (top m (un - 1) (ov - 1) below) (left work (under_top un) (over_top m ov))
      (get_or work (over_top m ov + 1) 0))
      (cond below (un - 1 + 1) (un - 1)) (cond below (ov - 1) (ov - 1 + 1))
  unfolding bs
  turn-next below l =
      let words = settle-words 0 s.bins (get_or work (under_top un + 1) 0) (single (get_or work (under_top un) 0))
      (get_or work (over_top m ov + 1) 0) bins_rest in
      rw turned-is
      (record {
        bins-are = rw (push-bins, g.bins-are) (rw sound.1 at (words (rw g.count sound.0)));
        count = rw (push-bins, length-update) g.count;
        stacks =
            stacks-push (popped g.stacks bs) (left work (under_top un) (over_top m ov))
            (get_or work (over_top m ov + 1) 0)
            (sub-fits binary32 _ onef) (g.stacks.over-is.sound (ov - 1) (omega arith)).0
            (omega (arith, g.stacks.together)) below l;
      })

-- The turns' loop. Whatever the game was where it began, it has gone on to a state from which the turns to go lead to
-- its last.
pub record Going (m : ℕ) (bins₀ work₀ : List ℕ) (under over : ℕ) (bins work : List ℕ) (un ov : ℕ) : Type 0 where
  pub together : un + ov ≤ m
  pub room : 4 * m ≤ length work
  pub same-bins : length bins ≡ length bins₀
  pub same_work : length work ≡ length work₀
  pub to-go : ℕ
  pub enough : un + ov ≤ to-go
  pub on : (bins_rest work_rest : List ℕ) (s : State) → Game m bins_rest work_rest s bins₀ work₀ under over
      → (t : State) × (turns to-go t ≡ turns m s) × Game m bins_rest work_rest t bins work un ov

pub going-none : {m : ℕ} {bins work : List ℕ} {under over : ℕ} → Playing m bins work under over →
    Going m bins work under over bins work under over
going-none {m} (bins_rest, work_rest, s, g) =
    record {
      together = g.stacks.together;
      room = g.stacks.room;
      same-bins = refl;
      same_work = refl;
      to-go = m;
      enough = g.stacks.together;
      on = λ bins_rest work_rest s g. (s, refl, g);
    }

turns-one : (n : ℕ) (s : State) → 0 < n → turns n s ≡ turns (n - 1) (turn s)
unfolding turns
turns-one zero s h = absurd (omega arith)
turns-one (suc n) s h = let e : suc n - 1 ≡ n = omega arith in rw e

module _ {m : ℕ} {bins₀ work₀ : List ℕ} {under over : ℕ} {bins work : List ℕ} {un ov : ℕ}
    (g : Going m bins₀ work₀ under over bins work un ov) where
  pub going_in : Playing m bins₀ work₀ under over → 0 < un → 0 < ov →
      3 * get_or work (under_top un + 1) 0 + 2 < length bins
  going_in (bins_rest, work_rest, s, p) u o = settle_in (g.on bins_rest work_rest s p).2 u o

  -- a turn, by what its steps promise: x is what is left
  pub going_next : {x : Float} {bins' work' : List ℕ} {un' ov' : ℕ} → 0 < un → 0 < ov →
      x ≡ left work (under_top un) (over_top m ov)
      → bins' ≡ settled bins work (under_top un) (over_top m ov)
      → un' ≡ cond (lt x onef) (un - 1 + 1) (un - 1)
      → ov' ≡ cond (lt x onef) (ov - 1) (ov - 1 + 1)
      → work' ≡ put work (top m (un - 1) (ov - 1) (lt x onef)) x (get_or work (over_top m ov + 1) 0)
      → Going m bins₀ work₀ under over bins' work' un' ov'
  going_next {x} u o x-is bins-are un-is ov-is work-is =
      rw (bins-are, work-is, un-is, ov-is, x-is)
      (record {
        together = omega (arith, less (lt (left work (under_top un) (over_top m ov)) onef), g.together);
        room = simp length-set g.room;
        same-bins = simp length-set g.same-bins;
        same_work = simp length-set g.same_work;
        to-go = g.to-go - 1;
        enough = omega (arith, less (lt (left work (under_top un) (over_top m ov)) onef), g.enough);
        on = λ bins_rest work_rest s p.
            let (t, then, game) = g.on bins_rest work_rest s p in
            (turn t, sym (turns-one g.to-go t (omega (arith, g.enough))) ∙ then, turn-next game u o _ refl);
      })
    where
      less : (b : Bool) → cond b (un - 1 + 1) (un - 1) + cond b (ov - 1) (ov - 1 + 1) < un + ov
      less true = omega arith
      less false = omega arith

  pub going-last : (un ≡ 0) ⊎ (ov ≡ 0) → Played m bins₀ work₀ under over bins work un ov
  unfolding stack_at
  going-last h bins_rest work_rest s p =
      let (t, then, game) = g.on bins_rest work_rest s p in
      let over : (t.under ≡ []) ⊎ (t.over ≡ []) =
      ⊎_elim (λ e. inl (sym game.stacks.under-is.are ∙ rw e)) (λ e. inr (sym game.stacks.over-is.are ∙ rw e))
      h in
      rw (sym (turns_stay g.to-go t over) ∙ then) at game

-- ---- the start

-- how many, as a float
abbrev count : ℕ → Float
count m = of_int binary32 (pos m)

zero_word : to_bits binary32 zerof ≡ 0
unfolding to_bits of_bits
zero_word = refl

-- the first i bins written and pushed
pub record Starting (m : ℕ) (ws : List Float) (sum : Float) (bins₀ work₀ bins work : List ℕ) (under over i : ℕ) : Type 0
  where
    pub len : length ws ≡ m
    pub room : Room m bins₀ work₀
    pub all : under + over ≡ i
    pub some : i ≤ m
    pub bins-are : Written bin_row 3 bin_width [] (take i (map (bin sum) ws)) bins₀ bins
    pub same : length work ≡ length work₀
    pub state : State
    pub stacks : Stacks m (drop (4 * m) work₀) state work under over
    pub then : push_all (count m) i (drop i (map (bin sum) ws)) state
        ≡ push_all (count m) 0 (map (bin sum) ws) (record { bins = map (bin sum) ws; under = []; over = [] })

pub starting-none : {m : ℕ} (ws : List Float) (sum : Float) {bins work : List ℕ} → length ws ≡ m → Room m bins work
    → Starting m ws sum bins work bins work 0 0 0
starting-none {m} ws sum {bins} {work} len r =
    record {
      len = len;
      room = r;
      all = refl;
      some = omega arith;
      bins-are = written_none bin_row 3 bin_width [] bins (omega arith);
      same = refl;
      state = record { bins = map (bin sum) ws; under = []; over = [] };
      stacks = stacks-none m work (map (bin sum) ws) r.work-room;
      then = refl;
    }

module _ {m : ℕ} {ws : List Float} {sum : Float} {bins₀ work₀ bins work : List ℕ} {under over i : ℕ}
    (g : Starting m ws sum bins₀ work₀ bins work under over i) where
  -- one bin more, by what its steps promise: w is its weight
  pub starting-next : {w : Float} {bins' work' : List ℕ} {under' over' : ℕ} → i < m → w ≡ get_or ws i zerof
      → bins' ≡ sets bins (3 * i) (0 ∷ to_bits binary32 (w ⊘ sum) ∷ none ∷ [])
      → under' ≡ cond (lt (w ⊘ sum ⊗ count m) onef) (under + 1) under
      → over' ≡ cond (lt (w ⊘ sum ⊗ count m) onef) over (over + 1)
      → work' ≡ put work (top m under over (lt (w ⊘ sum ⊗ count m) onef)) (w ⊘ sum ⊗ count m) i
      → Starting m ws sum bins₀ work₀ bins' work' under' over' (i + 1)
  unfolding push_all
  starting-next h w-is bins-are under-is over-is work-is =
      let hat = get_or ws i zerof ⊘ sum ⊗ count m in
      let xs = map (bin sum) ws in
      let long : i < length xs = rw (length-map, g.len) h in
      let is : get_or xs i (bin sum zerof) ≡ bin sum (get_or ws i zerof) = get_or-map (bin sum) ws i zerof in
      let done : length (take i xs) ≡ i = length-take-le i xs (omega arith) in
      rw (bins-are, work-is, under-is, over-is, w-is)
      (record {
        len = g.len;
        room = g.room;
        all = more (lt hat onef);
        some = omega arith;
        bins-are =
            rw (add-one i, take-suc xs i (bin sum zerof) long, is)
            (rw zero_word at (written_one bin_row 3 bin_width (bin sum (get_or ws i zerof)) (3 * i)
            g.bins-are (omega arith) (omega (arith, g.room.bins-room))));
        same = simp length-set g.same;
        state = push (record { weight = hat; index = i }) g.state;
        stacks = stacks-push g.stacks hat i (mul-fits binary32 _ _) h (omega (arith, g.all)) _ refl;
        then = rw (add-one i) (rw (drop-cons xs i (bin sum zerof) long, is) at g.then);
      })
    where
      more : (b : Bool) → cond b (under + 1) under + cond b over (over + 1) ≡ i + 1
      more true = omega (arith, g.all)
      more false = omega (arith, g.all)

  pub starting-all : m ≤ i → sum ≡ total ws → Started m ws bins₀ work₀ bins work under over
  unfolding start push_all
  starting-all h t =
      let xs = map (bin sum) ws in
      let long : length xs ≡ m = length-map ws (bin sum) ∙ g.len in
      let none_left : drop i xs ≡ [] = drop_of_length-le xs {i = i} (omega arith) in
      let all_done : take i xs ≡ xs = take_all i xs (omega arith) in
      let is : g.state ≡ start ws = rw (none_left, t, ← g.len) at g.then in
      let size : length {A = ℕ} [] + 3 * length xs ≡ 3 * m = omega arith in
      record {
        bins-are = rw (start-bins, ← t) (rw (all_done, size) at g.bins-are.is);
        count = rw (start-bins, ← t) long;
        stacks = rw is at g.stacks;
      }

-- ---- what is left over

-- the bins of the first k entries of a stack are whole, whichever bins the words were those of
pub record Wholing (bins₀ stack bins : List ℕ) (k : ℕ) : Type 0 where
  pub within : k ≤ length stack / 2
  pub same : length bins ≡ length bins₀
  pub whole : (bs : List Bin) (bins_rest : List ℕ) → bins₀ ≡ bin_words bs ++ bins_rest → Sound (length bs) 0 stack k
      → bins ≡ bin_words (leftover (stack_at 0 stack k) bs) ++ bins_rest

pub wholing-none : {bins stack : List ℕ} → Wholing bins stack bins 0
unfolding leftover stack_at
wholing-none = record { within = omega arith; same = refl; whole = λ bs rest e s. e }

-- an entry that is cut off the front of what is left
pub entry-cut : (stack entry : List ℕ) {rest rest' : List ℕ} (k : ℕ) → rest ≡ drop (2 * k) stack
    → rest ≡ entry ++ rest' → length entry ≡ 2
    → (k < length stack / 2) × (get_or entry 1 0 ≡ get_or stack (0 + 2 * k + 1) 0) × (rest' ≡ drop (2 * (k + 1)) stack)
entry-cut stack entry {rest} {rest'} k rest-is cut two =
    let e : drop (2 * k) stack ≡ entry ++ rest' = sym rest-is ∙ cut in
    let step : 2 * k + 2 ≡ 2 * (k + 1) = omega arith in
    let place : 2 * k + 1 ≡ 0 + 2 * k + 1 = omega arith in
    let second = get_or-append entry rest' 0 1 (omega (arith, two)) in
    let behind : drop 2 (entry ++ rest') ≡ rest' = rw two at (drop-append_seam entry rest') in (
      omega (arith, ap length e, length-drop (2 * k) stack, length-append entry rest', two),
      rw (← place) (sym second ∙ ap (λ (l : List ℕ). get_or l 1 0) (sym e) ∙ get_or-drop (2 * k) stack 1 0),
      rw (← step) (sym (ap (drop 2) e ∙ behind) ∙ drop-drop 2 (2 * k) stack),
    )

module _ {bins₀ stack bins : List ℕ} {k : ℕ} (g : Wholing bins₀ stack bins k) where
  module _ {place : ℕ} (more : k < length stack / 2) (is : place ≡ get_or stack (0 + 2 * k + 1) 0) where
    pub whole_in : Left bins₀ stack → 3 * place < length bins
    whole_in (bs, rest, e, sound) =
        let long : length bins₀ ≡ 3 * length bs + length rest = rw (e, length-append, length-bin_words) refl in
        omega (arith, g.same, long, is, (sound k more).0)

    pub wholing-next : Wholing bins₀ stack (set bins (3 * place) 0x3f80_0000) (k + 1)
    unfolding leftover stack_at
    wholing-next =
        record {
          within = omega (arith, more);
          same = simp length-set g.same;
          whole = λ bs rest e s.
              rw (g.whole bs rest e (λ j l. s j (omega arith)), is, add-one k)
              (whole_words 0 _ _ rest (rw length-leftover (s k (omega arith)).0));
        }

-- all that a stack still holds, in a part of the work
module _ {m base n : ℕ} {work bins part : List ℕ} {es : List Entry} (bs : List Bin) (rest : List ℕ)
    (k : Stack m base work n es)
    (is : bins ≡ bin_words bs ++ rest) (count : length bs ≡ m) (room : base + 2 * n ≤ length work)
    (lent : part ≡ take (2 * n) (drop base work)) where
  entries : length part / 2 ≡ n
  entries =
      let long : length part ≡ 2 * n =
      ap length lent ∙ length-take-le (2 * n) (drop base work) (omega (arith, length-drop base work, room)) in
      omega (arith, long)

  same : (i j : ℕ) → j ≡ base + i → i < 2 * n → get_or part i 0 ≡ get_or work j 0
  same i j e h = rw (lent, e) (get_or-take (2 * n) (drop base work) i 0 h ∙ get_or-drop base work i 0)

  sound-part : Sound (length bs) 0 part n
  sound-part j h =
      rw (
        same (0 + 2 * j + 1) (base + 2 * j + 1) (omega arith) (omega arith),
        same (0 + 2 * j) (base + 2 * j) (omega arith) (omega arith),
        count,
      ) (k.sound j h)

  pub left-of : Left bins part
  left-of = (bs, rest, is, rw entries sound-part)

  pub wholed-of : {bins' : List ℕ} → Wholed bins part bins' → bins' ≡ bin_words (leftover es bs) ++ rest
  wholed-of w =
      rw (← k.are, ← stack-part base n work part same) (rw entries at (w bs rest is (rw entries sound-part)))
