-- The two walks over a lamp list as the code takes them: the first reads the lamps and judges their handles, the second
-- takes the bounds of each. What each state of a walk comes to, in the words of LampList and Build. Assumes nothing.
use Prim.Native.Nat.{ℕ, zero, suc, ◌+◌, ◌≤◌, ◌<◌}
use mathlib.Core.Path.{◌≡◌, refl, ap, sym, ◌∙◌}
use mathlib.Core.Bool.{Bool, true, false, cond, ◌&&◌, and-true, and_assoc}
use mathlib.Core.List.{List, [], ◌∷◌, ◌++◌, append-nil}
use native.Mathlib.Omega.{arith}
use lib.Dec.{eqb}
use lib.ListN.{length, get_or}
use Rattle.words.specs.Answers.{Answer, given, refused, ◌then◌}
use Rattle.words.specs.AsCoded.Walks.{Walk, gathered}
use Rattle.words.proofs.AnswerLaws.{not-both, given_injective, then-given}
use Rattle.words.proofs.RowLaws.{behind, Walked, walked-refused, walked_all}
use Rattle.light_bounds.specs.declared.light_bounds.LightBounds.{LightBounds}
use Rattle.lamps.specs.BuildBounds.{bounds_of, all_bounds}
use Rattle.lamps.specs.AsCoded.Passed.{next_bounds}
use Rattle.lamps.specs.declared.build_bounds.Passed.{Passed}
use Rattle.lamps.specs.LampList.{lamp_at, lamps_from, handle, in_place, placed_lamps}
use Rattle.lamps.specs.declared.lamp_list.Reading.{Reading}

-- ---- the lamps

abbrev pub lamp_walk : List ℕ → Walk Reading Reading
lamp_walk ws =
    record {
      step = lamp_at ws;
      item = λ (r : Reading). r;
      past = λ (r : Reading). r.next.at;
      end = λ (end : ℕ). cond (eqb end (length ws)) (given []) (refused 1);
    }

lamps_from-gathered : (m : ℕ) (ws : List ℕ) (at : ℕ) → lamps_from m ws at ≡ gathered (lamp_walk ws) m at
unfolding lamps_from gathered
lamps_from-gathered zero ws at = refl
lamps_from-gathered (suc m) ws at =
    ap (λ (next : Reading → Answer (List Reading)). lamp_at ws at then next)
    (λ i r. lamps_from-gathered m ws r.next.at i then λ rs. given (r ∷ rs))

-- the handles of those gathered and of one more
pub in_place-snoc : (k : ℕ) (done : List Reading) (r : Reading) →
    in_place k (done ++ r ∷ []) ≡ in_place k done && eqb (handle r.lamp) (k + length done)
unfolding in_place
in_place-snoc k [] r = let e : k + 0 ≡ k = omega arith in rw e (and-true (eqb (handle r.lamp) k))
in_place-snoc k (d ∷ done) r =
    let e : suc k + length done ≡ k + suc (length done) = omega arith in
    rw (in_place-snoc (suc k) done r, e)
    (sym (and_assoc (eqb (handle d.lamp) k) (in_place (suc k) done) (eqb (handle r.lamp) (k + suc (length done)))))

abbrev ends : (b : Bool) {A : Type 0} {l : List A} → cond b (given []) (refused 1) ≡ given l → l ≡ []
ends true e = sym (given_injective e)
ends false e = absurd (not-both e refl)

-- a list that was read, taken apart
lamps_from-suc : (m : ℕ) (ws : List ℕ) (at : ℕ) (rs : List Reading) → lamps_from (suc m) ws at ≡ given rs
    → (r : Reading) × (ys : List Reading) × (lamp_at ws at ≡ given r) × (lamps_from m ws r.next.at ≡ given ys) ×
    (r ∷ ys ≡ rs)
unfolding lamps_from
lamps_from-suc m ws at rs e =
    let (r, er, e') = then-given (lamp_at ws at) (λ r. lamps_from m ws r.next.at then λ ys. given (r ∷ ys)) rs e in
    let (ys, ey, e'') = then-given (lamps_from m ws r.next.at) (λ ys. given (r ∷ ys)) rs e' in
    (r, ys, er, ey, given_injective e'')

pub lamps_from-length : (m : ℕ) (ws : List ℕ) (at : ℕ) (rs : List Reading) → lamps_from m ws at ≡ given rs
    → length rs ≡ m
unfolding lamps_from
lamps_from-length zero ws at rs e = ap length (ends (eqb at (length ws)) e)
lamps_from-length (suc m) ws at rs e =
    let (r, ys, er, ey, same) = lamps_from-suc m ws at rs e in
    ap length (sym same) ∙ ap suc (lamps_from-length m ws r.next.at ys ey)

-- the state of the first walk
abbrev pub LampsRead : List ℕ → ℕ → ℕ → List Reading → Type 0
LampsRead ws i at done = Walked (lamp_walk ws) (get_or ws 0 0) 1 i at done

module _ (ws : List ℕ) {i at : ℕ} {done : List Reading} (w : LampsRead ws i at done) where
  -- a lamp that cannot be read
  pub placed-refused : (n : ℕ) → i < get_or ws 0 0 → lamp_at ws at ≡ refused n → placed_lamps ws ≡ refused n
  unfolding placed_lamps ◌then◌
  placed-refused n h e = rw (lamps_from-gathered (get_or ws 0 0) ws 1, walked-refused (lamp_walk ws) w h e)

  all : get_or ws 0 0 ≤ i
      → lamps_from (get_or ws 0 0) ws 1 ≡ behind done (cond (eqb at (length ws)) (given []) (refused 1))
  all h = lamps_from-gathered (get_or ws 0 0) ws 1 ∙ walked_all (lamp_walk ws) w h

  -- words behind the last lamp, or too few
  pub placed_ragged : get_or ws 0 0 ≤ i → eqb at (length ws) ≡ false → placed_lamps ws ≡ refused 1
  unfolding placed_lamps ◌then◌
  placed_ragged h e = rw (all h, e)

  -- read to the end: the handles decide
  pub placed-all : get_or ws 0 0 ≤ i → eqb at (length ws) ≡ true →
      placed_lamps ws ≡ cond (in_place 0 done) (given done) (refused 4)
  unfolding placed_lamps ◌then◌
  placed-all h e = rw (all h, e, append-nil done)

-- ---- their bounds

abbrev pub bounds_walk : List ℕ → Walk Passed LightBounds
bounds_walk ws =
    record {
      step = next_bounds ws;
      item = λ (p : Passed). p.bounds;
      past = λ (p : Passed). p.next.at;
      end = λ
          (end : ℕ). given [];
    }

-- on lamps that were read, the second walk takes the bounds of each
pub bounds_walk-all : (m : ℕ) (ws : List ℕ) (at : ℕ) (rs : List Reading) → lamps_from m ws at ≡ given rs →
    gathered (bounds_walk ws) m at ≡ all_bounds ws rs
unfolding lamps_from gathered next_bounds all_bounds ◌then◌
bounds_walk-all zero ws at rs e = rw (ends (eqb at (length ws)) e)
bounds_walk-all (suc m) ws at rs e =
    let (r, ys, er, ey, same) = lamps_from-suc m ws at rs e in
    rw er (each r ys (bounds_walk-all m ws r.next.at ys ey) (bounds_of ws r)) ∙ ap (all_bounds ws) same
  where
    each : (r : Reading) (ys : List Reading) → gathered (bounds_walk ws) m r.next.at ≡ all_bounds ws ys →
        (z : Answer LightBounds) →
        (z then λ b. given (record { bounds = b; next = r.next })) then
        (λ (p : Passed). gathered (bounds_walk ws) m p.next.at then λ bs. given (p.bounds ∷ bs))
        ≡ z then λ b. all_bounds ws ys then λ bs. given (b ∷ bs)
    each r ys h (given b) = ap (λ (x : Answer (List LightBounds)). x then λ bs. given (b ∷ bs)) h
    each r ys h (refused n) = refl

pub all_bounds-length : (ws : List ℕ) (rs : List Reading) (bs : List LightBounds) → all_bounds ws rs ≡ given bs →
    length bs ≡ length rs
unfolding all_bounds
all_bounds-length ws [] bs e = ap length (sym (given_injective e))
all_bounds-length ws (r ∷ rs) bs e =
    let (b, eb, e') = then-given (bounds_of ws r) (λ b. all_bounds ws rs then λ cs. given (b ∷ cs)) bs e in
    let (cs, ec, e'') = then-given (all_bounds ws rs) (λ cs. given (b ∷ cs)) bs e' in
    ap length (sym (given_injective e'')) ∙ ap suc (all_bounds-length ws rs cs ec)
