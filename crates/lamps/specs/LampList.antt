-- The lamp list (R4.1 to R4.3), our form of `LightBoundInput`: words, lamp by lamp behind a count. A lamp's head has
-- its kind in the top two bits (01 point, 10 spot, 11 group) and its handle in the low thirty. Reading comes before any
-- figure is judged: over the limits is 2, a list whose words are not laid out as it says 1, a handle that is not its
-- place 4. Definitions only. Assumes nothing.
use Rattle.std.specs.Prelude.{ℕ, zero, suc, ◌+◌, ◌*◌, ◌-◌, Bool, true, cond, ◌&&◌, leb, eqb}
use Rattle.std.specs.Prelude.{List, [], ◌∷◌, length, get_or, take, drop}
use Rattle.ieee.specs.Single.{single}
use Rattle.words.specs.Answers.{Answer, given, refused, ◌then◌}
use Rattle.words.specs.Heads.{kind_of, handle_of}
use Rattle.words.specs.Limits.{crowded}
use Rattle.light_rows.specs.RecordWords.{vec_at}
use Rattle.lamps.specs.declared.lamp_list.Cursor.{Cursor}
use Rattle.lamps.specs.declared.lamp_list.Lamp.{Lamp}
use Rattle.lamps.specs.declared.lamp_list.Lamp.TheVariants.{Point, Spot, AreaGroup}
use Rattle.lamps.specs.declared.lamp_list.Reading.{Reading}

-- ---- one lamp

-- words of a point, of a spot, of a group before its triangles, of a triangle; heads counted
abbrev pub point_words : ℕ
point_words = 6

abbrev pub spot_words : ℕ
spot_words = 11

abbrev pub group_words : ℕ
group_words = 5

abbrev pub triangle_words : ℕ
triangle_words = 13

-- a group's side word: 0 one-sided, 1 two-sided
abbrev pub list_side_known : ℕ → Bool
list_side_known w = leb w 1

abbrev pub list_side_of : ℕ → Bool
list_side_of w = eqb w 1

-- the first lamp stands behind the count
abbrev pub first_lamp : Cursor
first_lamp = record { at = 1 }

-- a lamp without triangles that ends before `end`
abbrev pub alone : Lamp → ℕ → Reading
alone lamp end = record { lamp = lamp; triangles = end; next = record { at = end } }

abbrev pub point_at : List ℕ → ℕ → Reading
point_at ws at =
    alone
    (Point
    (handle_of (get_or ws at 0))
    (vec_at ws (at + 1))
    (single (get_or ws (at + 4) 0))
    (single (get_or ws (at + 5) 0)))
    (at + point_words)

abbrev pub spot_at : List ℕ → ℕ → Reading
spot_at ws at =
    alone
    (Spot
    (handle_of (get_or ws at 0))
    (vec_at ws (at + 1))
    (vec_at ws (at + 4))
    (single (get_or ws (at + 7) 0))
    (single (get_or ws (at + 8) 0))
    (single (get_or ws (at + 9) 0))
    (single (get_or ws (at + 10) 0)))
    (at + spot_words)

-- the place behind a group's triangles
abbrev pub group_end : List ℕ → ℕ → ℕ
group_end ws at = at + group_words + triangle_words * get_or ws (at + 4) 0

abbrev pub group_at : List ℕ → ℕ → Reading
group_at ws at =
    record {
      lamp =
          AreaGroup (handle_of (get_or ws at 0)) (single (get_or ws (at + 1) 0)) (single (get_or ws (at + 2) 0))
          (list_side_of (get_or ws (at + 3) 0));
      triangles = at + group_words;
      next = record { at = group_end ws at };
    }

-- its side is known, and its triangles lie in the list
abbrev pub group_fits : List ℕ → ℕ → Bool
group_fits ws at = list_side_known (get_or ws (at + 3) 0) && leb (group_end ws at) (length ws)

-- the lamp at a place: 1 where its words pass the end, and at an unknown kind or side
abbrev pub lamp_at : List ℕ → ℕ → Answer Reading
lamp_at ws at =
    cond (eqb (kind_of (get_or ws at 0)) 1)
    (cond (leb (at + point_words) (length ws)) (given (point_at ws at)) (refused 1))
    (cond (eqb (kind_of (get_or ws at 0)) 2)
    (cond (leb (at + spot_words) (length ws)) (given (spot_at ws at)) (refused 1))
    (cond (eqb (kind_of (get_or ws at 0)) 3)
    (cond (leb (at + group_words) (length ws) && group_fits ws at) (given (group_at ws at)) (refused 1))
    (refused 1)))

-- the words of a reading's triangles, the list's own
abbrev pub triangles_of : List ℕ → Reading → List ℕ
triangles_of ws r =
    cond (leb r.triangles r.next.at && leb r.next.at (length ws))
    (take (r.next.at - r.triangles) (drop r.triangles ws))
    []

-- ---- the list

-- so many lamps from a place on, and nothing behind them
unfoldable pub lamps_from : ℕ → List ℕ → ℕ → Answer (List Reading)
lamps_from zero ws at = cond (eqb at (length ws)) (given []) (refused 1)
lamps_from (suc m) ws at = lamp_at ws at then λ r. lamps_from m ws r.next.at then λ rs. given (r ∷ rs)

abbrev pub handle : Lamp → ℕ
handle (Point h p i s) = h
handle (Spot h p d i s o e) = h
handle (AreaGroup h e s t) = h

-- every handle is its place
unfoldable pub in_place : ℕ → List Reading → Bool
in_place i [] = true
in_place i (r ∷ rs) = eqb (handle r.lamp) i && in_place (suc i) rs

-- as many lamps as word 0 says: 1, then 4
unfoldable pub placed_lamps : List ℕ → Answer (List Reading)
placed_lamps ws = lamps_from (get_or ws 0 0) ws first_lamp.at then λ rs. cond (in_place 0 rs) (given rs) (refused 4)

-- 2 first
abbrev pub lamp_list : List ℕ → Answer (List Reading)
lamp_list ws = cond (crowded ws) (refused 2) (placed_lamps ws)
