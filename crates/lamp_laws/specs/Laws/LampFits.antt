-- The bounds of every lamp that is read from a list are of floats of the format, so that a block has each record whole.
-- Assumes nothing.
use Rattle.std.specs.Prelude.{ℕ, zero, suc, ◌+◌, ◌/◌, Bool, ◌&&◌, T, leb, eqb, Float}
use Rattle.std.specs.Prelude.{List, [], ◌∷◌, length, get_or}
use Rattle.std.specs.Float.{binary32}
use Rattle.std.specs.Float.Ieee.{fits}
use Rattle.std.specs.Float.Ieee.Fits.{mul-fits, cond-fits}
use Rattle.ieee.specs.Laws.FormatLaws.{single-fits}
use Rattle.ieee.specs.Single.{◌⊖◌}
use Rattle.trig.specs.Trig.{cos, acos}
use Rattle.trig.specs.Laws.TrigLaws.{cos-fits}
use Rattle.words.specs.Answers.{Answer, given, refused}
use Rattle.words.specs.Heads.{kind_of}
use Rattle.words.proofs.AnswerLaws.{Gives, gives, gives_none, gives-cond, gives-any, gives_then}
use Rattle.light_bounds.specs.Bounds.{box_check}
use Rattle.light_bounds.specs.LightBounds.{are_cosines, validate, union}
use Rattle.light_rows.specs.Laws.RecordLaws.{VecFits, BoxFits, RecordFits, vec-fits-read, least_fits}
use Rattle.light_rows.specs.Laws.RecordLaws.{greatest-fits, normalize-fits, z-fits, join-fits}
use Rattle.light_bounds.specs.Vecmath.{finite_vec}
use Rattle.light_bounds.specs.declared.light_bounds.LightBounds.{LightBounds}
use Rattle.light_bounds.specs.declared.vecmath.Vec3.{Vec3}
use Rattle.lamps.specs.BuildBounds.{all_bounds}
use Rattle.lamps.specs.LampBounds.{nearly_one, point_box, point_phi, validate_emission}
use Rattle.lamps.specs.LampBounds.{checked, point_bounds, too_narrow, falloff, spot_record}
use Rattle.lamps.specs.LampBounds.{spot_bounds, no_area, triangle_bounds, triangle_at, faced_record}
use Rattle.lamps.specs.LampBounds.{triangle_record, join_next, union_from, group_bounds, light_bounds_for_input}
use Rattle.lamps.specs.LampList.{point_words, spot_words, group_words, triangle_words}
use Rattle.lamps.specs.LampList.{group_fits, lamp_at, lamps_from, triangles_of}
use Rattle.lamps.specs.declared.lamp_list.Lamp.{Lamp}
use Rattle.lamps.specs.declared.lamp_list.Lamp.TheVariants.{Point, Spot, AreaGroup}
use Rattle.lamps.specs.declared.lamp_list.Reading.{Reading}

-- ---- lamps that are read

-- the floats that a record takes from a lamp as they are
abbrev pub LampOf : Lamp → Type 0
LampOf (Point h p i s) = VecFits p
LampOf (Spot h p d i s o e) = VecFits p × T (fits binary32 o)
LampOf (AreaGroup h e s side) = Unit

pub lamp-read : (ws : List ℕ) (at : ℕ) → Gives (λ (r : Reading). LampOf r.lamp) (lamp_at ws at)
lamp-read ws at =
    let kind = kind_of (get_or ws at 0) in
    let end = length ws in
    gives-cond (eqb kind 1) (gives-cond (leb (at + point_words) end) (gives (vec-fits-read ws (at + 1))) gives_none)
    (gives-cond (eqb kind 2) (gives-cond (leb (at + spot_words) end)
    (gives (vec-fits-read ws (at + 1), single-fits (get_or ws (at + 9) 0))) gives_none)
    (gives-cond (eqb kind 3) (gives-cond (leb (at + group_words) end && group_fits ws at) (gives tt) gives_none)
    gives_none))

-- ---- their records

checked-fits : (r : LightBounds) → RecordFits r → Gives RecordFits (checked r)
unfolding checked
checked-fits r h = gives_then (gives-any (validate r)) (λ _ _. gives h)

point-box-fits : (p : Vec3) → VecFits p → BoxFits (point_box p)
point-box-fits p h = record { min = h; max = h }

point-phi-fits : (intensity scale : Float) → T (fits binary32 (point_phi intensity scale))
point-phi-fits intensity scale = mul-fits binary32 _ intensity

point-fits : (p : Vec3) (intensity scale : Float) → VecFits p → Gives RecordFits (point_bounds p intensity scale)
unfolding point_bounds
point-fits p intensity scale h =
    gives_then (gives-any (validate_emission intensity scale))
    (λ _ _. gives_then (gives-any (box_check (point_box p)))
    (λ _ _. checked-fits _ (record {
      bounds = point-box-fits p h;
      direction = z-fits;
      phi = point-phi-fits intensity scale;
      cos-o = single-fits 0xbf80_0000;
      cos-e = cos-fits _;
    })))

falloff-fits : (cos_o cos_end : Float) → T (fits binary32 (falloff cos_o cos_end))
falloff-fits cos_o cos_end =
    let e = cos (acos cos_end ⊖ acos cos_o) in
    cond-fits binary32 (too_narrow e cos_o cos_end) nearly_one e (single-fits 0x3f7f_be77) (cos-fits _)

spot-fits : (p d : Vec3) (intensity scale cos_o cos_end : Float) → VecFits p → T (fits binary32 cos_o) →
    Gives RecordFits (spot_bounds p d intensity scale cos_o cos_end)
unfolding spot_bounds spot_record
spot-fits p d intensity scale cos_o cos_end h o =
    gives_then (gives-any (validate_emission intensity scale))
    (λ _ _. gives-cond (are_cosines cos_o cos_end)
    (gives_then (gives-any (box_check (point_box p)))
    (λ _ _. gives_then (normalize-fits d)
    (λ u hu. checked-fits _ (record {
      bounds = point-box-fits p h;
      direction = hu;
      phi = point-phi-fits intensity scale;
      cos-o = o;
      cos-e = falloff-fits cos_o cos_end;
    }))))
    gives_none)

triangle-box-fits : (ts : List ℕ) (i : ℕ) → BoxFits (triangle_bounds (triangle_at ts i))
triangle-box-fits ts i =
    let a = vec-fits-read ts i in
    let b = vec-fits-read ts (i + 3) in
    let c = vec-fits-read ts (i + 6) in
    record { min = least_fits _ _ (least_fits _ _ a b) c; max = greatest-fits _ _ (greatest-fits _ _ a b) c }

triangle-fits : (emission scale : Float) (side : Bool) (ts : List ℕ) (i : ℕ) →
    Gives RecordFits (triangle_record emission scale side (triangle_at ts i))
unfolding triangle_record faced_record
triangle-fits emission scale side ts i =
    let t = triangle_at ts i in
    gives_then (gives-any (box_check (triangle_bounds t)))
    (λ _ _. gives-cond (no_area t.area) gives_none
    (gives_then (normalize-fits t.geometric_normal)
    (λ d hd. gives-cond (finite_vec d)
    (checked-fits _ (record {
      bounds = triangle-box-fits ts i;
      direction = hd;
      phi = mul-fits binary32 _ _;
      cos-o = single-fits 0x3f80_0000;
      cos-e = cos-fits _;
    }))
    gives_none)))

next_fits : (x : Answer LightBounds) (r : LightBounds) → Gives RecordFits x → RecordFits r →
    Gives RecordFits (join_next x r)
unfolding union
next_fits (given existing) r h k =
    gives_then (gives-any _) (λ _ _. gives_then (gives-any _) (λ _ _. gives (join-fits existing r h.value k)))
next_fits (refused n) r h k = gives k

union-fits : (emission scale : Float) (side : Bool) (ts : List ℕ) (i n : ℕ) (x : Answer LightBounds) →
    Gives RecordFits x
    → Gives RecordFits (union_from emission scale side ts i n x)
unfolding union_from
union-fits emission scale side ts i zero x h = h
union-fits emission scale side ts i (suc n) x h =
    gives_then (triangle-fits emission scale side ts i)
    (λ r hr. gives_then (next_fits x r h hr)
    (λ s hs. union-fits emission scale side ts (i + triangle_words) n (given s) (gives hs)))

group-fits : (emission scale : Float) (side : Bool) (ts : List ℕ) →
    Gives RecordFits (group_bounds emission scale side ts)
unfolding group_bounds
group-fits emission scale side ts =
    gives_then (gives-any (validate_emission emission scale))
    (λ _ _. union-fits emission scale side ts 0 (length ts / triangle_words) (refused 9) gives_none)

pub lamp-fits : (lamp : Lamp) (ts : List ℕ) → LampOf lamp → Gives RecordFits (light_bounds_for_input lamp ts)
lamp-fits (Point h p i s) ts k = point-fits p i s k
lamp-fits (Spot h p d i s o e) ts k = spot-fits p d i s o e k.0 k.1
lamp-fits (AreaGroup h e s side) ts k = group-fits e s side ts

-- ---- the records of a list

abbrev pub AllFit : List LightBounds → Type 0
AllFit [] = Unit
AllFit (b ∷ bs) = RecordFits b × AllFit bs

abbrev AllOf : List Reading → Type 0
AllOf [] = Unit
AllOf (r ∷ rs) = LampOf r.lamp × AllOf rs

pub lamps-read : (m : ℕ) (ws : List ℕ) (at : ℕ) → Gives AllOf (lamps_from m ws at)
unfolding lamps_from
lamps-read zero ws at = gives-cond (eqb at (length ws)) (gives tt) gives_none
lamps-read (suc m) ws at =
    gives_then (lamp-read ws at) (λ r hr. gives_then (lamps-read m ws r.next.at) (λ rs hrs. gives (hr, hrs)))

pub all_fit : (ws : List ℕ) (rs : List Reading) → AllOf rs → Gives AllFit (all_bounds ws rs)
unfolding all_bounds
all_fit ws [] h = gives tt
all_fit ws (r ∷ rs) h =
    gives_then (lamp-fits r.lamp (triangles_of ws r) h.0)
    (λ b hb. gives_then (all_fit ws rs h.1) (λ bs hbs. gives (hb, hbs)))
