-- A record's words by name, as the code fetches them before it decodes them. Definitions only. Assumes nothing.
use Rattle.std.specs.Prelude.{ℕ, ◌+◌, cond, List, get_or, length, leb}
use Rattle.ieee.specs.Single.{single}
use Rattle.words.specs.Answers.{Answer, given, refused}
use Rattle.light_bounds.specs.LightBounds.{light_bounds}
use Rattle.light_bounds.specs.Side.{side_known, side_of}
use Rattle.light_bounds.specs.Vecmath.{vec}
use Rattle.light_bounds.specs.declared.light_bounds.LightBounds.{LightBounds}
use Rattle.light_bounds.specs.declared.vecmath.Vec3.{Vec3}
use Rattle.light_rows.specs.RecordWords.{max_place, direction_place, phi_place, cos_o_place}
use Rattle.light_rows.specs.RecordWords.{cos_e_place, side_place, record_words, record_list}
use Rattle.light_rows.specs.declared.record_words.Row.{Row}
use Rattle.light_rows.specs.declared.record_words.Triple.{Triple}
use Rattle.std.proofs.lemmas.List.Edits.{sets}

abbrev pub triple_at : List ℕ → ℕ → Triple
triple_at ws at = record { x = get_or ws at 0; y = get_or ws (at + 1) 0; z = get_or ws (at + 2) 0 }

abbrev pub row_at : List ℕ → ℕ → Row
row_at ws at =
    record {
      min = triple_at ws at;
      max = triple_at ws (max_place at);
      direction = triple_at ws (direction_place at);
      phi = get_or ws (phi_place at) 0;
      cos_theta_o = get_or ws (cos_o_place at) 0;
      cos_theta_e = get_or ws (cos_e_place at) 0;
      side = get_or ws (side_place at) 0;
    }

abbrev pub vec_of : Triple → Vec3
vec_of t = vec (single t.x) (single t.y) (single t.z)

abbrev pub record_of : Row → LightBounds
record_of w =
    light_bounds (record { min = vec_of w.min; max = vec_of w.max }) (vec_of w.direction) (single w.phi)
    (single w.cos_theta_o) (single w.cos_theta_e) (side_of w.side)

-- the record, or refusal n where the side is unknown
abbrev pub judged_row : ℕ → Row → Answer LightBounds
judged_row n w = cond (side_known w.side) (given (record_of w)) (refused n)

-- where there are too few words nothing is written
unfoldable pub written_at : List ℕ → ℕ → LightBounds → List ℕ
written_at ws at r = cond (leb (at + record_words) (length ws)) (sets ws at (record_list r)) ws
