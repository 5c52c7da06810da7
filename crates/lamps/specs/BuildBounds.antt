-- `build_light_bounds` of `light_bounds.rs` over a lamp list: refusals 2, 1, 4, then 3, then lamp by lamp. Definitions
-- only. Assumes nothing.
use Rattle.std.specs.Prelude.{ℕ, cond, List, [], ◌∷◌, leb, length}
use Rattle.words.specs.Answers.{Answer, given, refused, ◌then◌}
use Rattle.light_bounds.specs.declared.light_bounds.LightBounds.{LightBounds}
use Rattle.light_rows.specs.Block.{block_words}
use Rattle.lamps.specs.LampBounds.{light_bounds_for_input}
use Rattle.lamps.specs.LampList.{lamp_list, triangles_of}
use Rattle.lamps.specs.declared.lamp_list.Reading.{Reading}

-- the bounds of a lamp that was read
abbrev pub bounds_of : List ℕ → Reading → Answer LightBounds
bounds_of ws r = light_bounds_for_input r.lamp (triangles_of ws r)

-- lamp by lamp; the first that is refused ends it
unfoldable pub all_bounds : List ℕ → List Reading → Answer (List LightBounds)
all_bounds ws [] = given []
all_bounds ws (r ∷ rs) = bounds_of ws r then λ b. all_bounds ws rs then λ bs. given (b ∷ bs)

-- `room` words are lent for the block
unfoldable pub build_light_bounds : List ℕ → ℕ → Answer (List LightBounds)
build_light_bounds ws room =
    lamp_list ws then λ rs.
    cond (leb (block_words (length rs)) room) (all_bounds ws rs) (refused 3)
