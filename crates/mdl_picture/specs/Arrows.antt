-- The arrows of a picture: from the box of a session that begins to wait, one to each session that blocks it, each to the right of the one before.
use Rattle.std.specs.Prelude.{ℕ, ◌+◌, List, [], ◌∷◌, flat_map}
use Rattle.mdl_picture.specs.declared.arrows.Arrow.{Arrow}
use Rattle.mdl_picture.specs.Boxes.{Box}
use Rattle.mdl_picture.specs.Layouts.{arrow_step, first_arrow}

-- an arrow of a box at this x coordinate
abbrev pub arrow_at : Box → ℕ → ℕ → Arrow
arrow_at box x other = record { line = box.line; session = box.event.session; other = other; x = x }

-- the arrows of a box, from this x coordinate on
abbrev pub arrows_at : Box → ℕ → List ℕ → List Arrow
arrows_at box x [] = []
arrows_at box x (other ∷ others) = arrow_at box x other ∷ arrows_at box (x + arrow_step) others

abbrev pub arrows_from : Box → List Arrow
arrows_from box = arrows_at box (box.x + first_arrow) box.event.in_the_way

abbrev pub arrows_of : List Box → List Arrow
arrows_of boxes = flat_map arrows_from boxes
