-- The layout of the moments of a script: columns from left to right, and in them a box for each event. Sizes are in SVG's units.
use Rattle.std.specs.Prelude.{ℕ, Bool, ◌+◌, ◌*◌, ◌==◌, max, List, [], ◌∷◌, ◌++◌, find, fold, length, reverse}
use Rattle.std.specs.Option.{option_map_or}
use Rattle.mdl_picture.specs.declared.layout.Column.{Column}
use Rattle.mdl_picture.specs.Boxes.{Box}
use Rattle.mdl_picture.specs.Moments.{EventView, MomentView}
use Rattle.mdl_picture.specs.Texts.{text_width}

-- the x coordinate of the first column, the least distance from a column to the next, and the least distance between two boxes of a row
abbrev pub left : ℕ
left = 88

abbrev pub column_step : ℕ
column_step = 28

abbrev pub gap : ℕ
gap = 14

-- whether a box belongs to a session
abbrev pub is_of : ℕ → Box → Bool
is_of session box = box.event.session == session

-- the least x coordinate of the next box of a session: after its last one
abbrev pub behind : Box → ℕ
behind box = box.right + gap

abbrev pub free_of : ℕ → List Box → ℕ
free_of session boxes = option_map_or behind (find (is_of session) (reverse boxes)) left

-- the distances of arrows: of the first one from the left side of its box, and of each other one from the one before. A box is wide enough for its
-- arrows
abbrev pub first_arrow : ℕ
first_arrow = 8

abbrev pub arrow_step : ℕ
arrow_step = 6

abbrev pub arrow_room : EventView → ℕ
arrow_room event = first_arrow + arrow_step * length event.in_the_way

abbrev pub box_width : EventView → ℕ
box_width event = max (text_width event) (arrow_room event)

-- the box of an event that happens at a line, with this left side
abbrev pub box_at : ℕ → ℕ → EventView → Box
box_at line x event = record { line = line; event = event; x = x; right = x + box_width event }

-- boxes, and the least x coordinate of the next one: to the right of the arrows of the one before
pub record Course : Type 0 where
  pub next : ℕ
  pub boxes : List Box

abbrev pub with_box : ℕ → Course → EventView → Course
with_box line course event =
    let x = max course.next (free_of event.session course.boxes) in
    record { next = x + arrow_room event; boxes = course.boxes ++ box_at line x event ∷ [] }

abbrev pub with_boxes : MomentView → ℕ → List Box → Course
with_boxes moment x boxes = fold (with_box moment.line) (record { next = x; boxes = boxes }) moment.events

-- the columns and the boxes, and the least x coordinate of the next column
pub record LayoutView : Type 0 where
  pub next : ℕ
  pub columns : List Column
  pub boxes : List Box

-- the x coordinate of the column of a moment: no earlier box of its sessions reaches so far
abbrev pub behind_boxes : List Box → ℕ → EventView → ℕ
behind_boxes boxes x event = max x (free_of event.session boxes)

abbrev pub column_of : LayoutView → MomentView → ℕ
column_of layout moment = fold (behind_boxes layout.boxes) layout.next moment.events

-- a layout with the column and the boxes of a moment
abbrev pub with_drawn : LayoutView → ℕ → ℕ → Course → LayoutView
with_drawn layout line x course = record {
  next = course.next + column_step;
  columns = layout.columns ++ record { line = line; x = x } ∷ [];
  boxes = course.boxes;
}

abbrev pub with_moment : LayoutView → MomentView → LayoutView
with_moment layout moment =
    let x = column_of layout moment in with_drawn layout moment.line x (with_boxes moment x layout.boxes)

-- the layout of moments
abbrev pub no_layout : LayoutView
no_layout = record { next = left; columns = []; boxes = [] }

abbrev pub layout_of : List MomentView → LayoutView
layout_of moments = fold with_moment no_layout moments
