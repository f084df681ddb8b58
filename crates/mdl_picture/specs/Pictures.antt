-- The picture of a script: rows of sessions, columns of lines, and in them the waits, the arrows, the boxes, and what is held.
use Rattle.std.specs.Prelude.{ℕ, Bool, ◌+◌, max, List, ◌∷◌, ◌++◌, flat_map, fold, is_none, map, if◌then◌else◌}
use Rattle.std.specs.List.{list_any}
use Rattle.mdl_picture.specs.declared.bars.Bar.{Bar}
use Rattle.mdl_picture.specs.declared.rows.Row.{Row}
use Rattle.mdl_picture.specs.Arrows.{arrows_of}
use Rattle.mdl_picture.specs.Bars.{bars_of}
use Rattle.mdl_picture.specs.Boxes.{Box}
use Rattle.mdl_picture.specs.Holds.{Placed, holds_of, placed_of}
use Rattle.mdl_picture.specs.Layouts.{LayoutView, behind, layout_of, left}
use Rattle.mdl_picture.specs.Moments.{MomentView}
use Rattle.mdl_picture.specs.Parts.{arrow_node, bar_node, box_node, column_nodes, frame, hold_node, lane, legend, line_word}
use Rattle.mdl_picture.specs.Rows.{bottom, rows_of, sized_rows}
use Rattle.mdl_picture.specs.Svg.{Node, svg_text}

-- the x coordinate where the boxes end
abbrev pub behind_all : ℕ → Box → ℕ
behind_all x box = max x (behind box)

abbrev pub end_of : List Box → ℕ
end_of boxes = fold behind_all left boxes

-- whether some wait isn't settled
abbrev pub is_open : Bar → Bool
is_open bar = is_none bar.settled

-- the width of a picture, with a least width and with room for words after waits that go on, and its height
abbrev pub least_width : ℕ
least_width = 600

abbrev pub open_room : List Bar → ℕ
open_room bars = if list_any is_open bars then 98 else 0

abbrev pub width_of : List Box → List Bar → ℕ
width_of boxes bars = max least_width (end_of boxes + open_room bars)

abbrev pub height_of : List Row → ℕ
height_of rows = bottom rows + 24

-- what is drawn, from back to front. Arrows pass behind what is held and behind boxes
unfoldable pub ground_of : ℕ → List Row → LayoutView → List Node
ground_of width rows layout =
    frame width (height_of rows) ++ map (lane width rows) rows ++ (line_word ∷ flat_map (column_nodes (bottom rows)) layout.columns)

abbrev pub nodes_of : ℕ → List Row → LayoutView → List Bar → List Placed → List Node
nodes_of width rows layout bars placed =
    ground_of width rows layout ++ map (bar_node rows (end_of layout.boxes)) bars ++ map (arrow_node rows) (arrows_of layout.boxes)
    ++ map (hold_node rows (end_of layout.boxes)) placed ++ map (box_node rows) layout.boxes ++ legend (bottom rows)

abbrev pub drawing_text : List Row → LayoutView → List Bar → List Placed → List ℕ
drawing_text rows layout bars placed =
    let width = width_of layout.boxes bars in svg_text width (height_of rows) (nodes_of width rows layout bars placed)

-- the picture of moments
abbrev pub picture_text : List MomentView → List ℕ
picture_text moments =
    let layout = layout_of moments in
    let placed = placed_of (holds_of layout.boxes) in
    drawing_text (sized_rows placed (rows_of moments)) layout (bars_of layout.boxes) placed
