-- A picture is well-formed.
use Rattle.std.proofs.Common.{ℕ, ◌+◌, ◌-◌, ◌*◌, Bool, true, false, cond, ltb, List, [], ◌∷◌, ◌++◌, Option, Some, None, length, map, sym, refl}
use Rattle.std.specs.List.{flat_map}
use Rattle.mdl_picture.specs.declared.arrows.Arrow.{Arrow}
use Rattle.mdl_picture.specs.declared.bars.Bar.{Bar}
use Rattle.mdl_picture.specs.declared.kind.Kind.{Kind}
use Rattle.mdl_picture.specs.declared.kind.Kind.TheVariants.{Said, Words}
use Rattle.mdl_picture.specs.declared.layout.Column.{Column}
use Rattle.mdl_picture.specs.declared.rows.Row.{Row}
use Rattle.mdl_picture.specs.declared.svg.Attribute.{Attribute}
use Rattle.mdl_picture.specs.declared.svg.Tag.TheVariants.{Svg}
use Rattle.mdl_picture.specs.Arrows.{arrows_of}
use Rattle.mdl_picture.specs.Bars.{bars_of}
use Rattle.mdl_picture.specs.Boxes.{Box}
use Rattle.mdl_picture.specs.Holds.{Placed, holds_of, placed_of}
use Rattle.mdl_picture.specs.Laws.{IsDocument}
use Rattle.mdl_picture.specs.Layouts.{LayoutView, layout_of}
use Rattle.mdl_picture.specs.Moments.{EventView, MomentView}
use Rattle.mdl_picture.specs.Parts.{arrow_down, arrow_node, arrow_shape, arrow_up, bar_node, bar_until, box_at, box_node, box_rect, column_nodes, defined, first_base, frame, hold_at, hold_node, lane, legend, line_shapes, line_step, line_word, lines_at, open_words, said_of, told_of}
use Rattle.mdl_picture.specs.Pictures.{end_of, ground_of, height_of, nodes_of, picture_text, width_of}
use Rattle.mdl_picture.specs.Rows.{bottom, row_top, rows_of, sized_rows}
use Rattle.mdl_picture.specs.Svg.{Node, Shape, attribute_text, node_text, svg_attributes, svg_text, tag_name}
use Rattle.mdl_picture.specs.Xml.{end_of as tag_end, start_of}
use Rattle.mdl_picture.proofs.XmlLaws.{AreFine, AreFineShapes, IsFine, all_fine, both_fine, both_fine_shapes, each_fine, element_line, is_tag, nodes_content}

-- each part has elements whose attributes are distinct
frame_fine : (width height : ℕ) → AreFine (frame width height)
unfolding frame defined
frame_fine width height = (refl, (refl, ((refl, (refl, tt)), ((refl, (refl, tt)), (refl, tt)))))

lane_fine : (width : ℕ) (rows : List Row) (row : Row) → IsFine (lane width rows row)
unfolding lane
lane_fine width rows row = (refl, (refl, (refl, (refl, tt))))

column_fine : (foot : ℕ) (column : Column) → AreFine (column_nodes foot column)
column_fine foot column = (refl, (refl, tt))

bar_until_fine : (bar : Bar) (y end : ℕ) (settled : Option Column) → IsFine (bar_until bar y end settled)
unfolding open_words
bar_until_fine bar y end (Some column) = (refl, (refl, (refl, tt)))
bar_until_fine bar y end None = (refl, (refl, (refl, (refl, tt))))

bar_fine : (rows : List Row) (end : ℕ) (bar : Bar) → IsFine (bar_node rows end bar)
bar_fine rows end bar = bar_until_fine bar (row_top rows bar.session) end bar.settled

either_fine : (t : Bool) (one other : Shape) → AreFineShapes (one ∷ []) → AreFineShapes (other ∷ []) → AreFineShapes (cond t one other ∷ [])
either_fine true one other this that = this
either_fine false one other this that = that

shape_fine : (rows : List Row) (arrow : Arrow) → AreFineShapes (arrow_shape rows arrow ∷ [])
unfolding arrow_shape
shape_fine rows arrow = either_fine (ltb arrow.other arrow.session) (arrow_up rows arrow) (arrow_down rows arrow) (refl, tt) (refl, tt)

arrow_fine : (rows : List Row) (arrow : Arrow) → IsFine (arrow_node rows arrow)
arrow_fine rows arrow = (refl, (refl, shape_fine rows arrow))

hold_fine : (rows : List Row) (end : ℕ) (placed : Placed) → IsFine (hold_node rows end placed)
unfolding hold_at
hold_fine rows end placed = (refl, (refl, (refl, (refl, tt))))

lines_fine : (kind : Kind) (x y : ℕ) (lines : List (List ℕ)) → AreFineShapes (line_shapes kind x y lines)
lines_fine kind x y [] = tt
lines_fine kind x y (line ∷ lines) = (refl, lines_fine kind x (y + line_step) lines)

all_lines_fine : (x y : ℕ) (event : EventView) → AreFineShapes (lines_at x y event)
unfolding lines_at
all_lines_fine x y event =
    let base : ℕ = first_base y (length (said_of event)) (length (told_of event)) in
    both_fine_shapes (line_shapes Said x base (said_of event)) (line_shapes Words x (base + line_step * length (said_of event)) (told_of event))
    (lines_fine Said x base (said_of event)) (lines_fine Words x (base + line_step * length (said_of event)) (told_of event))

box_fine : (rows : List Row) (box : Box) → IsFine (box_node rows box)
unfolding box_node box_at box_rect
box_fine rows box = (refl, (refl, (refl, all_lines_fine (box.x + 5) (row_top rows box.event.session) box.event)))

legend_fine : (foot : ℕ) → AreFine (legend foot)
unfolding legend
legend_fine foot = (refl, (refl, (refl, (refl, (refl, (refl, (refl, (refl, tt))))))))

-- and so has the picture
ground_fine : (width : ℕ) (rows : List Row) (layout : LayoutView) → AreFine (ground_of width rows layout)
unfolding ground_of
ground_fine width rows layout =
    both_fine (frame width (height_of rows) ++ map (lane width rows) rows) (line_word ∷ flat_map (column_nodes (bottom rows)) layout.columns)
    (both_fine (frame width (height_of rows)) (map (lane width rows) rows) (frame_fine width (height_of rows))
    (each_fine (lane width rows) rows (lane_fine width rows)))
    (refl, all_fine (column_nodes (bottom rows)) layout.columns (column_fine (bottom rows)))

nodes_fine : (width : ℕ) (rows : List Row) (layout : LayoutView) (bars : List Bar) (placed : List Placed)
    → AreFine (nodes_of width rows layout bars placed)
nodes_fine width rows layout bars placed =
    let ground : List Node = ground_of width rows layout in
    let waits : List Node = map (bar_node rows (end_of layout.boxes)) bars in
    let arrows : List Node = map (arrow_node rows) (arrows_of layout.boxes) in
    let holds : List Node = map (hold_node rows (end_of layout.boxes)) placed in
    let boxes : List Node = map (box_node rows) layout.boxes in
    both_fine (ground ++ waits ++ arrows ++ holds ++ boxes) (legend (bottom rows))
    (both_fine (ground ++ waits ++ arrows ++ holds) boxes
    (both_fine (ground ++ waits ++ arrows) holds
    (both_fine (ground ++ waits) arrows
    (both_fine ground waits (ground_fine width rows layout) (each_fine (bar_node rows (end_of layout.boxes)) bars (bar_fine rows (end_of layout.boxes))))
    (each_fine (arrow_node rows) (arrows_of layout.boxes) (arrow_fine rows)))
    (each_fine (hold_node rows (end_of layout.boxes)) placed (hold_fine rows (end_of layout.boxes))))
    (each_fine (box_node rows) layout.boxes (box_fine rows)))
    (legend_fine (bottom rows))

document_of : (width height : ℕ) (nodes : List Node) → AreFine nodes → IsDocument (svg_text width height nodes)
document_of width height nodes fine =
    let attributes : List Attribute = svg_attributes width height in
    record {
      root = start_of (tag_name Svg) (flat_map attribute_text attributes) ++ flat_map node_text nodes ++ tag_end (tag_name Svg);
      is_element = record {
        name = tag_name Svg;
        attributes = flat_map attribute_text attributes;
        content = flat_map node_text nodes;
        tag = is_tag Svg attributes refl;
        within = nodes_content nodes fine;
        is = refl;
      };
      is = sym (element_line Svg attributes (flat_map node_text nodes));
    }

pub picture_is_well_formed : (moments : List MomentView) → IsDocument (picture_text moments)
picture_is_well_formed moments =
    let layout : LayoutView = layout_of moments in
    let bars : List Bar = bars_of layout.boxes in
    let placed : List Placed = placed_of (holds_of layout.boxes) in
    let rows : List Row = sized_rows placed (rows_of moments) in
    let width : ℕ = width_of layout.boxes bars in
    document_of width (height_of rows) (nodes_of width rows layout bars placed) (nodes_fine width rows layout bars placed)
