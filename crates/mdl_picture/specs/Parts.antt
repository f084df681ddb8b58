-- The parts of a picture. The wording and the sizes, in SVG's units, are this project's own choice.
use Rattle.std.specs.Prelude.{ℕ, ◌+◌, ◌-◌, ◌*◌, ◌/◌, nat_le, nat_lt, List, [], ◌∷◌, ◌++◌, Option, Some, None, codes, length, map, take, if◌then◌else◌}
use Rattle.std.specs.Fmt.{decimal}
use Rattle.mdl_picture.specs.declared.arrows.Arrow.{Arrow}
use Rattle.mdl_picture.specs.declared.bars.Bar.{Bar}
use Rattle.mdl_picture.specs.declared.kind.Kind.{Kind}
use Rattle.mdl_picture.specs.declared.kind.Kind.TheVariants as kind
use Rattle.mdl_picture.specs.declared.layout.Column.{Column}
use Rattle.mdl_picture.specs.declared.moment.Fate.{Fate}
use Rattle.mdl_picture.specs.declared.moment.Fate.TheVariants.{Busy, Ends, Fails, Waits}
use Rattle.mdl_picture.specs.declared.svg.Attribute.TheVariants.{HatchId, HeadId, Height, MarkerHeight, MarkerUnits, MarkerWidth, Orient, PatternUnits, RefX, RefY, Stripes, Tip, Width}
use Rattle.mdl_picture.specs.declared.rows.Row.{Row}
use Rattle.mdl_picture.specs.declared.svg.Tag.TheVariants.{Marker, Pattern, Style}
use Rattle.mdl_picture.specs.Boxes.{Box}
use Rattle.mdl_picture.specs.Holds.{Hold, Placed}
use Rattle.mdl_picture.specs.Kinds.{style}
use Rattle.mdl_picture.specs.Moments.{EventView, HeldView}
use Rattle.mdl_picture.specs.Rows.{box_height, row_foot, row_height, row_top, track_height}
use Rattle.mdl_picture.specs.Shapes.{line, path, rect, title, titled, words}
use Rattle.mdl_picture.specs.Svg.{Node, Shape, alone, group}
use Rattle.mdl_picture.specs.Texts.{answer_room, cut, has_bytes, lines_of, statement_room}

-- the background: the style, the stripes of waits, the ends of arrows, and the ground
abbrev pub hatch : Node
hatch = group Pattern (HatchId ∷ PatternUnits ∷ Width 8 ∷ Height 8 ∷ []) (path kind.Stripes Stripes ∷ [])

abbrev pub head : Node
head = group Marker (HeadId ∷ MarkerUnits ∷ MarkerWidth 10 ∷ MarkerHeight 10 ∷ RefX 10 ∷ RefY 5 ∷ Orient ∷ []) (path kind.Head Tip ∷ [])

abbrev pub style_sheet : Shape
style_sheet = record { tag = Style; attributes = []; text = style }

unfoldable pub defined : List Node
defined = alone (title (codes "Timeline of a script, with a row for each session")) ∷ alone style_sheet ∷ hatch ∷ head ∷ []

unfoldable pub frame : ℕ → ℕ → List Node
frame width height = defined ++ alone (rect kind.Ground 0 0 width height) ∷ []

-- the distance of the baseline of words from the top of their row
abbrev pub label_base : ℕ
label_base = 36

-- the row of a session
unfoldable pub session_name : ℕ → List ℕ
session_name session = codes "session " ++ decimal session

abbrev pub lane_at : ℕ → ℕ → Row → Node
lane_at width y row =
    titled (session_name row.session)
    (rect kind.Lane 0 y width (row_height row.tracks) ∷ words kind.Words 8 (y + label_base) (session_name row.session) ∷ [])

unfoldable pub lane : ℕ → List Row → Row → Node
lane width rows row = lane_at width (row_top rows row.session) row

-- the column of a line
abbrev pub line_word : Node
line_word = alone (words kind.Number 8 16 (codes "line"))

abbrev pub column_nodes : ℕ → Column → List Node
column_nodes bottom column =
    alone (line kind.Guide column.x 20 column.x bottom) ∷ alone (words kind.Number column.x 16 (decimal column.line)) ∷ []

-- the name of the statement of a line
unfoldable pub statement_name : ℕ → ℕ → List ℕ
statement_name line session = codes "line " ++ decimal line ++ codes ", session " ++ decimal session ++ codes ": "

-- the bar of a wait, up to where it is settled, or to the end of the picture's boxes
abbrev pub bar_at : Bar → ℕ → ℕ → Shape
bar_at bar y end = rect kind.Bar bar.x (y + 25) (end - bar.x) 14

unfoldable pub settled_title : Bar → Column → List ℕ
settled_title bar column = statement_name bar.line bar.session ++ codes "waits until line " ++ decimal column.line

unfoldable pub open_title : Bar → List ℕ
open_title bar = statement_name bar.line bar.session ++ codes "still waits"

unfoldable pub open_words : ℕ → ℕ → Shape
open_words y end = words kind.Words (end + 6) (y + label_base) (codes "still waits")

abbrev pub bar_until : Bar → ℕ → ℕ → Option Column → Node
bar_until bar y end (Some column) = titled (settled_title bar column) (bar_at bar y column.x ∷ [])
bar_until bar y end None = titled (open_title bar) (bar_at bar y end ∷ open_words y end ∷ [])

abbrev pub bar_node : List Row → ℕ → Bar → Node
bar_node rows end bar = bar_until bar (row_top rows bar.session) end bar.settled

-- an arrow from the box of a session that begins to wait at a line, to the edge of the row of a session that blocks it
unfoldable pub arrow_title : Arrow → List ℕ
arrow_title arrow = session_name arrow.session ++ codes " waits for " ++ session_name arrow.other ++ codes " at line " ++ decimal arrow.line

abbrev pub arrow_up : List Row → Arrow → Shape
arrow_up rows arrow = line kind.Arrow arrow.x (row_top rows arrow.session) arrow.x (row_foot rows arrow.other)

abbrev pub arrow_down : List Row → Arrow → Shape
arrow_down rows arrow = line kind.Arrow arrow.x (row_top rows arrow.session + box_height) arrow.x (row_top rows arrow.other)

unfoldable pub arrow_shape : List Row → Arrow → Shape
arrow_shape rows arrow = if nat_lt arrow.other arrow.session then arrow_up rows arrow else arrow_down rows arrow

abbrev pub arrow_node : List Row → Arrow → Node
arrow_node rows arrow = titled (arrow_title arrow) (arrow_shape rows arrow ∷ [])

-- what is written in the bar of a lock, in room for so many bytes: its mode and its name, cut if they are too long, or the mode alone
abbrev pub whole_label : HeldView → List ℕ
whole_label lock = lock.mode ++ codes " " ++ lock.lock

abbrev pub mode_label : ℕ → List ℕ → List ℕ
mode_label room mode = if nat_le (length mode) room then mode else []

abbrev pub cut_label : ℕ → HeldView → List ℕ
cut_label room lock =
    if nat_le (length lock.mode + 4) room then take (room - 2) (whole_label lock) ++ codes ".." else mode_label room lock.mode

abbrev pub hold_label : ℕ → HeldView → List ℕ
hold_label room lock = if nat_le (length (whole_label lock)) room then whole_label lock else cut_label room lock

-- the width of a byte in a bar, and the width that is left free
abbrev pub label_byte : ℕ
label_byte = 6

abbrev pub label_margin : ℕ
label_margin = 6

abbrev pub label_room : ℕ → ℕ
label_room width = (width - label_margin) / label_byte

-- the bar of a lock, up to where it is released, or to the end of the picture's boxes
abbrev pub until_line : Option Column → List ℕ
until_line (Some column) = codes " to line " ++ decimal column.line
until_line None = []

unfoldable pub hold_title : Hold → List ℕ
hold_title hold =
    session_name hold.lock.session ++ codes " holds " ++ hold.lock.mode ++ codes " of " ++ hold.lock.lock ++ codes " from line " ++ decimal hold.line
    ++ until_line hold.released

abbrev pub hold_end : ℕ → Option Column → ℕ
hold_end end (Some column) = column.x
hold_end end None = end

unfoldable pub hold_at : Hold → ℕ → ℕ → Node
hold_at hold y width =
    titled (hold_title hold) (rect kind.Held hold.x y width 12 ∷ words kind.Mode (hold.x + 3) (y + 10) (hold_label (label_room width) hold.lock) ∷ [])

-- the upper edge of the bars of a track, in a row that begins here
abbrev pub track_top : ℕ → ℕ → ℕ
track_top y track = y + (box_height + 2 + track_height * track)

abbrev pub hold_node : List Row → ℕ → Placed → Node
hold_node rows end placed =
    hold_at placed.hold (track_top (row_top rows placed.hold.lock.session) placed.track) (hold_end end placed.hold.released - placed.hold.x)

-- a box: its kind, its title, and the lines of its statement and of its answer
abbrev pub kind_of : Fate → Kind
kind_of Waits = kind.Waiting
kind_of Ends = kind.Done
kind_of Fails = kind.Failed
kind_of Busy = kind.Refused

abbrev pub statement_part : List ℕ → List ℕ
statement_part statement = if has_bytes statement then statement ++ codes ": " else []

unfoldable pub box_title : EventView → List ℕ
box_title event = statement_name event.line event.session ++ statement_part event.statement ++ event.answer

abbrev pub line_step : ℕ
line_step = 14

abbrev pub line_shapes : Kind → ℕ → ℕ → List (List ℕ) → List Shape
line_shapes kind x y [] = []
line_shapes kind x y (line ∷ lines) = words kind x y (cut line) ∷ line_shapes kind x (y + line_step) lines

abbrev pub said_of : EventView → List (List ℕ)
said_of event = lines_of statement_room event.statement

abbrev pub told_of : EventView → List (List ℕ)
told_of event = lines_of answer_room event.answer

-- the lines are in the middle of the height of the box, whose upper edge is at `y`
abbrev pub first_base : ℕ → ℕ → ℕ → ℕ
first_base y said told = y + (15 + 7 * (4 - (said + told)))

abbrev pub lines_from : ℕ → ℕ → EventView → List Shape
lines_from x y event =
    line_shapes kind.Said x y (said_of event) ++ line_shapes kind.Words x (y + line_step * length (said_of event)) (told_of event)

unfoldable pub lines_at : ℕ → ℕ → EventView → List Shape
lines_at x y event = lines_from x (first_base y (length (said_of event)) (length (told_of event))) event

unfoldable pub box_rect : ℕ → Box → Shape
box_rect y box = rect (kind_of box.event.fate) box.x y (box.right - box.x) box_height

unfoldable pub box_at : ℕ → Box → Node
box_at y box = titled (box_title box.event) (box_rect y box ∷ lines_at (box.x + 5) y box.event)

unfoldable pub box_node : List Row → Box → Node
box_node rows box = box_at (row_top rows box.event.session) box

-- the legend: its signs have this top and foot, and its words this baseline
abbrev pub legend_wait : ℕ → ℕ → List Node
legend_wait top base = alone (rect kind.Bar 8 top 28 14) ∷ alone (words kind.Words 42 base (codes "waits")) ∷ []

abbrev pub legend_held : ℕ → ℕ → List Node
legend_held top base = alone (rect kind.Held 92 top 28 12) ∷ alone (words kind.Words 126 base (codes "holds")) ∷ []

abbrev pub legend_arrow : ℕ → ℕ → ℕ → List Node
legend_arrow foot top base =
    alone (line kind.Arrow 180 foot 180 top) ∷ alone (words kind.Words 190 base (codes "waits for (when the wait began)")) ∷ []

abbrev pub legend_error : ℕ → ℕ → List Node
legend_error top base = alone (rect kind.Failed 432 top 28 14) ∷ alone (words kind.Words 466 base (codes "ended by an error")) ∷ []

unfoldable pub legend : ℕ → List Node
legend bottom =
    legend_wait (bottom + 1) (bottom + 12) ++ legend_held (bottom + 2) (bottom + 12) ++ legend_arrow (bottom + 15) (bottom + 1) (bottom + 12)
    ++ legend_error (bottom + 1) (bottom + 12)
