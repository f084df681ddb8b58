-- Laws of pictures.
use Rattle.std.specs.Prelude.{◌≡◌, ◌≤◌, ◌<◌, ◌+◌, ◌==◌, ◌&&◌, ◌||◌, ℕ, nat_le, Bool, false, List, All, AllPairs, IfSome, codes, count_by, filter, flat_map, map, ◌++◌, if◌then◌else◌}
use Rattle.std.specs.List.{list_any}
use Rattle.mdl_picture.specs.declared.arrows.Arrow.{Arrow}
use Rattle.mdl_picture.specs.declared.bars.Bar.{Bar}
use Rattle.mdl_picture.specs.declared.layout.Column.{Column}
use Rattle.mdl_picture.specs.Arrows.{arrows_of}
use Rattle.mdl_picture.specs.Bars.{bars_of, is_wait}
use Rattle.mdl_picture.specs.Boxes.{Box}
use Rattle.mdl_picture.specs.Holds.{Hold, Placed, goes_on, has_lock, holds_of, is_drawn, is_same, placed_of}
use Rattle.mdl_picture.specs.Layouts.{arrow_room, arrow_step, column_step, gap, layout_of}
use Rattle.mdl_picture.specs.Moments.{EventView, HeldView, MomentView}
use Rattle.mdl_picture.specs.Pictures.{picture_text}
use Rattle.mdl_picture.specs.Rows.{has_row, rows_of}
use Rattle.mdl_picture.specs.Svg.{escaped, is_printed}
use Rattle.mdl_picture.specs.Xml.{IsElement, IsText}

-- all events of moments, in order
abbrev pub events_of : List MomentView → List EventView
events_of moments = flat_map (λ moment. moment.events) moments

abbrev pub boxes_of : List MomentView → List Box
boxes_of moments = (layout_of moments).boxes

-- the boxes are the events, each once and in order
abbrev pub BoxesAreTheEvents : Type 0
BoxesAreTheEvents = (moments : List MomentView) → map (λ box. box.event) (boxes_of moments) ≡ events_of moments

-- the waits are drawn each once and in order: by the line and the session of the statement that begins to wait
abbrev pub statement_of_bar : Bar → ℕ × ℕ
statement_of_bar bar = (bar.line, bar.session)

abbrev pub statement_of : EventView → ℕ × ℕ
statement_of event = (event.line, event.session)

abbrev pub begins_to_wait : EventView → Bool
begins_to_wait event = is_wait event.fate

abbrev pub WaitsAreDrawnOnce : Type 0
WaitsAreDrawnOnce = (moments : List MomentView)
    → map statement_of_bar (bars_of (boxes_of moments)) ≡ map statement_of (filter begins_to_wait (events_of moments))

-- two boxes of a row are apart, the later one to the right
abbrev pub AreApart : Box → Box → Type 0
AreApart one other = one.event.session ≡ other.event.session → one.right + gap ≤ other.x

abbrev pub BoxesAreApart : Type 0
BoxesAreApart = (moments : List MomentView) → AllPairs AreApart (boxes_of moments)

-- each box begins to the right of the arrows of those before, and the columns are apart
abbrev pub IsLeft : Box → Box → Type 0
IsLeft one other = one.x + arrow_room one.event ≤ other.x

abbrev pub BoxesGoRight : Type 0
BoxesGoRight = (moments : List MomentView) → AllPairs IsLeft (boxes_of moments)

abbrev pub IsBefore : Column → Column → Type 0
IsBefore one other = one.x + column_step ≤ other.x

abbrev pub ColumnsAreApart : Type 0
ColumnsAreApart = (moments : List MomentView) → AllPairs IsBefore (layout_of moments).columns

-- if each line belongs to one session, a wait that is settled ends to the right of where it begins
abbrev pub IsOfOneSession : EventView → EventView → Type 0
IsOfOneSession one other = one.line ≡ other.line → one.session ≡ other.session

abbrev pub EndsRight : Bar → Type 0
EndsRight bar = IfSome bar.settled (λ column. bar.x + gap ≤ column.x)

abbrev pub WaitsGoRight : Type 0
WaitsGoRight = (moments : List MomentView) → AllPairs IsOfOneSession (events_of moments) → All EndsRight (bars_of (boxes_of moments))

-- the arrows are the pairs of a session that begins to wait and one that blocks it, each once and in order. No two of them are at one place: each is to
-- the right of those before
abbrev pub pair_of : Arrow → ℕ × ℕ
pair_of arrow = (arrow.session, arrow.other)

abbrev pub pairs_of : EventView → List (ℕ × ℕ)
pairs_of event = map (λ other. (event.session, other)) event.in_the_way

abbrev pub ArrowsAreThePairs : Type 0
ArrowsAreThePairs = (moments : List MomentView) → map pair_of (arrows_of (boxes_of moments)) ≡ flat_map pairs_of (events_of moments)

abbrev pub AreSetApart : Arrow → Arrow → Type 0
AreSetApart one other = one.x + arrow_step ≤ other.x

abbrev pub ArrowsAreSetApart : Type 0
ArrowsAreSetApart = (moments : List MomentView) → AllPairs AreSetApart (arrows_of (boxes_of moments))

-- the box of each event is covered by one bar of each lock that is held after the event, but for intention locks, and by no other bars. A bar covers
-- what is at its beginning and right of it, as long as it isn't over
abbrev pub covers : HeldView → ℕ → Hold → Bool
covers lock x hold = is_same lock hold.lock && (nat_le hold.x x && goes_on x hold)

abbrev pub is_held_after : Box → HeldView → Bool
is_held_after box lock = is_drawn lock && has_lock box.event.held lock

abbrev pub IsDrawnOnce : List Hold → HeldView → Box → Type 0
IsDrawnOnce holds lock box = count_by (covers lock box.x) holds ≡ (if is_held_after box lock then 1 else 0)

abbrev pub WhatIsHeldIsDrawn : Type 0
WhatIsHeldIsDrawn = (moments : List MomentView) (lock : HeldView) → All (IsDrawnOnce (holds_of (boxes_of moments)) lock) (boxes_of moments)

-- of two bars in one track of a row, the first one is over where the second one begins
abbrev pub DontMeet : Placed → Placed → Type 0
DontMeet one other =
    one.hold.lock.session ≡ other.hold.lock.session → one.track ≡ other.track → goes_on other.hold.x one.hold ≡ false

abbrev pub TracksAreApart : Type 0
TracksAreApart = (moments : List MomentView) → AllPairs DontMeet (placed_of (holds_of (boxes_of moments)))

-- the rows are in ascending order, one for each session that takes part
abbrev pub IsLess : ℕ → ℕ → Type 0
IsLess one other = one < other

abbrev pub RowsRise : Type 0
RowsRise = (moments : List MomentView) → AllPairs IsLess (rows_of moments)

abbrev pub is_holder : ℕ → HeldView → Bool
is_holder session held = held.session == session

abbrev pub is_in_event : ℕ → EventView → Bool
is_in_event session event = event.session == session || (has_row event.in_the_way session || list_any (is_holder session) event.held)

abbrev pub is_in_moment : ℕ → MomentView → Bool
is_in_moment session moment = moment.session == session || list_any (is_in_event session) moment.events

abbrev pub RowsAreTheSessions : Type 0
RowsAreTheSessions = (moments : List MomentView) (session : ℕ) → has_row (rows_of moments) session ≡ list_any (is_in_moment session) moments

-- a picture is one well-formed element, followed by a line feed
pub record IsDocument (written : List ℕ) : Type 0 where
  pub root : List ℕ
  pub is_element : IsElement root
  pub is : written ≡ root ++ codes "\n"

abbrev pub PicturesAreWellFormed : Type 0
PicturesAreWellFormed = (moments : List MomentView) → IsDocument (picture_text moments)

-- a text reads as the bytes that it was made of, with a question mark for each byte that isn't printed in ASCII
abbrev pub shown : ℕ → ℕ
shown byte = if is_printed byte then byte else 63

abbrev pub TextsAreKept : Type 0
TextsAreKept = (text : List ℕ) → IsText (escaped text) (map shown text)
