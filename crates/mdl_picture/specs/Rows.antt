-- The rows of a picture: one for each session, in order of their numbers. Below the boxes a row has tracks for what its session holds. Sizes are in
-- SVG's units.
use Rattle.std.specs.Prelude.{ℕ, Bool, ◌+◌, ◌*◌, ◌==◌, nat_lt, List, [], count_by, find, fold, insert, map, if◌then◌else◌}
use Rattle.std.specs.List.{list_any}
use Rattle.std.specs.Option.{option_map_or}
use Rattle.mdl_picture.specs.declared.rows.Row.{Row}
use Rattle.mdl_picture.specs.Holds.{Placed, track_count}
use Rattle.mdl_picture.specs.Moments.{EventView, HeldView, MomentView}

-- the sessions that have a row. Where a new one goes: behind those of lower numbers
abbrev pub rows_above : List ℕ → ℕ → ℕ
rows_above rows session = count_by (λ row. nat_lt row session) rows

-- rows with one for this session
abbrev pub has_row : List ℕ → ℕ → Bool
has_row rows session = list_any (λ row. row == session) rows

abbrev pub with_row : List ℕ → ℕ → List ℕ
with_row rows session = if has_row rows session then rows else insert rows (rows_above rows session) session

-- rows with one for each session of an event, and of a moment
abbrev pub with_holder : List ℕ → HeldView → List ℕ
with_holder rows held = with_row rows held.session

abbrev pub with_event_rows : List ℕ → EventView → List ℕ
with_event_rows rows event = fold with_holder (fold with_row (with_row rows event.session) event.in_the_way) event.held

abbrev pub with_moment_rows : List ℕ → MomentView → List ℕ
with_moment_rows rows moment = fold with_event_rows (with_row rows moment.session) moment.events

-- the sessions that have a row in a picture
abbrev pub rows_of : List MomentView → List ℕ
rows_of moments = fold with_moment_rows [] moments

-- rows with as many tracks as these bars take
abbrev pub sized_row : List Placed → ℕ → Row
sized_row placed session = record { session = session; tracks = track_count placed session }

abbrev pub sized_rows : List Placed → List ℕ → List Row
sized_rows placed sessions = map (sized_row placed) sessions

-- the y coordinate of the first row, the height of boxes and that of tracks, and the distance between two rows
abbrev pub top : ℕ
top = 28

abbrev pub box_height : ℕ
box_height = 64

abbrev pub track_height : ℕ
track_height = 16

abbrev pub row_gap : ℕ
row_gap = 16

abbrev pub row_height : ℕ → ℕ
row_height tracks = box_height + track_height * tracks

-- the y coordinate below a row that begins here, and the one where the row of a session begins
abbrev pub below : ℕ → Row → ℕ
below y row = y + (row_height row.tracks + row_gap)

abbrev pub below_lower : ℕ → ℕ → Row → ℕ
below_lower session y row = if nat_lt row.session session then below y row else y

abbrev pub row_top : List Row → ℕ → ℕ
row_top rows session = fold (below_lower session) top rows

-- the y coordinate where the row of a session ends
abbrev pub is_row_of : ℕ → Row → Bool
is_row_of session row = row.session == session

abbrev pub tracks_of : List Row → ℕ → ℕ
tracks_of rows session = option_map_or (λ row. row.tracks) (find (is_row_of session) rows) 0

abbrev pub row_foot : List Row → ℕ → ℕ
row_foot rows session = row_top rows session + row_height (tracks_of rows session)

-- the y coordinate where the rows end
abbrev pub bottom : List Row → ℕ
bottom rows = fold below top rows
