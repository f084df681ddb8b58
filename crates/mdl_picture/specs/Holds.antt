-- What sessions hold, as bars: each begins at the box of the first event after which a session holds a lock, and ends at the box of the first later
-- event after which it doesn't. A lock that is held twice in one mode has one bar.
use Rattle.std.specs.Prelude.{ℕ, Bool, true, not, ◌+◌, ◌&&◌, ◌||◌, ◌==◌, nat_lt, max, List, [], ◌∷◌, ◌++◌, Option, codes, find, fold, map, if◌then◌else◌}
use Rattle.std.specs.List.{list_any}
use Rattle.std.specs.Option.{option_map, option_map_or}
use Rattle.std.specs.Str.{bytes_eq}
use Rattle.mdl_picture.specs.declared.layout.Column.{Column}
use Rattle.mdl_picture.specs.Bars.{place_of}
use Rattle.mdl_picture.specs.Boxes.{Box}
use Rattle.mdl_picture.specs.Moments.{HeldView}

-- whether two are one lock, held by one session in one mode
abbrev pub is_same : HeldView → HeldView → Bool
is_same one other = one.session == other.session && (bytes_eq one.mode other.mode && bytes_eq one.lock other.lock)

abbrev pub has_lock : List HeldView → HeldView → Bool
has_lock locks lock = list_any (is_same lock) locks

-- Intention locks (IX) aren't drawn. Each statement that writes holds one on the whole server, and each that changes a table one on its schema: so they
-- say no more than the other bars of the row, and would double its height.
abbrev pub is_drawn : HeldView → Bool
is_drawn lock = not (bytes_eq lock.mode (codes "IX"))

-- the locks of a list whose bars begin, where others are held before: each once
abbrev pub is_new : List HeldView → List HeldView → HeldView → Bool
is_new before others lock = is_drawn lock && not (has_lock before lock || has_lock others lock)

abbrev pub new_locks : List HeldView → List HeldView → List HeldView
new_locks before [] = []
new_locks before (lock ∷ others) = if is_new before others lock then lock ∷ new_locks before others else new_locks before others

-- a bar: its lock, the line and the x coordinate where it begins, and the column where the lock is released, if it is
pub record Hold : Type 0 where
  pub lock : HeldView
  pub line : ℕ
  pub x : ℕ
  pub released : Option Column

-- whether a lock isn't held after the event of a box
abbrev pub is_without : HeldView → Box → Bool
is_without lock box = not (has_lock box.event.held lock)

-- the bar of a lock that begins at a box, before these later ones
abbrev pub hold_from : Box → List Box → HeldView → Hold
hold_from box later lock = record {
  lock = lock;
  line = box.line;
  x = box.x;
  released = option_map place_of (find (is_without lock) later);
}

abbrev pub holds_from : List HeldView → Box → List Box → List Hold
holds_from before box later = map (hold_from box later) (new_locks before box.event.held)

-- the bars that begin at these boxes, where these locks are held before
abbrev pub holds_after : List HeldView → List Box → List Hold
holds_after before [] = []
holds_after before (box ∷ later) = holds_from before box later ++ holds_after box.event.held later

-- the bars of a picture
abbrev pub holds_of : List Box → List Hold
holds_of boxes = holds_after [] boxes

-- whether a bar isn't over at this x coordinate
abbrev pub goes_on : ℕ → Hold → Bool
goes_on x hold = option_map_or (λ column. nat_lt x column.x) hold.released true

-- a bar in a track of its session's row, counted from 0
pub record Placed : Type 0 where
  pub hold : Hold
  pub track : ℕ

-- a bar's track is behind those of all bars of its session that aren't over where it begins
abbrev pub is_beside : Hold → Placed → Bool
is_beside hold other = other.hold.lock.session == hold.lock.session && goes_on hold.x other.hold

abbrev pub behind_track : Hold → ℕ → Placed → ℕ
behind_track hold track other = if is_beside hold other then max track (other.track + 1) else track

abbrev pub track_for : List Placed → Hold → ℕ
track_for placed hold = fold (behind_track hold) 0 placed

abbrev pub with_placed : List Placed → Hold → List Placed
with_placed placed hold = placed ++ record { hold = hold; track = track_for placed hold } ∷ []

abbrev pub placed_of : List Hold → List Placed
placed_of holds = fold with_placed [] holds

-- how many tracks the row of a session has
abbrev pub behind_session : ℕ → ℕ → Placed → ℕ
behind_session session tracks placed = if placed.hold.lock.session == session then max tracks (placed.track + 1) else tracks

abbrev pub track_count : List Placed → ℕ → ℕ
track_count placed session = fold (behind_session session) 0 placed
