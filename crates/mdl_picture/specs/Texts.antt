-- The lines of a box: a statement and its answer, each broken at a blank if it is long. Sizes are in SVG's units, and all bytes are taken as
-- equally wide.
use Rattle.std.specs.Prelude.{ℕ, zero, suc, Bool, ◌+◌, ◌-◌, ◌*◌, ◌==◌, nat_le, nat_lt, max, min, List, [], ◌∷◌, ◌++◌, codes, drop, filter, fold, get_or, length, take, if◌then◌else◌}
use Rattle.mdl_picture.specs.Moments.{EventView}

-- the greatest number of bytes of a line. A longer one is cut, and ends with two dots
abbrev pub most_bytes : ℕ
most_bytes = 32

abbrev pub cut : List ℕ → List ℕ
cut line = if nat_le (length line) most_bytes then line else take (most_bytes - 2) line ++ codes ".."

-- the index of the last blank of a text before this index, or the text's end if there is none
unfoldable pub blank_before : List ℕ → ℕ → ℕ
blank_before text zero = length text
blank_before text (suc place) = if get_or text place 0 == 32 then place else blank_before text place

-- the index where a text is broken: its end if the text fits
abbrev pub break_of : ℕ → List ℕ → ℕ
break_of room text = if nat_le (length text) room then length text else blank_before text (room + 1)

-- the parts of a text before and after the byte where it is broken
abbrev pub halves : ℕ → List ℕ → List (List ℕ)
halves room text = let place = break_of room text in take place text ∷ drop (place + 1) text ∷ []

-- the lines of a text: those of them that aren't empty
abbrev pub has_bytes : List ℕ → Bool
has_bytes line = nat_lt 0 (length line)

abbrev pub lines_of : ℕ → List ℕ → List (List ℕ)
lines_of room text = filter has_bytes (halves room text)

-- a statement and an answer of at most these numbers of bytes aren't broken
abbrev pub statement_room : ℕ
statement_room = 18

abbrev pub answer_room : ℕ
answer_room = 15

-- the length of the longest line, as it is cut
abbrev pub longer : ℕ → List ℕ → ℕ
longer most line = max most (min (length line) most_bytes)

abbrev pub longest : ℕ → List ℕ → ℕ
longest room text = fold longer 0 (halves room text)

-- the width of a box, as far as its texts need it
abbrev pub byte_width : ℕ
byte_width = 7

abbrev pub margin : ℕ
margin = 14

abbrev pub text_width : EventView → ℕ
text_width event = byte_width * max (longest statement_room event.statement) (longest answer_room event.answer) + margin
