-- Texts of pieces: lists with separators, and lines of at most 100 bytes. The wording is this project's own.
use Rattle.std.specs.Prelude.{ℕ, zero, suc, Bool, ◌&&◌, ◌-◌, ◌≤◌, nat_le, nat_lt, List, [], ◌∷◌, ◌++◌, codes, get_or, length, take, if◌then◌else◌}

-- the separator before the element with this index, counted from 0. There is none before the first one
abbrev pub mark_before : List ℕ → ℕ → List ℕ
mark_before mark zero = []
mark_before mark (suc place) = mark

-- elements with a separator between two of them. The first has this index
abbrev pub listed : {X : Type 0} → List ℕ → (ℕ → X → List ℕ) → ℕ → List X → List ℕ
listed mark text place [] = []
listed mark text place (x ∷ xs) = mark_before mark place ++ text place x ++ listed mark text (suc place) xs

-- whether a byte continues a character of UTF-8 that began before it
abbrev pub goes_on : ℕ → Bool
goes_on byte = nat_le 128 byte && nat_lt byte 192

-- the last index up to this one where a character begins
unfoldable pub begin_of_character : List ℕ → ℕ → ℕ
begin_of_character text zero = zero
begin_of_character text (suc place) = if goes_on (get_or text (suc place) 0) then begin_of_character text place else suc place

-- a text cut to this number of bytes: a longer one ends with two dots after a whole character
abbrev pub cut : ℕ → List ℕ → List ℕ
cut room text = if nat_le (length text) room then text else take (begin_of_character text (room - 2)) text ++ codes ".."

-- the greatest number of bytes of a line
abbrev pub most_columns : ℕ
most_columns = 100

abbrev pub line_of : List ℕ → List ℕ
line_of text = cut most_columns text ++ 10 ∷ []

-- a line with a name. If there isn't room for all, the name is cut first
abbrev pub line_with : List ℕ → List ℕ → List ℕ → List ℕ
line_with start name rest = line_of (start ++ cut (most_columns - length start - length rest) name ++ rest)

-- no text is longer than `most_columns` once it is cut to that
abbrev pub LinesFit : Type 0
LinesFit = (text : List ℕ) → length (cut most_columns text) ≤ most_columns
