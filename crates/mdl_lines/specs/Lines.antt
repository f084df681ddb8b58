-- How a script is cut into lines, and a line into words. The script language is this project's own.
use Rattle.std.specs.Prelude.{ℕ, ◌-◌, Bool, not, ◌||◌, ◌==◌, nat_eq, List, [], ◌∷◌, map, filter, get_or, length, Option, Some, None}
use Rattle.std.specs.List.{slice_split}
use Rattle.std.specs.Str.Lines.{strip_carriage_return}
use lib.Pointwise.{pointwise}

-- the lines of a text, separated by line feeds. A carriage return at the end of a line is not part of it. What follows the
-- last line feed is a line too, which says nothing if it is empty
abbrev pub lines_of : List ℕ → List (List ℕ)
lines_of text = map strip_carriage_return (slice_split (λ byte. byte == 10) text)

-- the line of this number, counted from 1, of these lines, and of a text. It is empty if there is none
abbrev pub line_in : List (List ℕ) → ℕ → List ℕ
line_in lines number = get_or lines (number - 1) []

abbrev pub line_at : List ℕ → ℕ → List ℕ
line_at text number = line_in (lines_of text) number

-- whether a byte is a space or a tab
abbrev pub is_blank : ℕ → Bool
is_blank byte = byte == 32 || byte == 9

-- the words of a line, separated by one or more blanks
abbrev pub words_of : List ℕ → List (List ℕ)
words_of line = filter (λ word. not (length word == 0)) (slice_split is_blank line)

-- the word of a list that has just one
abbrev pub only : List (List ℕ) → Option (List ℕ)
only [] = None
only (word ∷ []) = Some word
only (word ∷ more ∷ words) = None

-- whether two texts are equal
abbrev pub same_text : List ℕ → List ℕ → Bool
same_text = pointwise nat_eq
