-- What is said of a server's rows that aren't read, and of waits that can't be explained. The wording is this project's own.
use Rattle.std.specs.Prelude.{ℕ, zero, suc, Bool, ◌&&◌, ◌+◌, ◌-◌, ◌==◌, List, [], ◌∷◌, ◌++◌, codes, length, take, if◌then◌else◌}
use Rattle.std.specs.Fmt.{decimal}
use Rattle.std.specs.List.{list_all}
use Rattle.mdl_lock_rows.specs.declared.row_class.LeftOut.{LeftOut}
use Rattle.mdl_view.specs.declared.at_lock.AtLock.{AtLock}
use Rattle.mdl_view_text.specs.Names.{printed}
use Rattle.mdl_view_text.specs.Layouts.{line_of, listed}

-- the number of rows of all these classes
abbrev pub rows_among : List LeftOut → ℕ
rows_among [] = 0
rows_among (class ∷ classes) = class.count + rows_among classes

-- how many of them wait
abbrev pub waiting_among : List LeftOut → ℕ
waiting_among [] = 0
waiting_among (class ∷ classes) = class.waiting + waiting_among classes

-- ---- waits that can't be explained

-- how many: those for which no ticket shows a reason, and those of rows that aren't read
abbrev pub unexplained_count : List AtLock → List LeftOut → ℕ
unexplained_count unexplained left_out = length unexplained + waiting_among left_out

-- whether each wait is explained: none lacks a reason, and no row that waits isn't read
abbrev pub none_waits : LeftOut → Bool
none_waits left = left.waiting == 0

abbrev pub are_all_explained : List AtLock → List LeftOut → Bool
are_all_explained unexplained left_out = (length unexplained == 0) && list_all none_waits left_out

-- so many waits
abbrev pub waits_words : ℕ → List ℕ
waits_words count = if count == 1 then codes "1 wait" else decimal count ++ codes " waits"

-- the line for them, or nothing if there is none
abbrev pub unexplained_words : ℕ → List ℕ
unexplained_words count = waits_words count ++ codes " can't be explained from these rows"

abbrev pub unexplained_line : ℕ → List ℕ
unexplained_line count = if count == 0 then [] else unexplained_words count ++ codes ": ask `mdlview why`" ++ 10 ∷ []

-- ---- rows that aren't read

-- an object type, a lock type, and how many rows are of them
abbrev pub class_text : ℕ → LeftOut → List ℕ
class_text place left = printed left.class.object_type ++ 32 ∷ printed left.class.lock_type ++ 32 ∷ decimal left.count

-- at most eight classes are named
abbrev pub most_classes : ℕ
most_classes = 8

abbrev pub more_classes : ℕ → List ℕ
more_classes zero = []
more_classes (suc more) = codes ", and of " ++ decimal (suc more) ++ codes " more types"

abbrev pub rows_left_out : ℕ → List ℕ
rows_left_out count = if count == 1 then decimal count ++ codes " row left out: " else decimal count ++ codes " rows left out: "

abbrev pub left_out_words : List LeftOut → List ℕ
left_out_words classes =
    rows_left_out (rows_among classes) ++ listed (codes ", ") class_text 0 (take most_classes classes) ++ more_classes (length classes - most_classes)

-- the line, or nothing if no row is left out
abbrev pub left_out_line : List LeftOut → List ℕ
left_out_line [] = []
left_out_line (class ∷ classes) = line_of (left_out_words (class ∷ classes))

-- ---- under an answer

-- both lines, under a table
abbrev pub notes : List AtLock → List LeftOut → List ℕ
notes unexplained left_out = unexplained_line (unexplained_count unexplained left_out) ++ left_out_line left_out

-- a line as a comment of DOT, or nothing if there is none
abbrev pub comment_of : List ℕ → List ℕ
comment_of line = if length line == 0 then [] else codes "// " ++ line

-- both lines, in a graph
abbrev pub comments : List AtLock → List LeftOut → List ℕ
comments unexplained left_out = comment_of (unexplained_line (unexplained_count unexplained left_out)) ++ comment_of (left_out_line left_out)
