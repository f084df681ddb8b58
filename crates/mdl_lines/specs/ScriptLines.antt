-- What a script says, given what the words of a line say: A is what one line can ask for. The rules are this project's own.
use Rattle.std.specs.Prelude.{ℕ, ◌+◌, Bool, true, false, ◌==◌, nat_le, nat_lt, List, [], ◌∷◌, length, Option, Some, None, Result, Ok, Err, slice_index, if◌then◌else◌}
use Rattle.std.specs.List.{list_any}
use Rattle.mdl_lines.specs.declared.fault.LineError.{LineError}
use Rattle.mdl_lines.specs.declared.fault.LineError.TheVariants.{LongLine, NotAscii}
use Rattle.mdl_lines.specs.Lines.{lines_of, words_of}

-- whether a line, without its line feed and a carriage return at its end, begins with #, so that its words are not read. It
-- is refused if it is too long, and then if a byte is not ASCII
abbrev pub is_comment : List ℕ → Result Bool LineError
is_comment line =
    if nat_lt 4096 (length line) then Err LongLine
    else (if list_any (nat_le 128) line then Err NotAscii else Ok (slice_index line 0 == 35))

-- what a line says if its words say this: nothing if it is a comment, and a line that is refused as a whole stays refused
abbrev pub said_unless : {A : Type 0} → Result Bool LineError → Result (Option A) LineError → Result (Option A) LineError
said_unless (Err error) said = Err error
said_unless (Ok true) said = Ok None
said_unless (Ok false) said = said

-- what a line says: nothing, a request, or its first fault
abbrev pub said_by : {A : Type 0} → (List (List ℕ) → Result (Option A) LineError) → List ℕ → Result (Option A) LineError
said_by words_say line = said_unless (is_comment line) (words_say (words_of line))

-- what the line of this number and the lines after it say
abbrev pub said_before : {A : Type 0} → ℕ → Result (Option A) LineError → Result (List A) (ℕ × LineError) → Result (List A) (ℕ × LineError)
said_before number (Err error) rest = Err (number, error)
said_before number (Ok None) rest = rest
said_before number (Ok (Some asked)) (Ok more) = Ok (asked ∷ more)
said_before number (Ok (Some asked)) (Err refusal) = Err refusal

-- all that these lines say, the first of which has this number, or the first refused line with its error
abbrev pub all_said : {A : Type 0} → (List ℕ → Result (Option A) LineError) → ℕ → List (List ℕ) → Result (List A) (ℕ × LineError)
all_said line_says number [] = Ok []
all_said line_says number (line ∷ lines) = said_before number (line_says line) (all_said line_says (number + 1) lines)

-- all that a script says, its lines counted from 1
abbrev pub script_by : {A : Type 0} → (List ℕ → Result (Option A) LineError) → List ℕ → Result (List A) (ℕ × LineError)
script_by line_says text = all_said line_says 1 (lines_of text)
