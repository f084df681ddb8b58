-- Which word of a script is refused, and why. The script language is this project's own.
use Rattle.std.specs.Prelude.{ℕ, zero, suc, ◌-◌, Bool, not, ◌&&◌, ◌||◌, ◌==◌, List, [], ◌∷◌, ◌++◌, Option, Some, None, codes, drop, filter, get_or, is_ok, length, take, if◌then◌else◌}
use Rattle.std.specs.List.{list_all, list_any, range_with_len}
use Rattle.mdl_key.specs.Keys.{is_name_byte}
use Rattle.mdl_lines.specs.declared.fault.LineError.{LineError}
use Rattle.mdl_lines.specs.declared.fault.LineError.TheVariants.{BadSession, BadName, LongLine, NotAscii}
use Rattle.mdl_lines.specs.Words.{is_blank, line_at}
use Rattle.mdl_syntax.specs.Scripts.{parsed}
use Rattle.mdl_view_text.specs.declared.refused_words.WordPlace.{WordPlace}
use Rattle.mdl_view_text.specs.Refusals.{refused_line, refused_word}

-- whether a text is a script
abbrev pub is_script : List ℕ → Bool
is_script text = is_ok (parsed text)

-- the ways in which a beginning of a statement may continue: for each form of statement, what remains of it after each of its words
abbrev pub endings : List (List ℕ)
endings =
    codes "BEGIN" ∷ codes "TRANSACTION" ∷ codes "a" ∷ codes "b" ∷ codes "1" ∷ codes "a c" ∷ codes "TABLE a c" ∷ codes "TABLE a" ∷ codes "TABLE a TO b"
    ∷ codes "a TO b" ∷ codes "TO a" ∷ codes "TO b" ∷ codes "TABLE a ADD c COPY" ∷ codes "a ADD c COPY" ∷ codes "ADD c COPY" ∷ codes "c COPY"
    ∷ codes "COPY" ∷ codes "TABLES a READ" ∷ codes "a READ" ∷ codes "READ" ∷ codes "TABLES" ∷ codes "TABLES WITH READ LOCK"
    ∷ codes "WITH READ LOCK" ∷ codes "READ LOCK" ∷ codes "LOCK" ∷ codes "QUERY 1" ∷ []

-- whether a beginning of a line may end here, or continue in one of these ways
abbrev pub goes_on_with : List ℕ → List ℕ → Bool
goes_on_with line ending = is_script (line ++ 32 ∷ ending)

abbrev pub may_go_on : List ℕ → Bool
may_go_on line = is_script line || list_any (goes_on_with line) endings

-- whether a word of a line ends at this index
abbrev pub ends_word : List ℕ → ℕ → Bool
ends_word line end = not (is_blank (get_or line (end - 1) 32)) && is_blank (get_or line end 32)

-- the indices where the words of a line end
abbrev pub word_ends : List ℕ → List ℕ
word_ends line = filter (ends_word line) (range_with_len 1 (length line))

-- the first word after which the line can neither end nor continue
abbrev pub first_bad_word : List ℕ → ℕ → List ℕ → Option WordPlace
first_bad_word line number [] = None
first_bad_word line number (end ∷ ends) =
    if may_go_on (take end line) then first_bad_word line (suc number) ends else Some (record { number = number; end = end })

-- the index where the word begins that ends at this index
unfoldable pub word_start : List ℕ → ℕ → ℕ
word_start line zero = zero
word_start line (suc place) = if is_blank (get_or line place 32) then suc place else word_start line place

abbrev pub word_before : List ℕ → ℕ → List ℕ
word_before line end = drop (word_start line end) (take end line)

-- whether a byte may occur in the names of a table
abbrev pub is_of_names : ℕ → Bool
is_of_names byte = is_name_byte byte || byte == 46

-- why a word is refused
abbrev pub reason_of : LineError → List ℕ → List ℕ
reason_of BadSession word = codes " is no session: sessions are 1 to 1024"
reason_of BadName word =
    if list_all is_of_names word then codes " is no name of 1 to 64 bytes, or stands here twice" else codes " is no name: names have a-z, 0-9 and _"
reason_of error word = codes " can't stand here"

-- the last of these indices, or 0
abbrev pub last_end : List ℕ → ℕ
last_end ends = get_or ends (length ends - 1) 0

-- the text for a word that is refused
abbrev pub bad_word_explained : ℕ → LineError → List ℕ → WordPlace → List ℕ
bad_word_explained number error line place =
    refused_word number place.number (word_before line place.end) (reason_of error (word_before line place.end))

-- the text for a word that is missing after the last of these words
abbrev pub missing_word_explained : ℕ → List ℕ → List ℕ → List ℕ
missing_word_explained number line ends =
    refused_word number (length ends) (word_before line (last_end ends)) (codes ": a word is missing behind it")

abbrev pub word_explained : ℕ → LineError → List ℕ → Option WordPlace → List ℕ
word_explained number error line (Some place) = bad_word_explained number error line place
word_explained number error line None = missing_word_explained number line (word_ends line)

-- the text for the line of this number, refused with this error
abbrev pub line_explained : ℕ → LineError → List ℕ → List ℕ
line_explained number LongLine line = refused_line number (codes "it has more than 4096 bytes")
line_explained number NotAscii line = refused_line number (codes "it has a byte that is not ASCII")
line_explained number error line = word_explained number error line (first_bad_word line 1 (word_ends line))

-- the text for the line of this number of a script, refused with this error
abbrev pub explanation : List ℕ → ℕ → LineError → List ℕ
explanation text number error = line_explained number error (line_at text number)
