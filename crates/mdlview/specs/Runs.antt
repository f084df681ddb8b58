-- How the program ends, and what it has written then.
use Rattle.std.specs.Prelude.{◌≡◌, ◌≢◌, ◌⊎◌, ⊤, ℕ, Bool, List, Option, IfSome, Result, Ok, Err, IsErr, IsTrue, codes, drop, ◌||◌}
use Rattle.std.specs.Io.KnownBytes.{Appends, Keeps}
use Rattle.std.specs.List.{list_any}
use Rattle.std.specs.Str.{bytes_eq}
use Rattle.mdl_lines.specs.Words.{AppendsPart, fault_status}
use Rattle.mdl_lock_rows.specs.declared.row_error.LockRowsError.{LockRowsError}
use Rattle.mdl_lock_rows.specs.declared.row_error.LockRowsError.TheVariants.{OutOfMemory}
use Rattle.mdl_syntax.specs.Scripts.{parsed}
use Rattle.mdl_view_program.specs.Pages.{PagesScript}
use Rattle.mdl_view_program.specs.Programs.{AnswersScript, DrawsScript}
use Rattle.mdl_view_program.specs.RowAnswers.{AnswersBytes, IsRowsFault}
use Rattle.mdl_view_program.specs.declared.question.Question.{Question}
use Rattle.mdl_view_program.specs.declared.rows.Explained.{Explained}
use Rattle.mdl_view_program.specs.declared.rows.Explained.TheVariants.{Fully, Partly}
use Rattle.mdl_view_program.specs.declared.rows.RowsFault.{RowsFault}
use Rattle.mdl_view_program.specs.declared.rows.RowsFault.TheVariants.{Rows, Fails}
use Rattle.mdlview.specs.CommandLine.{Asks}
use Rattle.mdlview.specs.Queries.{query_text}
use Rattle.mdlview.specs.declared.asked.Asked.{Asked}
use Rattle.mdlview.specs.declared.asked.Asked.TheVariants.{OfRows, OfScript, Query}
use Rattle.mdlview.specs.declared.asked.Look.{Look}
use Rattle.mdlview.specs.declared.asked.Look.TheVariants.{Locks, Page, Timeline}

-- the text is an answer to a request about a script, played to the end of the line of this number
abbrev pub AnswersLook : Look → ℕ → List ℕ → List ℕ → Type 0
AnswersLook (Locks question) last bytes text = AnswersScript question last (parsed bytes) text
AnswersLook Timeline last bytes text = DrawsScript last bytes (parsed bytes) text
AnswersLook Page last bytes text = PagesScript last bytes (parsed bytes) text

-- the bytes are refused as rows, and not for want of memory
abbrev pub RefusesRows : List ℕ → Type 0
RefusesRows bytes = (refusal : LockRowsError) × (refusal ≢ OutOfMemory) × IsRowsFault bytes (Rows refusal)

-- what a status says, of a request with these answers, whose input may be refused. 0: an answer is written, and all of it. 1: the input is refused,
-- and nothing is written. 3: memory ran out or a device failed; if anything is written it is a part of an answer from its beginning, but not all
abbrev pub EndsWith : (List ℕ → Type 0) → Type 0 → ℕ → Option (List ℕ) → Option (List ℕ) → Type 0
EndsWith Answers refused status old new =
    ((status ≡ 0) × (text : List ℕ) × Answers text × Appends old new text)
    ⊎ (((status ≡ 1) × refused × Keeps old new)
    ⊎ ((status ≡ 3) × (Keeps old new ⊎ ((text : List ℕ) × Answers text × AppendsPart old new text))))

-- the same of a question about rows, whose answer may leave waits unexplained. 0: the answer explains all of them. 4: it doesn't, and says so
abbrev pub EndsForRows : Question → List ℕ → ℕ → Option (List ℕ) → Option (List ℕ) → Type 0
EndsForRows question bytes status old new =
    ((status ≡ 4) × (text : List ℕ) × AnswersBytes question bytes Partly text × Appends old new text)
    ⊎ (((status ≡ 0) × (text : List ℕ) × AnswersBytes question bytes Fully text × Appends old new text)
    ⊎ (((status ≡ 1) × RefusesRows bytes × Keeps old new)
    ⊎ ((status ≡ 3) × (Keeps old new ⊎ ((explained : Explained) × (text : List ℕ) × AnswersBytes question bytes explained text × AppendsPart old new text)))))

-- how a request may end on this input, if that is known
abbrev pub EndsAs : Asked → ℕ → Option (List ℕ) → Option (List ℕ) → Option (List ℕ) → Type 0
EndsAs (OfRows question) status input old new = IfSome input (λ bytes. EndsForRows question bytes status old new)
EndsAs (OfScript look last) status input old new = IfSome input (λ bytes. EndsWith (AnswersLook look last bytes) (IsErr (parsed bytes)) status old new)
EndsAs (Query server) status input old new = EndsWith (λ text. text ≡ query_text server) ⊥ status old new

-- the words after the program's name ask for nothing
abbrev pub AskForNothing : List (List ℕ) → Type 0
AskForNothing words = (asked : Asked) → Asks words asked → ⊥

-- the word calls for help
abbrev pub is_help_word : List ℕ → Bool
is_help_word word = bytes_eq word (codes "--help") || (bytes_eq word (codes "-h") || bytes_eq word (codes "help"))

-- one of the words does
abbrev pub CallForHelp : List (List ℕ) → Type 0
CallForHelp words = IsTrue (list_any is_help_word words)

-- how the program may end for words, of which the first is its name, that don't ask for its version. 2: the words ask for nothing, and nothing is
-- written. Help may be written for words that call for it
abbrev pub EndsByWords : List (List ℕ) → ℕ → Option (List ℕ) → Option (List ℕ) → Option (List ℕ) → Type 0
EndsByWords words status input old new =
    ((asked : Asked) × Asks (drop 1 words) asked × EndsAs asked status input old new)
    ⊎ (((status ≡ 2) × AskForNothing (drop 1 words) × Keeps old new)
    ⊎ (((status ≡ 3) × Keeps old new)
    ⊎ (AskForNothing (drop 1 words) × CallForHelp words × EndsWith (λ text. ⊤) ⊥ status old new)))

-- the status for a fault of rows
abbrev pub rows_status : RowsFault → ℕ
rows_status (Fails fault) = fault_status fault
rows_status (Rows OutOfMemory) = 3
rows_status (Rows refusal) = 1
