-- What a script says. The script language is this project's own.
use Rattle.std.specs.Prelude.{ℕ, ◌+◌, List, [], ◌∷◌, Option, Some, None, Result, Ok}
use Rattle.mdl_lines.specs.declared.fault.LineError.{LineError}
use Rattle.mdl_lines.specs.declared.fault.LineError.TheVariants.{BadSession}
use Rattle.mdl_lines.specs.Lines.{lines_of}
use Rattle.mdl_lines.specs.ScriptLines.{said_before, said_by}
use Rattle.mdl_lines.specs.Sessions.{session_of}
use Rattle.mdl_syntax.specs.declared.script.Line.{Line}
use Rattle.mdl_syntax.specs.Forms.{and_then, or_refuse, statement_of}

-- what the words of the line of this number say: a session, and the statement that it is asked for. A line without words
-- says nothing
abbrev pub words_say : ℕ → List (List ℕ) → Result (Option Line) LineError
words_say number [] = Ok None
words_say number (word ∷ words) =
    and_then (or_refuse BadSession (session_of word)) (λ session. and_then (statement_of words)
    (λ statement. Ok (Some (record { number = number; session = session; statement = statement }))))

-- what the line of this number says
abbrev pub line_says : ℕ → List ℕ → Result (Option Line) LineError
line_says number = said_by (words_say number)

-- what these lines say, the first of which has this number; or the first refused line, with its error
abbrev pub lines_say : ℕ → List (List ℕ) → Result (List Line) (ℕ × LineError)
lines_say number [] = Ok []
lines_say number (line ∷ lines) = said_before number (line_says number line) (lines_say (number + 1) lines)

-- what a script says, its lines counted from 1
abbrev pub parsed : List ℕ → Result (List Line) (ℕ × LineError)
parsed text = lines_say 1 (lines_of text)
