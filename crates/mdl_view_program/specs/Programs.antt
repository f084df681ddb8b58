-- What the program writes.
use Rattle.std.specs.Prelude.{◌≡◌, ℕ, List, Option, Result, Ok, Err}
use Rattle.std.specs.Io.KnownBytes.{Appends, Keeps}
use Rattle.mdl_book.specs.declared.book_view.BookView.{BookView}
use Rattle.mdl_lines.specs.declared.fault.Fault.{Fault}
use Rattle.mdl_lines.specs.declared.fault.Fault.TheVariants.{Write}
use Rattle.mdl_lines.specs.declared.fault.LineError.{LineError}
use Rattle.mdl_lines.specs.Words.{AppendsPart}
use Rattle.mdl_syntax.specs.declared.script.Line.{Line}
use Rattle.mdl_picture.specs.Pictures.{picture_text}
use Rattle.mdl_script.specs.Output.{lines_until}
use Rattle.mdl_script.specs.Worlds.{script_played}
use Rattle.mdl_timeline.specs.Moments.{moments_of}
use Rattle.mdl_view_program.specs.declared.question.Question.{Question}
use Rattle.mdl_view_program.specs.Answers.{AnswersBooks}

-- the books of the locks as the lines up to the one of this number leave them
abbrev pub books_after : ℕ → List Line → List BookView
books_after last lines = (script_played (lines_until last lines)).world.core.books

-- a text answers the question about the locks as the lines up to the one of this number leave them. A refused script has no answer
abbrev pub AnswersScript : Question → ℕ → Result (List Line) (ℕ × LineError) → List ℕ → Type 0
AnswersScript question last (Ok lines) text = AnswersBooks question (books_after last lines) text
AnswersScript question last (Err refusal) text = ⊥

-- a text is the picture of what happens at the lines of a script up to the one of this number. A refused script has no picture
abbrev pub DrawsScript : ℕ → List ℕ → Result (List Line) (ℕ × LineError) → List ℕ → Type 0
DrawsScript last bytes (Ok lines) text = text ≡ picture_text (moments_of bytes (lines_until last lines))
DrawsScript last bytes (Err refusal) text = ⊥

-- what a run with this result has written: an answer, or if writing failed a part of one from its beginning, but not all, and otherwise nothing
abbrev pub LeavesAnswer : (List ℕ → Type 0) → Result (Unit {0}) Fault → Option (List ℕ) → Option (List ℕ) → Type 0
LeavesAnswer Answers (Ok done) old new = (text : List ℕ) × Answers text × Appends old new text
LeavesAnswer Answers (Err Write) old new = (text : List ℕ) × Answers text × AppendsPart old new text
LeavesAnswer Answers (Err fault) old new = Keeps old new
