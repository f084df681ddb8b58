-- The page of a script.
use Rattle.std.specs.Prelude.{◌≡◌, ℕ, List, Result, Ok, Err}
use Rattle.std.specs.List.{AllZip}
use Rattle.mdl_book.specs.declared.book_view.BookView.{BookView}
use Rattle.mdl_lines.specs.declared.fault.LineError.{LineError}
use Rattle.mdl_page.specs.Pages.{FactsView, page_text}
use Rattle.mdl_picture.specs.Pictures.{picture_text}
use Rattle.mdl_script.specs.Output.{lines_until}
use Rattle.mdl_syntax.specs.declared.script.Line.{Line}
use Rattle.mdl_timeline.specs.Moments.{moments_of}
use Rattle.mdl_view_program.specs.declared.question.Form.TheVariants.{Json}
use Rattle.mdl_view_program.specs.declared.question.Question.TheVariants.{Locks, Waits, Why}
use Rattle.mdl_view_program.specs.Answers.{AnswersBooks}
use Rattle.mdl_view_program.specs.Programs.{books_after}

-- what a page shows of a line of this number, if these are the books then: the answers to the three questions about them, in JSON
pub record IsFacts (number : ℕ) (books : List BookView) (facts : FactsView) : Type 0 where
  pub line : facts.line ≡ number
  pub locks : AnswersBooks (Locks Json) books facts.locks
  pub waits : AnswersBooks (Waits Json) books facts.waits
  pub why : AnswersBooks (Why Json) books facts.why

-- what it shows of a line of a script: what `mdlview` answers about the script up to this line
abbrev pub IsFactsOf : List Line → Line → FactsView → Type 0
IsFactsOf lines line facts = IsFacts line.number (books_after line.number lines) facts

-- what it shows of the lines of a script, in their order
abbrev pub AreFacts : List Line → List FactsView → Type 0
AreFacts lines facts = AllZip (IsFactsOf lines) lines facts

-- a text is the page of these lines of a script with these bytes: their picture, the bytes, and what is shown of each line
abbrev pub PagesLines : List ℕ → List Line → List ℕ → Type 0
PagesLines bytes lines text = (facts : List FactsView) × AreFacts lines facts × (text ≡ page_text (picture_text (moments_of bytes lines)) bytes facts)

-- a text is the page of the lines of a script up to the one of this number. A refused script has no page
abbrev pub PagesScript : ℕ → List ℕ → Result (List Line) (ℕ × LineError) → List ℕ → Type 0
PagesScript last bytes (Ok lines) text = PagesLines bytes (lines_until last lines) text
PagesScript last bytes (Err refusal) text = ⊥
