-- The answers to questions about a table of locks.
use Rattle.std.specs.Prelude.{◌≡◌, ℕ, List, [], ◌++◌, map}
use Rattle.mdl_book.specs.declared.book_view.BookView.{BookView}
use Rattle.mdl_lock_rows.specs.declared.row_class.LeftOut.{LeftOut}
use Rattle.mdl_view.specs.Blockings.{blockings_in, unexplained_waits}
use Rattle.mdl_view.specs.Locks.{LockView, lock_of_book}
use Rattle.mdl_view_text.specs.declared.findings.Findings.{Findings}
use Rattle.mdl_view_text.specs.Findings.{AreFindings}
use Rattle.mdl_view_text.specs.Graph.{graph_text}
use Rattle.mdl_view_text.specs.Json.{locks_json, waits_json, why_json}
use Rattle.mdl_view_text.specs.LeftOuts.{comments, notes}
use Rattle.mdl_view_text.specs.Names.{NamesView, book_text}
use Rattle.mdl_view_text.specs.Rows.{locks_text, waits_text}
use Rattle.mdl_view_text.specs.Why.{why_text}
use Rattle.mdl_view_program.specs.declared.question.Form.{Form}
use Rattle.mdl_view_program.specs.declared.question.Form.TheVariants.{Text, Json}
use Rattle.mdl_view_program.specs.declared.question.Question.{Question}
use Rattle.mdl_view_program.specs.declared.question.Question.TheVariants.{Why, Locks, Waits, Graph}

-- the locks in this form, with their tickets as rows show them
abbrev pub locks_answer : Form → NamesView → List LockView → List LockView → List LeftOut → List ℕ
locks_answer Text names shown locks left_out = locks_text names shown ++ notes (unexplained_waits locks) left_out
locks_answer Json names shown locks left_out = locks_json names shown (unexplained_waits locks) left_out

-- the waits in this form
abbrev pub waits_answer : Form → NamesView → List LockView → List LeftOut → List ℕ
waits_answer Text names locks left_out = waits_text names (blockings_in 0 locks) ++ notes (unexplained_waits locks) left_out
waits_answer Json names locks left_out = waits_json names (blockings_in 0 locks) (unexplained_waits locks) left_out

-- what was found, in this form
abbrev pub why_answer : Form → NamesView → Findings → List LeftOut → List ℕ
why_answer Text names found left_out = why_text names found left_out
why_answer Json names found left_out = why_json names found left_out

-- the graph of waits
abbrev pub graph_answer : NamesView → List LockView → List LeftOut → List ℕ
graph_answer names locks left_out = graph_text names (blockings_in 0 locks) ++ comments (unexplained_waits locks) left_out

-- the text answers the question about these locks, whose tickets are shown like this
abbrev pub IsAnswer : Question → NamesView → List LockView → List LockView → List LeftOut → List ℕ → Type 0
IsAnswer (Why form) names shown locks left_out text = (found : Findings) × AreFindings locks found × (text ≡ why_answer form names found left_out)
IsAnswer (Locks form) names shown locks left_out text = text ≡ locks_answer form names shown locks left_out
IsAnswer (Waits form) names shown locks left_out text = text ≡ waits_answer form names locks left_out
IsAnswer Graph names shown locks left_out text = text ≡ graph_answer names locks left_out

-- the text answers the question about the locks of these books
abbrev pub AnswersBooks : Question → List BookView → List ℕ → Type 0
AnswersBooks question books text =
    let locks = map lock_of_book books in IsAnswer question (record { locks = map book_text books; owners = [] }) locks locks [] text
