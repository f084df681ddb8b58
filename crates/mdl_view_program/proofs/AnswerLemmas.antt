-- Answers about books and scripts, and what is left written of them.
use Rattle.std.proofs.Common.{◌≡◌, ◌∙◌, ℕ, List, [], Option, None, Some, IfSome, Result, Ok, Err, IsOk, IfOk, OnOk, OnErr, IsOkUnless, map, ap, subst, sym}
use Rattle.std.specs.Io.KnownBytes.{Appends}
use Rattle.mdl_book.specs.declared.book_view.BookView.{BookView}
use Rattle.mdl_core.specs.Words.{Core}
use Rattle.mdl_lines.specs.declared.fault.Fault.{Fault}
use Rattle.mdl_lines.specs.declared.fault.Fault.TheVariants.{Write}
use Rattle.mdl_lines.specs.declared.fault.LineError.{LineError}
use Rattle.mdl_lines.specs.Words.{AppendsPart}
use Rattle.mdl_syntax.specs.declared.script.Line.{Line}
use Rattle.mdl_picture.specs.Pictures.{picture_text}
use Rattle.mdl_script.specs.Output.{lines_until}
use Rattle.mdl_script.specs.Worlds.{script_played}
use Rattle.mdl_timeline.specs.Moments.{moments_of}
use Rattle.mdl_view.specs.Locks.{LockView, lock_of_book}
use Rattle.mdl_view_text.specs.Names.{NamesView, book_text}
use Rattle.mdl_view_program.specs.declared.question.Question.{Question}
use Rattle.mdl_view_program.specs.Answers.{AnswersBooks, IsAnswer}
use Rattle.mdl_view_program.specs.Programs.{AnswersScript, DrawsScript, LeavesAnswer}

-- the locks and the names of books are answered about
pub books_answered : (question : Question) (books : List BookView) (names : NamesView) (locks : List LockView) (text : List ℕ)
    → names ≡ record { locks = map book_text books; owners = [] } → locks ≡ map lock_of_book books → IsAnswer question names locks locks [] text
    → AnswersBooks question books text
books_answered question books names locks text called are answered =
    subst (λ (ls : List LockView). IsAnswer question (record { locks = map book_text books; owners = [] }) ls ls [] text) are
    (subst (λ (ns : NamesView). IsAnswer question ns locks locks [] text) called answered)

-- so are the books that a script leaves
pub script_answered : (question : Question) (last : ℕ) (said : Result (List Line) (ℕ × LineError)) (space : Core) (books : List BookView) (text : List ℕ) → IsOk said
    → IfOk said (λ lines. space ≡ (script_played (lines_until last lines)).world.core) → books ≡ space.books → AnswersBooks question books text
    → AnswersScript question last said text
script_answered question last (Ok lines) space books text ok left are answered =
    subst (λ (bs : List BookView). AnswersBooks question bs text) (are ∙ ap (λ (core : Core). core.books) left) answered
script_answered question last (Err refusal) space books text ok left are answered = absurd (cc)

-- a picture of the lines of a script is one of the script
pub script_drawn : (last : ℕ) (bytes : List ℕ) (said : Result (List Line) (ℕ × LineError)) (text : List ℕ) → IsOk said
    → IfOk said (λ lines. text ≡ picture_text (moments_of bytes (lines_until last lines))) → DrawsScript last bytes said text
script_drawn last bytes (Ok lines) text ok drawn = drawn
script_drawn last bytes (Err refusal) text ok drawn = absurd (cc)

-- all of an answer was written
pub leaves_answer : (Answers : List ℕ → Type 0) (text : List ℕ) (old new : Option (List ℕ)) → Answers text → Appends old new text
    → LeavesAnswer Answers (Ok (tt {0})) old new
leaves_answer Answers text old new answered written = (text, answered, written)

-- a part of it
pub leaves_part : (Answers : List ℕ → Type 0) (text : List ℕ) (old new : Option (List ℕ)) → Answers text → AppendsPart old new text
    → LeavesAnswer Answers (Err Write) old new
leaves_part Answers text old new answered written = (text, answered, written)

-- what is written is the answer to the bytes that were read
pub leaves_read : (Answers : List ℕ → List ℕ → Type 0) (known : Option (List ℕ)) (read lent : List ℕ) (result : Result (Unit {0}) Fault) (text shown : List ℕ)
    (old new : Option (List ℕ)) → IfSome known (λ bytes. read ≡ bytes) → lent ≡ read → Answers lent text → shown ≡ text → OnOk result (Appends old new shown)
    → OnErr result (AppendsPart old new shown) → IsOkUnless result Write → IfSome known (λ bytes. LeavesAnswer (Answers bytes) result old new)
leaves_read Answers None read lent result text shown old new is same answered copied all part fault = is
leaves_read Answers (Some bytes) read lent (Ok done) text shown old new is same answered copied all part fault =
    (text, subst (λ (bs : List ℕ). Answers bs text) (same ∙ is) answered, subst (λ (t : List ℕ). Appends old new t) copied all)
leaves_read Answers (Some bytes) read lent (Err why) text shown old new is same answered copied all part fault =
    subst (λ (f : Fault). LeavesAnswer (Answers bytes) (Err f) old new) (sym fault)
    (text, subst (λ (bs : List ℕ). Answers bs text) (same ∙ is) answered, subst (λ (t : List ℕ). AppendsPart old new t) copied part)
