-- Commands obeyed one after another, from the first on.
use Rattle.std.proofs.Common.{◌≡◌, ℕ, ◌+◌, ◌<◌, List, [], ◌∷◌, ◌++◌, length, take, get_or, sym, ◌∙◌, ap, append_assoc, append-nil}
use Rattle.std.proofs.lemmas.List.{take_more}
use Rattle.std.proofs.lemmas.Grind.{flat_map-append}
use Rattle.mdl_key.specs.declared.namespace.Kind.{Kind}
use Rattle.mdl_lock.specs.declared.script_command.ScriptCommand.{ScriptCommand}
use Rattle.mdl_lock.specs.declared.answer.Answer.{Answer}
use Rattle.mdl_lock.specs.Answering.{answer_text, text_of}
use Rattle.mdl_book.specs.declared.book_view.BookView.{BookView}
use Rattle.mdl_book.specs.Books.{lock_kind}
use Rattle.mdl_lock.specs.Answers.{Lock, Outcome, free_lock, after_answers, obeyed, all_obeyed}
use Rattle.mdl_lock.specs.Locks.{lock_of}

all_obeyed_push : (kind : Kind) (commands : List ScriptCommand) (command : ScriptCommand) (lock : Lock)
    → all_obeyed kind (commands ++ command ∷ []) lock
    ≡ after_answers (all_obeyed kind commands lock).answers (obeyed kind command (all_obeyed kind commands lock).lock)
all_obeyed_push kind [] command lock =
    let last = obeyed kind command lock in ap (λ (answers : List Answer). let o : Outcome = record { answers = answers; lock = last.lock } in o) (append-nil last.answers)
all_obeyed_push kind (before ∷ commands) command lock =
    let one = obeyed kind before lock in
    let more = all_obeyed kind commands one.lock in
    let last = obeyed kind command more.lock in
    ap (after_answers one.answers) (all_obeyed_push kind commands command one.lock)
    ∙ ap (λ (answers : List Answer). let o : Outcome = record { answers = answers; lock = last.lock } in o) (sym (append_assoc one.answers more.answers last.answers))

-- what comes of the first commands
abbrev so_far : Kind → List ScriptCommand → ℕ → Outcome
so_far kind commands i = all_obeyed kind (take i commands) free_lock

-- and of one more
so_far_more : (kind : Kind) (commands : List ScriptCommand) (i : ℕ) (d : ScriptCommand) → i < length commands
    → so_far kind commands (i + 1) ≡ after_answers (so_far kind commands i).answers (obeyed kind (get_or commands i d) (so_far kind commands i).lock)
so_far_more kind commands i d inside =
    ap (λ cs. all_obeyed kind cs free_lock) (take_more commands i d inside) ∙ all_obeyed_push kind (take i commands) (get_or commands i d) free_lock

-- the text of answers, one after another
pub text_of-append : (xs ys : List Answer) → text_of (xs ++ ys) ≡ text_of xs ++ text_of ys
text_of-append xs ys = flat_map-append (λ answer. answer_text answer ++ 10 ∷ []) xs ys

-- a command that a book obeys adds its answers to what was told
pub told_so_far : (kind : Kind) (commands : List ScriptCommand) (i : ℕ) (d : ScriptCommand) (lists : BookView) (text told : List ℕ)
    → i < length commands → lock_kind lists ≡ kind → lock_of lists ≡ (so_far kind commands i).lock → text ≡ text_of (so_far kind commands i).answers
    → told ≡ text ++ text_of (obeyed (lock_kind lists) (get_or commands i d) (lock_of lists)).answers
    → told ≡ text_of (so_far kind commands (i + 1)).answers
told_so_far kind commands i d lists text told inside same left before line =
    let so = so_far kind commands i in
    let last = obeyed kind (get_or commands i d) so.lock in
    let command = get_or commands i d in
    let e : told ≡ text_of so.answers ++ text_of last.answers =
    line ∙ ap (λ t. t ++ text_of (obeyed (lock_kind lists) command (lock_of lists)).answers) before
    ∙ ap (λ k. text_of so.answers ++ text_of (obeyed k command (lock_of lists)).answers) same
    ∙ ap (λ l. text_of so.answers ++ text_of (obeyed kind command l).answers) left in
    e ∙ sym (text_of-append so.answers last.answers) ∙ ap (λ o. text_of o.answers) (sym (so_far_more kind commands i d inside))

-- and leaves the lock that it leaves
pub left_so_far : (kind : Kind) (commands : List ScriptCommand) (i : ℕ) (d : ScriptCommand) (lists : BookView) (next : Lock)
    → i < length commands → lock_kind lists ≡ kind → lock_of lists ≡ (so_far kind commands i).lock
    → next ≡ (obeyed (lock_kind lists) (get_or commands i d) (lock_of lists)).lock
    → next ≡ (so_far kind commands (i + 1)).lock
left_so_far kind commands i d lists next inside same left is =
    let so = so_far kind commands i in
    let command = get_or commands i d in
    let e : next ≡ (obeyed kind command so.lock).lock =
    is ∙ ap (λ k. (obeyed k command (lock_of lists)).lock) same ∙ ap (λ l. (obeyed kind command l).lock) left in
    e ∙ ap (λ o. o.lock) (sym (so_far_more kind commands i d inside))
