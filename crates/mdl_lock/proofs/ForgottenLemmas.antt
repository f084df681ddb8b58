-- No ticket is left waiting, after a command, whose wish could be granted.
use Rattle.std.proofs.Common.{◌≡◌, ℕ, zero, suc, ◌+◌, ◌≤◌, Bool, true, false, cond, List, [], ◌∷◌, ◌++◌, length, take, Option, Some, None, Result, Ok, Err, IfSome, refl, arith, add-one}
use Rattle.std.specs.List.{find, position_or_len}
use Rattle.std.proofs.lemmas.Bool.{cond_both}
use Rattle.std.proofs.lemmas.Bool.Decides.{nat_tests}
use Rattle.std.proofs.lemmas.List.Edits.{length-remove}
use Rattle.std.proofs.lemmas.List.Elements.{All-nil, All-push, All-weaker}
use Rattle.std.proofs.lemmas.List.Folds.{list_all-append}
use Rattle.mdl_key.specs.declared.namespace.Kind.{Kind}
use Rattle.mdl_key.specs.declared.mode.Mode.{Mode}
use Rattle.mdl_book.specs.declared.ticket.Ticket.{Ticket}
use Rattle.mdl_book.specs.Granting.{stands_beside, overtakes}
use Rattle.mdl_book.specs.Tickets.{is_ticket, without}
use Rattle.mdl_lock.specs.declared.answer.Answer.TheVariants.{Granted, Waits, Refused}
use Rattle.mdl_lock.specs.declared.script_command.Action.{Action}
use Rattle.mdl_lock.specs.declared.script_command.Action.TheVariants.{Ask, Release, Timeout}
use Rattle.mdl_lock.specs.declared.script_command.ScriptCommand.{ScriptCommand}
use Rattle.mdl_lines.specs.declared.fault.LineError.{LineError}
use Rattle.mdl_lock.specs.Scripts.{parsed}
use Rattle.mdl_lock.specs.Output.{ForgetsNobody, ForgetsNobodyThroughout, NeverForgets}
use Rattle.mdl_lock.proofs.FindLemmas.{find-none, place_inside}
use Rattle.mdl_lock.specs.Answers.{Lock, Outcome, free_lock, new_ticket, holds_or_waits, grantable_in, asked, next_waiter, admitted, granted_then, grants_at_most, released, timed_out, outcome_of, obeyed, all_obeyed}

-- without a ticket that is found, one less is left
length-without : (p : Ticket → Bool) (tickets : List Ticket) (ticket : Ticket) → find p tickets ≡ Some ticket
    → length (without ticket.session ticket.number tickets) + 1 ≡ length tickets
length-without p tickets ticket found =
    let test = is_ticket ticket.session ticket.number in
    let itself : test ticket ≡ true = grind (arith, nat_tests) in
    let place : ℕ = position_or_len test tickets in
    rw (add-one place) (length-remove tickets place (place_inside p test tickets ticket found itself))

-- what can't be granted can't be once one more ticket is granted
ungrantable-granted : (kind : Kind) (lock : Lock) (new : Ticket) (session : ℕ) (mode : Mode) → grantable_in kind lock session mode ≡ false
    → grantable_in kind (record lock { granted = lock.granted ++ new ∷ [] }) session mode ≡ false
ungrantable-granted kind lock new session mode not_yet = rw (list_all-append (stands_beside kind session mode) lock.granted (new ∷ [])) (grind arith)

-- or once one more ticket waits
ungrantable-waiting : (kind : Kind) (lock : Lock) (new : Ticket) (session : ℕ) (mode : Mode) → grantable_in kind lock session mode ≡ false
    → grantable_in kind (record lock { waiting = lock.waiting ++ new ∷ [] }) session mode ≡ false
ungrantable-waiting kind lock new session mode not_yet = rw (list_all-append (overtakes kind session mode) lock.waiting (new ∷ [])) (grind arith)

-- where a waiter is granted and the rest forgets nobody, nobody is forgotten, nor where there is none to grant
granted_then-forgets_nobody : (kind : Kind) (n : ℕ) (next : Option Ticket) (rest : Lock → Outcome) (lock : Lock)
    → ((l : Lock) → length l.waiting ≤ n → ForgetsNobody kind (rest l).lock)
    → next_waiter kind lock ≡ next → length lock.waiting ≤ suc n → ForgetsNobody kind (granted_then next rest lock).lock
granted_then-forgets_nobody kind n None rest lock ends is enough = find-none (λ t. grantable_in kind lock t.session t.mode) lock.waiting is
granted_then-forgets_nobody kind n (Some ticket) rest lock ends is enough =
    let fewer = length-without (λ t. grantable_in kind lock t.session t.mode) lock.waiting ticket is in ends (admitted ticket lock) (omega arith)

-- as many turns as there are waiters are enough
grants-forget_nobody : (kind : Kind) (n : ℕ) (lock : Lock) → length lock.waiting ≤ n → ForgetsNobody kind (grants_at_most kind n lock).lock
grants-forget_nobody kind zero lock enough = λ k d inside. absurd (omega arith)
grants-forget_nobody kind (suc n) lock enough = granted_then-forgets_nobody kind n (next_waiter kind lock) (grants_at_most kind n) lock (grants-forget_nobody kind n) refl enough

-- a ticket more, granted or waiting, makes no wish grantable
asked-forgets_nobody : (kind : Kind) (session : ℕ) (mode : Mode) (lock : Lock) → ForgetsNobody kind lock → ForgetsNobody kind (asked kind session mode lock).lock
asked-forgets_nobody kind session mode lock nobody =
    let ticket = new_ticket session mode in
    let more_granted : Lock = record lock { granted = lock.granted ++ ticket ∷ [] } in
    let more_waiting : Lock = record lock { waiting = lock.waiting ++ ticket ∷ [] } in
    let refused : Outcome = record { answers = Refused session ∷ []; lock = lock } in
    let granted : Outcome = record { answers = Granted session mode ∷ []; lock = more_granted } in
    let waits : Outcome = record { answers = Waits session mode ∷ []; lock = more_waiting } in
    let grantable = grantable_in kind lock session mode in
    let P = λ (outcome : Outcome). ForgetsNobody kind outcome.lock in
    let Left = λ (t : Ticket). grantable_in kind lock t.session t.mode ≡ false in
    let WhenGranted = λ (t : Ticket). grantable_in kind more_granted t.session t.mode ≡ false in
    let WhenWaiting = λ (t : Ticket). grantable_in kind more_waiting t.session t.mode ≡ false in
    cond_both (holds_or_waits session lock) refused (cond grantable granted waits) P (λ _. nobody)
    (λ _. cond_both grantable granted waits P
    (λ _. All-weaker Left WhenGranted (λ t. ungrantable-granted kind lock ticket t.session t.mode) lock.waiting nobody)
    (λ not_yet. All-push WhenWaiting lock.waiting ticket
    (All-weaker Left WhenWaiting (λ t. ungrantable-waiting kind lock ticket t.session t.mode) lock.waiting nobody)
    (ungrantable-waiting kind lock ticket session mode not_yet)))

-- once a ticket is gone, all are granted that can be
released-forgets_nobody : (kind : Kind) (session : ℕ) (held : Option Ticket) (lock : Lock) → ForgetsNobody kind lock → ForgetsNobody kind (released kind session held lock).lock
released-forgets_nobody kind session None lock nobody = nobody
released-forgets_nobody kind session (Some ticket) lock nobody =
    let left : Lock = record lock { granted = without session 1 lock.granted } in grants-forget_nobody kind (length left.waiting) left (omega arith)

timed_out-forgets_nobody : (kind : Kind) (session : ℕ) (waited : Option Ticket) (lock : Lock) → ForgetsNobody kind lock → ForgetsNobody kind (timed_out kind session waited lock).lock
timed_out-forgets_nobody kind session None lock nobody = nobody
timed_out-forgets_nobody kind session (Some ticket) lock nobody =
    let left : Lock = record lock { waiting = without session 1 lock.waiting } in grants-forget_nobody kind (length left.waiting) left (omega arith)

outcome-forgets_nobody : (kind : Kind) (session : ℕ) (action : Action) (lock : Lock) → ForgetsNobody kind lock → ForgetsNobody kind (outcome_of kind session action lock).lock
outcome-forgets_nobody kind session (Ask mode) lock nobody = asked-forgets_nobody kind session mode lock nobody
outcome-forgets_nobody kind session Release lock nobody = released-forgets_nobody kind session _ lock nobody
outcome-forgets_nobody kind session Timeout lock nobody = timed_out-forgets_nobody kind session _ lock nobody

all_obeyed-forgets_nobody : (kind : Kind) (commands : List ScriptCommand) (lock : Lock) → ForgetsNobody kind lock → ForgetsNobody kind (all_obeyed kind commands lock).lock
all_obeyed-forgets_nobody kind [] lock nobody = nobody
all_obeyed-forgets_nobody kind (command ∷ commands) lock nobody =
    all_obeyed-forgets_nobody kind commands (obeyed kind command lock).lock (outcome-forgets_nobody kind command.session command.action lock nobody)

pub forgets_nobody_throughout : (kind : Kind) (commands : List ScriptCommand) → ForgetsNobodyThroughout kind commands
forgets_nobody_throughout kind commands n = all_obeyed-forgets_nobody kind (take n commands) free_lock (All-nil _)

pub never_forgets : (kind : Kind) (script : Result (List ScriptCommand) (ℕ × LineError)) → NeverForgets kind script
never_forgets kind (Ok commands) = forgets_nobody_throughout kind commands
never_forgets kind (Err refusal) = tt

-- of an input that may not be known
pub never_forgets_if : (kind : Kind) (input : Option (List ℕ)) → IfSome input (λ text. NeverForgets kind (parsed kind text))
never_forgets_if kind None = tt
never_forgets_if kind (Some text) = never_forgets kind (parsed kind text)
