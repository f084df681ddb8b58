-- The granted tickets of a lock are lawful after every command.
use Rattle.std.proofs.Common.{◌≡◌, ℕ, zero, suc, Bool, true, false, cond, List, [], ◌∷◌, ◌++◌, length, take, Option, Some, None, Result, Ok, Err, IfSome, refl}
use Rattle.mdl_key.specs.declared.namespace.Kind.{Kind}
use Rattle.mdl_key.specs.declared.mode.Mode.{Mode}
use Rattle.mdl_book.specs.declared.ticket.Ticket.{Ticket}
use Rattle.mdl_book.specs.Granting.{is_lawful}
use Rattle.mdl_book.specs.Tickets.{without}
use Rattle.mdl_book.proofs.GrantingLemmas.{lawful_push, lawful_without, compatible-from_grantable}
use Rattle.mdl_lock.specs.declared.answer.Answer.TheVariants.{Granted, Waits, Refused}
use Rattle.mdl_lock.specs.declared.script_command.Action.{Action}
use Rattle.mdl_lock.specs.declared.script_command.Action.TheVariants.{Ask, Release, Timeout}
use Rattle.mdl_lock.specs.declared.script_command.ScriptCommand.{ScriptCommand}
use Rattle.mdl_lines.specs.declared.fault.LineError.{LineError}
use Rattle.mdl_lock.specs.Scripts.{parsed}
use Rattle.mdl_lock.specs.Output.{IsLawfulThroughout, StaysLawful}
use Rattle.mdl_lock.proofs.FindLemmas.{find-passes}
use Rattle.mdl_lock.specs.Answers.{Lock, Outcome, free_lock, new_ticket, holds_or_waits, grantable_in, asked, next_waiter, admitted, granted_then, grants_at_most, released, timed_out, outcome_of, obeyed, all_obeyed}

abbrev IsLawfulLock : Kind → Lock → Type 0
IsLawfulLock kind lock = is_lawful kind lock.granted ≡ true

granted_then-lawful : (kind : Kind) (next : Option Ticket) (rest : Lock → Outcome) (lock : Lock)
    → ((l : Lock) → IsLawfulLock kind l → IsLawfulLock kind (rest l).lock)
    → next_waiter kind lock ≡ next → IsLawfulLock kind lock → IsLawfulLock kind (granted_then next rest lock).lock
granted_then-lawful kind None rest lock keeps is lawful = lawful
granted_then-lawful kind (Some ticket) rest lock keeps is lawful =
    let grantable = find-passes (λ t. grantable_in kind lock t.session t.mode) lock.waiting ticket is in
    keeps (admitted ticket lock) (lawful_push kind lock.granted ticket (compatible-from_grantable kind lock.granted lock.waiting ticket grantable) lawful)

grants-lawful : (kind : Kind) (n : ℕ) (lock : Lock) → IsLawfulLock kind lock → IsLawfulLock kind (grants_at_most kind n lock).lock
grants-lawful kind zero lock lawful = lawful
grants-lawful kind (suc n) lock lawful = granted_then-lawful kind (next_waiter kind lock) (grants_at_most kind n) lock (grants-lawful kind n) refl lawful

either-lawful : (kind : Kind) (b : Bool) (x y : Outcome) → (b ≡ true → IsLawfulLock kind x.lock) → (b ≡ false → IsLawfulLock kind y.lock) → IsLawfulLock kind (cond b x y).lock
either-lawful kind true x y one other = one refl
either-lawful kind false x y one other = other refl

asked-lawful : (kind : Kind) (session : ℕ) (mode : Mode) (lock : Lock) → IsLawfulLock kind lock → IsLawfulLock kind (asked kind session mode lock).lock
asked-lawful kind session mode lock lawful =
    let ticket = new_ticket session mode in
    let refused : Outcome = record { answers = Refused session ∷ []; lock = lock } in
    let granted : Outcome = record { answers = Granted session mode ∷ []; lock = record lock { granted = lock.granted ++ ticket ∷ [] } } in
    let waits : Outcome = record { answers = Waits session mode ∷ []; lock = record lock { waiting = lock.waiting ++ ticket ∷ [] } } in
    let grantable = grantable_in kind lock session mode in
    either-lawful kind (holds_or_waits session lock) refused (cond grantable granted waits) (λ _. lawful)
    (λ _. either-lawful kind grantable granted waits (λ can. lawful_push kind lock.granted ticket (compatible-from_grantable kind lock.granted lock.waiting ticket can) lawful) (λ _. lawful))

released-lawful : (kind : Kind) (session : ℕ) (held : Option Ticket) (lock : Lock) → IsLawfulLock kind lock → IsLawfulLock kind (released kind session held lock).lock
released-lawful kind session None lock lawful = lawful
released-lawful kind session (Some ticket) lock lawful =
    let left : Lock = record lock { granted = without session 1 lock.granted } in
    grants-lawful kind (length left.waiting) left (lawful_without kind session 1 lock.granted lawful)

timed_out-lawful : (kind : Kind) (session : ℕ) (waited : Option Ticket) (lock : Lock) → IsLawfulLock kind lock → IsLawfulLock kind (timed_out kind session waited lock).lock
timed_out-lawful kind session None lock lawful = lawful
timed_out-lawful kind session (Some ticket) lock lawful =
    let left : Lock = record lock { waiting = without session 1 lock.waiting } in grants-lawful kind (length left.waiting) left lawful

outcome-lawful : (kind : Kind) (session : ℕ) (action : Action) (lock : Lock) → IsLawfulLock kind lock → IsLawfulLock kind (outcome_of kind session action lock).lock
outcome-lawful kind session (Ask mode) lock lawful = asked-lawful kind session mode lock lawful
outcome-lawful kind session Release lock lawful = released-lawful kind session _ lock lawful
outcome-lawful kind session Timeout lock lawful = timed_out-lawful kind session _ lock lawful

pub all_obeyed-lawful : (kind : Kind) (commands : List ScriptCommand) (lock : Lock) → IsLawfulLock kind lock → IsLawfulLock kind (all_obeyed kind commands lock).lock
all_obeyed-lawful kind [] lock lawful = lawful
all_obeyed-lawful kind (command ∷ commands) lock lawful =
    all_obeyed-lawful kind commands (obeyed kind command lock).lock (outcome-lawful kind command.session command.action lock lawful)

pub lawful_throughout : (kind : Kind) (commands : List ScriptCommand) → IsLawfulThroughout kind commands
lawful_throughout kind commands n = all_obeyed-lawful kind (take n commands) free_lock refl

pub stays_lawful : (kind : Kind) (script : Result (List ScriptCommand) (ℕ × LineError)) → StaysLawful kind script
stays_lawful kind (Ok commands) = lawful_throughout kind commands
stays_lawful kind (Err refusal) = tt

-- of an input that may not be known
pub stays_lawful_if : (kind : Kind) (input : Option (List ℕ)) → IfSome input (λ text. StaysLawful kind (parsed kind text))
stays_lawful_if kind None = tt
stays_lawful_if kind (Some text) = stays_lawful kind (parsed kind text)
