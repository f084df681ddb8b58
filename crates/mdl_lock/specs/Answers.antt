-- What a lock answers to the commands of sessions, over one list of granted and one list of waiting tickets, after MySQL
-- 5.7: the Reference Manual, "Metadata Locking", and `MDL_lock::reschedule_waiters` of sql/mdl.cc. A session has one ticket
-- or one wait at most, so each ticket has the number 1. A book is left out on purpose: these lists are all that there is.
use Rattle.std.specs.Prelude.{ℕ, zero, suc, Bool, ◌||◌, List, [], ◌∷◌, ◌++◌, length, Option, Some, None, find, if◌then◌else◌}
use Rattle.std.specs.List.{list_any}
use Rattle.mdl_key.specs.declared.namespace.Kind.{Kind}
use Rattle.mdl_key.specs.declared.mode.Mode.{Mode}
use Rattle.mdl_book.specs.declared.ticket.Ticket.{Ticket}
use Rattle.mdl_book.specs.Granting.{is_grantable}
use Rattle.mdl_book.specs.Tickets.{is_ticket, ticket_of, without}
use Rattle.mdl_lock.specs.declared.script_command.Action.{Action}
use Rattle.mdl_lock.specs.declared.script_command.Action.TheVariants.{Ask, Release, Timeout}
use Rattle.mdl_lock.specs.declared.script_command.ScriptCommand.{ScriptCommand}
use Rattle.mdl_lock.specs.declared.answer.Answer.{Answer}
use Rattle.mdl_lock.specs.declared.answer.Answer.TheVariants.{Granted, Waits, Released, TimedOut, Refused}

-- a lock: its granted tickets, and its waiting ones in order of arrival
pub record Lock : Type 0 where
  pub granted : List Ticket
  pub waiting : List Ticket

-- a lock that no session holds or waits for
abbrev pub free_lock : Lock
free_lock = record { granted = []; waiting = [] }

-- what a lock answers, and the lock that is left
pub record Outcome : Type 0 where
  pub answers : List Answer
  pub lock : Lock

-- the lock gives no answer
abbrev pub silent : Lock → Outcome
silent lock = record { answers = []; lock = lock }

-- these answers, and then those of an outcome
abbrev pub after_answers : List Answer → Outcome → Outcome
after_answers answers outcome = record { answers = answers ++ outcome.answers; lock = outcome.lock }

-- the one ticket of a session
abbrev pub new_ticket : ℕ → Mode → Ticket
new_ticket session mode = record { session = session; number = 1; mode = mode }

abbrev pub holds_or_waits : ℕ → Lock → Bool
holds_or_waits session lock = list_any (is_ticket session 1) lock.granted || list_any (is_ticket session 1) lock.waiting

-- whether a session's request for a mode can be granted
abbrev pub grantable_in : Kind → Lock → ℕ → Mode → Bool
grantable_in kind lock session mode = is_grantable kind lock.granted lock.waiting session mode

-- a session requests a mode: refused if it holds or waits, otherwise granted at once or appended to those that wait
abbrev pub asked : Kind → ℕ → Mode → Lock → Outcome
asked kind session mode lock =
    if holds_or_waits session lock then record { answers = Refused session ∷ []; lock = lock }
    else (if grantable_in kind lock session mode
    then record { answers = Granted session mode ∷ []; lock = record lock { granted = lock.granted ++ new_ticket session mode ∷ [] } }
    else record { answers = Waits session mode ∷ []; lock = record lock { waiting = lock.waiting ++ new_ticket session mode ∷ [] } })

-- the first waiting ticket, in order of arrival, that can be granted
abbrev pub next_waiter : Kind → Lock → Option Ticket
next_waiter kind lock = find (λ ticket. grantable_in kind lock ticket.session ticket.mode) lock.waiting

-- the lock with a waiting ticket granted
abbrev pub admitted : Ticket → Lock → Lock
admitted ticket lock = record { granted = lock.granted ++ ticket ∷ []; waiting = without ticket.session ticket.number lock.waiting }

-- a waiter is granted, if there is one to grant, and then the rest follows
abbrev pub granted_then : Option Ticket → (Lock → Outcome) → Lock → Outcome
granted_then None rest lock = silent lock
granted_then (Some ticket) rest lock = after_answers (Granted ticket.session ticket.mode ∷ []) (rest (admitted ticket lock))

-- at most n waiters are granted, each time the first that can be
abbrev pub grants_at_most : Kind → ℕ → Lock → Outcome
grants_at_most kind zero = silent
grants_at_most kind (suc n) = λ lock. granted_then (next_waiter kind lock) (grants_at_most kind n) lock

-- after a ticket was removed: waiters are granted until none can be, for which as many turns as there are waiters are
-- enough
abbrev pub grants_until_none : Kind → Lock → Outcome
grants_until_none kind lock = grants_at_most kind (length lock.waiting) lock

-- a session releases the ticket that it holds
abbrev pub released : Kind → ℕ → Option Ticket → Lock → Outcome
released kind session None lock = record { answers = Refused session ∷ []; lock = lock }
released kind session (Some ticket) lock =
    after_answers (Released session ticket.mode ∷ []) (grants_until_none kind (record lock { granted = without session 1 lock.granted }))

-- a session stops waiting
abbrev pub timed_out : Kind → ℕ → Option Ticket → Lock → Outcome
timed_out kind session None lock = record { answers = Refused session ∷ []; lock = lock }
timed_out kind session (Some ticket) lock =
    after_answers (TimedOut session ticket.mode ∷ []) (grants_until_none kind (record lock { waiting = without session 1 lock.waiting }))

-- the outcome of a session's action
abbrev pub outcome_of : Kind → ℕ → Action → Lock → Outcome
outcome_of kind session (Ask mode) lock = asked kind session mode lock
outcome_of kind session Release lock = released kind session (ticket_of session 1 lock.granted) lock
outcome_of kind session Timeout lock = timed_out kind session (ticket_of session 1 lock.waiting) lock

-- the outcome of a command
abbrev pub obeyed : Kind → ScriptCommand → Lock → Outcome
obeyed kind command lock = outcome_of kind command.session command.action lock

-- the outcome of commands, executed in order
abbrev pub all_obeyed : Kind → List ScriptCommand → Lock → Outcome
all_obeyed kind [] lock = silent lock
all_obeyed kind (command ∷ commands) lock = after_answers (obeyed kind command lock).answers (all_obeyed kind commands (obeyed kind command lock).lock)
