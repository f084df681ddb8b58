-- How a session releases tickets, after MySQL 5.7: `MDL_context::release_lock`, `release_all_locks_for_name`,
-- `rollback_to_savepoint`, `release_statement_locks`, `release_transactional_locks` and `release_explicit_locks` of sql/mdl.cc. As there,
-- the tickets of each duration are released from the newest to the oldest. Two things are this project's own choice. The tickets of a
-- key are released whatever their duration. All refusals are its own.
use Rattle.std.specs.Prelude.{ℕ, List, [], ◌∷◌, ◌++◌, filter, not, Option, Some, None, is_some, Ok, Err, if◌then◌else◌}
use Rattle.mdl_key.specs.declared.mode.Duration.TheVariants.{Explicit}
use Rattle.mdl_key.specs.Keys.{KeyName}
use Rattle.mdl_calls.specs.Words.{Release, Program, Give, Ask, ◌>>◌}
use Rattle.mdl_context.specs.declared.context_error.ContextError.{ContextError}
use Rattle.mdl_context.specs.declared.context_error.ContextError.TheVariants.{StaleSavepoint, NotHeld, Waiting}
use Rattle.mdl_context.specs.declared.kept.Kept.{Kept}
use Rattle.mdl_context.specs.declared.request.Mark.{Mark}
use Rattle.mdl_context.specs.Contexts.{ContextView, is_stale, beyond_mark, newest_first, of_statement, of_transaction, has_number, tickets_for, without_tickets, place_known}
use Rattle.mdl_context.specs.Holdings.{is_kept_at, without_number}
use Rattle.mdl_context.specs.Requests.{Outcome}
use Rattle.mdl_context.specs.Tidying.{tidying}

-- the program that releases tickets, one after the other
abbrev pub releasing_all : ℕ → List Kept → Program (Unit {0})
releasing_all who [] = Give tt
releasing_all who (ticket ∷ tickets) = Ask (Release who ticket.id) (λ _. releasing_all who tickets)

-- the program by which a context releases tickets, keeps the others, and lets go of the places where it has nothing
abbrev pub releasing_tickets : List Kept → ContextView → Program (Outcome (Unit {0}))
releasing_tickets gone context = releasing_all context.who gone >> tidying (Ok tt, record context { kept = without_tickets gone context.kept })

-- a program, or if there is a fault, a refusal for it
abbrev pub unless : {A : Type 0} → Option ContextError → ContextView → Program (Outcome A) → Program (Outcome A)
unless (Some fault) context program = Give (Err fault, context)
unless None context program = program

-- why a call that a waiting context can't make is refused, if the context waits
abbrev pub waiting_fault : ContextView → Option ContextError
waiting_fault context = if is_some context.wait then Some Waiting else None

-- why a ticket can't be released, if it can't
abbrev pub release_fault : ℕ → ContextView → Option ContextError
release_fault id context = if not (has_number context.kept id) then Some NotHeld else waiting_fault context

-- why the session can't go back to a mark, if it can't
abbrev pub rollback_fault : Mark → ContextView → Option ContextError
rollback_fault mark context = if is_stale mark context.kept then Some StaleSavepoint else waiting_fault context

-- the program that releases one ticket, and lets go of the places where the context has nothing
abbrev pub releasing : ℕ → ContextView → Program (Outcome (Unit {0}))
releasing id context =
    unless (release_fault id context) context
    (Ask (Release context.who id) (λ _. tidying (Ok tt, record context { kept = without_number id context.kept })))

-- the tickets at the place of a key, none if the place isn't known
abbrev pub at_known_place : Option ℕ → List Kept → List Kept
at_known_place None kept = []
at_known_place (Some place) kept = filter (is_kept_at place) kept

-- the program that releases all tickets of a key, the newest first
abbrev pub releasing_name : KeyName → ContextView → Program (Outcome (Unit {0}))
releasing_name key context =
    unless (waiting_fault context) context (releasing_tickets (newest_first (at_known_place (place_known key context.known) context.kept)) context)

-- the program that goes back to a mark
abbrev pub rolling_back : Mark → ContextView → Program (Outcome (Unit {0}))
rolling_back mark context = unless (rollback_fault mark context) context (releasing_tickets (beyond_mark mark context.kept) context)

-- the program that ends a statement
abbrev pub ending_statement : ContextView → Program (Outcome (Unit {0}))
ending_statement context = unless (waiting_fault context) context (releasing_tickets (of_statement context.kept) context)

-- the program that ends a transaction
abbrev pub ending_transaction : ContextView → Program (Outcome (Unit {0}))
ending_transaction context = unless (waiting_fault context) context (releasing_tickets (of_transaction context.kept) context)

-- the program that releases the explicit tickets, the newest first
abbrev pub ending_explicit : ContextView → Program (Outcome (Unit {0}))
ending_explicit context =
    unless (waiting_fault context) context (releasing_tickets (newest_first (tickets_for Explicit context.kept)) context)

-- the program that releases all tickets: those that end with the transaction first, and then the explicit ones, the newest first
abbrev pub giving_up_all : ContextView → Program (Outcome (Unit {0}))
giving_up_all context = releasing_tickets (of_transaction context.kept ++ newest_first (tickets_for Explicit context.kept)) context
