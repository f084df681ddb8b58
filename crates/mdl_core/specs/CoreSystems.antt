-- The system of locks that a lock space of one thread represents.
use Rattle.std.specs.Prelude.{ℕ, ◌+◌, List, [], ◌∷◌, ◌++◌, map, flat_map, Option, Some, None}
use Rattle.std.specs.Option.{option_to_list}
use Rattle.mdl_key.specs.Keys.{KeyName}
use Rattle.mdl_book.specs.declared.book_view.BookView.{BookView}
use Rattle.mdl_book.specs.declared.ticket.Ticket.{Ticket}
use Rattle.mdl_book.specs.Books.{empty_book}
use Rattle.mdl_defs.specs.declared.change.Change.{Change}
use Rattle.mdl_defs.specs.declared.definition.Definition.{Definition}
use Rattle.mdl_defs.specs.VersionedDefinitions.{applied}
use Rattle.mdl_calls.specs.declared.answers.Settled.{Settled}
use Rattle.mdl_calls.specs.declared.answers.Settled.TheVariants as settled_as
use Rattle.mdl_core.specs.declared.pending.Pending.{Pending}
use Rattle.mdl_system.specs.Words.{of_lock, WaitState, Unsettled, Victim, TimedOut, Killed, Holding, Waiter, GrantedWait, System, Versioned}
use Rattle.mdl_core.specs.Cores.{Core, index_of, seat_at, book_at}
use Rattle.mdl_core.specs.Seats.{SeatView}

-- the granted tickets of a lock, as holdings
abbrev pub granted_in : BookView → List Holding
granted_in book = map (of_lock book.key) book.granted

-- the book of a key that has this index, or an empty one if it has none
abbrev pub book_found : KeyName → Option ℕ → Core → BookView
book_found key None core = empty_book key
book_found key (Some index) core = book_at (index + 1) core

-- the book of a key, which is empty if the key has no place
abbrev pub book_of : KeyName → Core → BookView
book_of key core = book_found key (index_of key core.books) core

-- the state of a wait whose ticket still waits
abbrev pub wait_state_of : Option Settled → WaitState
wait_state_of (Some settled_as.Victim) = Victim
wait_state_of (Some settled_as.Timeout) = TimedOut
wait_state_of (Some settled_as.Killed) = Killed
wait_state_of _ = Unsettled

-- the waiter of a waiting ticket and the wait of its session
abbrev pub system_waiter : Ticket → Option Pending → Waiter
system_waiter ticket None = record { ticket = ticket; wait = 0; state = Unsettled }
system_waiter ticket (Some wait) = record { ticket = ticket; wait = wait.number; state = wait_state_of wait.settled }

-- the waiter of a waiting ticket
abbrev pub waiter_in : Core → Ticket → Waiter
waiter_in core ticket = system_waiter ticket (seat_at ticket.session core).wait

-- a session's wait that is granted and not ended
abbrev pub unended_at : ℕ → Pending → Option Settled → Option GrantedWait
unended_at who wait (Some settled_as.Granted) = Some (record { session = who; wait = wait.number; ticket = wait.id })
unended_at who wait _ = None

-- a session's wait, if it has one that is granted and not ended
abbrev pub unended_of : ℕ → Option Pending → Option GrantedWait
unended_of who None = None
unended_of who (Some wait) = unended_at who wait wait.settled

-- the waits that are granted and not ended, of the sessions from this number on
abbrev pub unended_from : ℕ → List SeatView → List GrantedWait
unended_from who [] = []
unended_from who (seat ∷ seats) = option_to_list (unended_of who seat.wait) ++ unended_from (who + 1) seats

-- the version and the definition of a book's key
abbrev pub defined_in : BookView → Versioned Definition
defined_in book = record { version = book.standing.version; definition = book.standing.definition }

-- the definition that a key has after a change, if the change can be made
abbrev pub applies : KeyName → Change → Option Definition → Option (Option Definition)
applies key change standing = applied key.namespace change standing

-- the system of locks
abbrev pub system_of : Core → System Definition
system_of core = record {
  granted = flat_map granted_in core.books;
  waiting = λ key. map (waiter_in core) (book_of key core).waiting;
  unended = unended_from 1 core.seats;
  definitions = λ key. defined_in (book_of key core);
}
