-- What a call changes in the lock space of one thread: the seat of one session, and the book of one place.
use Rattle.std.specs.Prelude.{◌≡◌, ◌≢◌, ℕ, zero, suc, ◌+◌, Bool, true, false, ◌&&◌, [], ◌∷◌, ◌++◌, length, find, Option, Some, None, Contains}
use Rattle.mdl_key.specs.declared.mode.Mode.{Mode}
use Rattle.mdl_key.specs.declared.mode.Mode.TheVariants.{X}
use Rattle.mdl_key.specs.Words.{KeyName, is_mode_of}
use Rattle.mdl_book.specs.declared.book_view.BookView.{BookView}
use Rattle.mdl_book.specs.declared.ticket.Ticket.{Ticket}
use Rattle.mdl_book.specs.Books.{lock_kind, empty_book, granting, enqueueing, admitting, cancelling, removing, changing as changing_mode, redefining}
use Rattle.mdl_defs.specs.declared.change.Change.{Change as Redefinition}
use Rattle.mdl_defs.specs.VersionedDefinitions.{standing_fault}
use Rattle.mdl_calls.specs.declared.answers.Held.{Held}
use Rattle.mdl_calls.specs.declared.answers.Settled.{Settled}
use Rattle.mdl_calls.specs.declared.answers.Settled.TheVariants as settled_as
use Rattle.mdl_calls.specs.Words.{may_merge}
use Rattle.mdl_core.specs.declared.pending.Pending.{Pending}
use Rattle.mdl_core.specs.Seats.{SeatView, holding, without_ticket, beginning_wait, is_unsettled_wait, with_settled_wait, seat_without_wait, with_ticket_of, with_ticket_in}
use Rattle.mdl_core.specs.Cores.{Core, book_at, seat_at, has_key, has_pin, has_session, is_free_for, booking, seating}

-- ---- one change

-- a change for a session at a place
pub data Change : Type 0 where
  -- a new ticket in this mode is granted
  Gain : Mode → Change
  -- a held ticket is released
  Lose : Held → Change
  -- a wait begins, for a new ticket in this mode
  Queue : Mode → Change
  -- a waiting ticket is granted; its wait isn't ended yet
  Admit : Ticket → Change
  -- the wait is lost
  Settle : Settled → Change
  -- a lost wait ends
  Leave : Pending → Change
  -- a granted wait ends, and its ticket is held
  Take_up : Pending → Change
  -- a held ticket gets another mode
  Alter : Held → Mode → Change
  -- two held tickets become one: the first takes the mode of the second, which is removed
  Fold : Held → Held → Change
  -- the key's definition is changed, under a held ticket
  Redefine : Held → Redefinition → Change

-- the next ticket that a session of this seat gains or waits for
abbrev pub ticket_after : ℕ → Mode → SeatView → Ticket
ticket_after who mode seat = record { session = who; number = seat.last_ticket + 1; mode = mode }

-- the session's seat after a change
abbrev pub seat_after : ℕ → Change → SeatView → SeatView
seat_after place (Gain mode) seat = holding place mode seat
seat_after place (Lose ticket) seat = without_ticket ticket.id seat
seat_after place (Queue mode) seat = beginning_wait place mode seat
seat_after place (Admit ticket) seat = with_settled_wait settled_as.Granted seat
seat_after place (Settle how) seat = with_settled_wait how seat
seat_after place (Leave wait) seat = seat_without_wait seat
seat_after place (Take_up wait) seat = with_ticket_of wait seat
seat_after place (Alter ticket mode) seat = with_ticket_in ticket.id mode seat
seat_after place (Fold old new) seat = with_ticket_in old.id new.mode (without_ticket new.id seat)
seat_after place (Redefine ticket change) seat = seat

-- the place's book after a change
abbrev pub book_after : ℕ → SeatView → Change → BookView → BookView
book_after who seat (Gain mode) book = granting (ticket_after who mode seat) book
book_after who seat (Lose ticket) book = removing who ticket.id book
book_after who seat (Queue mode) book = enqueueing (ticket_after who mode seat) book
book_after who seat (Admit ticket) book = admitting ticket.session ticket.number book
book_after who seat (Settle how) book = book
book_after who seat (Leave wait) book = cancelling who wait.id book
book_after who seat (Take_up wait) book = book
book_after who seat (Alter ticket mode) book = changing_mode who ticket.id mode book
book_after who seat (Fold old new) book = changing_mode who old.id new.mode (removing who new.id book)
book_after who seat (Redefine ticket change) book = redefining change book

-- whether a change changes the book, too, and not only the seat
abbrev pub is_of_book : Change → Bool
is_of_book (Settle how) = false
is_of_book (Take_up wait) = false
is_of_book _ = true

-- the space with another book at a place, if the flag says so
abbrev pub booked_if : Bool → ℕ → BookView → Core → Core
booked_if true place book core = booking place book core
booked_if false place book core = core

-- the space after a change
abbrev pub after_change : ℕ → ℕ → Change → Core → Core
after_change who place change core =
    booked_if (is_of_book change) place (book_after who (seat_at who core) change (book_at place core))
    (seating who (seat_after place change (seat_at who core)) core)

-- what a change requires of the session's seat and of the place's book
abbrev pub Allows : ℕ → ℕ → Change → SeatView → BookView → Type 0
Allows who place (Gain mode) seat book = (seat.wait ≡ None) × (is_mode_of (lock_kind book) mode ≡ true)
Allows who place (Lose ticket) seat book = Contains seat.held ticket × (ticket.place ≡ place)
Allows who place (Queue mode) seat book = (seat.wait ≡ None) × (is_mode_of (lock_kind book) mode ≡ true)
Allows who place (Admit ticket) seat book =
    Contains book.waiting ticket × (ticket.session ≡ who) × ((wait : Pending) × (seat.wait ≡ Some wait) × (wait.settled ≡ None))
Allows who place (Settle how) seat book =
    ((wait : Pending) × (seat.wait ≡ Some wait) × (wait.settled ≡ None) × (wait.place ≡ place)) × (how ≢ settled_as.Granted)
Allows who place (Leave wait) seat book = (seat.wait ≡ Some wait) × (wait.settled ≢ Some settled_as.Granted) × (wait.place ≡ place)
Allows who place (Take_up wait) seat book = (seat.wait ≡ Some wait) × (wait.settled ≡ Some settled_as.Granted) × (wait.place ≡ place)
Allows who place (Alter ticket mode) seat book =
    Contains seat.held ticket × (ticket.place ≡ place) × (is_mode_of (lock_kind book) mode ≡ true)
Allows who place (Fold old new) seat book =
    (seat.wait ≡ None) × Contains seat.held old × Contains seat.held new
    × (old.place ≡ place) × (new.place ≡ place) × (may_merge old new ≡ true)
Allows who place (Redefine ticket change) seat book =
    Contains seat.held ticket × (ticket.place ≡ place) × (ticket.mode ≡ X)
    × (standing_fault book.key.namespace change book.standing ≡ None)

-- a change may be made: there are such a session and such a place, the session pins the place, and the seat and the book are as the
-- change requires
pub record May (who place : ℕ) (change : Change) (core : Core) : Type 0 where
  pub session : has_session who core ≡ true
  pub key : has_key place core ≡ true
  pub pin : has_pin who place core ≡ true
  pub allows : Allows who place change (seat_at who core) (book_at place core)

-- ---- each change by its name

-- the next ticket that a session gains or waits for
abbrev pub next_ticket : ℕ → Mode → Core → Ticket
next_ticket who mode core = ticket_after who mode (seat_at who core)

-- the space with the next place given to a key, as one is left that has none
abbrev pub opening : KeyName → Core → Core
opening key core = record core { books = core.books ++ empty_book key ∷ [] }

-- the space with a lock granted to a session
abbrev pub granting_to : ℕ → ℕ → Mode → Core → Core
granting_to who place mode core = after_change who place (Gain mode) core

-- the space in which a session has begun to wait for a lock
abbrev pub queueing : ℕ → ℕ → Mode → Core → Core
queueing who place mode core = after_change who place (Queue mode) core

-- the space in which a session's wait is settled, as lost
abbrev pub losing : ℕ → Settled → Core → Core
losing who how core = seating who (with_settled_wait how (seat_at who core)) core

-- the space in which a session has ended its granted wait, and holds the ticket
abbrev pub ending_granted : ℕ → Pending → Core → Core
ending_granted who wait core = after_change who wait.place (Take_up wait) core

-- the space in which a session has ended its lost wait: its ticket is no longer among the waiting ones
abbrev pub ending_lost : ℕ → Pending → Core → Core
ending_lost who wait core = after_change who wait.place (Leave wait) core

-- the space in which a session has released a ticket
abbrev pub freeing : ℕ → Held → Core → Core
freeing who ticket core = after_change who ticket.place (Lose ticket) core

-- the space in which a session's ticket has got another mode
abbrev pub altering : ℕ → Held → Mode → Core → Core
altering who ticket mode core = after_change who ticket.place (Alter ticket mode) core

-- the space in which the first of a session's two tickets has got the mode of the second, which is removed
abbrev pub folding : ℕ → Held → Held → Core → Core
folding who old new core = after_change who old.place (Fold old new) core

-- the space with the definition of a place's key changed
abbrev pub redefining_at : ℕ → Redefinition → Core → Core
redefining_at place change core = booking place (redefining change (book_at place core)) core

-- ---- waiters

-- the space with a waiting ticket granted to its session, which hasn't ended its wait yet
abbrev pub admitting_at : ℕ → Ticket → Core → Core
admitting_at place ticket core = after_change ticket.session place (Admit ticket) core

-- whether a session has an unsettled wait
abbrev pub has_unsettled_wait : ℕ → Core → Bool
has_unsettled_wait who core = has_session who core && is_unsettled_wait (seat_at who core).wait

-- whether a waiting ticket's wait is unsettled and the ticket can be granted
abbrev pub is_ready_waiter : ℕ → Core → Ticket → Bool
is_ready_waiter place core ticket = has_unsettled_wait ticket.session core && is_free_for ticket.session place ticket.mode core

-- the first waiting ticket, in order of arrival, whose wait is unsettled and that can be granted
abbrev pub next_ready : ℕ → Core → Option Ticket
next_ready place core = find (is_ready_waiter place core) (book_at place core).waiting

-- the space with this waiting ticket granted, if there is one
abbrev pub admitting_if : ℕ → Option Ticket → Core → Core
admitting_if place None core = core
admitting_if place (Some ticket) core = admitting_at place ticket core

-- the space after up to this number of grants at a place, each of the first ticket that can be granted
unfoldable pub admitting_up_to : ℕ → ℕ → Core → Core
admitting_up_to zero place core = core
admitting_up_to (suc more) place core = admitting_up_to more place (admitting_if place (next_ready place core) core)

-- the space with the place served: waiters are granted, each time the first that can be granted, until there is none
abbrev pub serving : ℕ → Core → Core
serving place core = admitting_up_to (length (book_at place core).waiting) place core
