-- What always holds in the lock space of one thread: the books and the seats agree on the tickets and waits, each key's version and
-- definition are valid for it, the space's system of locks is lawful, and no waiter is forgotten in it.
use Rattle.std.specs.Prelude.{◌≡◌, ◌≢◌, ◌⊎◌, ◌↔◌, ℕ, ◌<◌, ◌≤◌, true, Some, MatchOption, Contains, AllPairs, IsTrue}
use Rattle.mdl_key.specs.Modes.{is_mode_of}
use Rattle.mdl_book.specs.declared.ticket.Ticket.{Ticket}
use Rattle.mdl_book.specs.Books.{lock_kind}
use Rattle.mdl_book.specs.Tickets.{ticket_id}
use Rattle.mdl_calls.specs.declared.answers.Held.{Held}
use Rattle.mdl_calls.specs.declared.answers.Settled.TheVariants as settled_as
use Rattle.mdl_core.specs.declared.pending.Pending.{Pending}
use Rattle.mdl_defs.specs.VersionedDefinitions.{MayStand}
use Rattle.mdl_core.specs.Cores.{Core, book_at, seat_at, key_at, standing_at, has_key, has_pin, has_session}
use Rattle.mdl_core.specs.CoreSystems.{system_of}
use Rattle.mdl_calls.specs.SessionLocks.{IsRising, are_rising_places}
use Rattle.mdl_core.specs.Seats.{SeatView, locks_of_seat, ticket_of_wait}
use Rattle.mdl_system.specs.Systems.{IsLawful, NoneForgotten}

-- a session has a granted ticket: it holds the ticket, or its wait for the ticket is granted and not ended
abbrev pub HasGrantedTicket : SeatView → Held → Type 0
HasGrantedTicket seat ticket =
    Contains seat.held ticket
    ⊎ MatchOption seat.wait ⊥ (λ (wait : Pending). (wait.settled ≡ Some settled_as.Granted) × (ticket ≡ ticket_of_wait wait))

-- a session has a waiting ticket: its wait isn't granted
abbrev pub Awaits : SeatView → Held → Type 0
Awaits seat ticket = MatchOption seat.wait ⊥ (λ (wait : Pending). (wait.settled ≢ Some settled_as.Granted) × (ticket ≡ ticket_of_wait wait))

-- the ticket of a session as it is in a book
abbrev pub in_book_of : ℕ → Held → Ticket
in_book_of who ticket = record { session = who; number = ticket.id; mode = ticket.mode }

-- the numbers of a session's tickets and waits: those of held tickets rise, none is above the last number given, and the ticket of
-- a wait has the last one, which is above those of the held tickets
pub record HasRisingNumbers (seat : SeatView) : Type 0 where
  pub rising : IsRising (locks_of_seat seat)
  pub held : (ticket : Held) → Contains seat.held ticket → ticket.id ≤ seat.last_ticket
  pub wait : MatchOption seat.wait (Unit {0}) (λ (wait : Pending).
      (wait.id ≡ seat.last_ticket) × (wait.number ≤ seat.last_wait) × ((ticket : Held) → Contains seat.held ticket → ticket.id < wait.id))

-- the books and the seats agree
pub record IsTied (core : Core) : Type 0 where
  -- different places have different keys
  pub keys : (one other : ℕ) → has_key one core ≡ true → has_key other core ≡ true → key_at one core ≡ key_at other core → one ≡ other
  -- each ticket in a book is a session's, in a mode of the lock's kind
  pub granted_by : (place : ℕ) → has_key place core ≡ true → (ticket : Ticket) → Contains (book_at place core).granted ticket
      → (has_session ticket.session core ≡ true) × IsTrue (is_mode_of (lock_kind (book_at place core)) ticket.mode)
  pub waiting_by : (place : ℕ) → has_key place core ≡ true → (ticket : Ticket) → Contains (book_at place core).waiting ticket
      → (has_session ticket.session core ≡ true) × IsTrue (is_mode_of (lock_kind (book_at place core)) ticket.mode)
  -- the granted tickets are those that sessions have, and the waiting ones those that they wait for
  pub granted : (who : ℕ) (ticket : Held) → has_session who core ≡ true → has_key ticket.place core ≡ true
      → Contains (book_at ticket.place core).granted (in_book_of who ticket) ↔ HasGrantedTicket (seat_at who core) ticket
  pub waiting : (who : ℕ) (ticket : Held) → has_session who core ≡ true → has_key ticket.place core ≡ true
      → Contains (book_at ticket.place core).waiting (in_book_of who ticket) ↔ Awaits (seat_at who core) ticket
  -- a session's tickets are at places that it pins
  pub placed : (who : ℕ) (ticket : Held) → has_session who core ≡ true → HasGrantedTicket (seat_at who core) ticket ⊎ Awaits (seat_at who core) ticket
      → has_pin who ticket.place core ≡ true
  -- each granted ticket is in a book once, and each session waits at most once in a book
  pub granted_once : (place : ℕ) → has_key place core ≡ true
      → AllPairs (λ (one other : Ticket). ticket_id one ≢ ticket_id other) (book_at place core).granted
  pub waiting_once : (place : ℕ) → has_key place core ≡ true
      → AllPairs (λ (one other : Ticket). one.session ≢ other.session) (book_at place core).waiting
  pub numbered : (who : ℕ) → has_session who core ≡ true → HasRisingNumbers (seat_at who core)
  -- each pinned place has a key, and a session's pinned places rise
  pub pinned : (who place : ℕ) → has_session who core ≡ true → has_pin who place core ≡ true → has_key place core ≡ true
  pub in_order : (who : ℕ) → has_session who core ≡ true → are_rising_places (seat_at who core).pins ≡ true

-- the version and the definition of each place are valid for its key
abbrev pub AllMayStand : Core → Type 0
AllMayStand core = (place : ℕ) → has_key place core ≡ true → MayStand (key_at place core).namespace (standing_at place core)

-- all that always holds of the space
pub record IsSoundCore (core : Core) : Type 0 where
  pub tied : IsTied core
  pub standing : AllMayStand core
  pub lawful : IsLawful (system_of core)
  pub none_forgotten : NoneForgotten (system_of core)
