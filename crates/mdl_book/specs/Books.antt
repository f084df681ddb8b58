-- One lock's book: its two lists of tickets, and its key's version and definition, after MySQL 5.7: `MDL_lock` of sql/mdl.cc.
use Rattle.std.specs.Prelude.{ℕ, ◌+◌, Bool, not, ◌&&◌, ◌||◌, nat_lt, nat_le, List, [], ◌∷◌, ◌++◌, length, Option, Some, None, find, All, Contains, IsTrue, if◌then◌else◌, is_some, slice_get}
use Rattle.std.specs.List.{list_any, remove}
use Rattle.std.specs.Option.{option_to_list}
use Rattle.std.specs.Ordering.{nat_cmp}
use Rattle.std.specs.FinSet as set
use Rattle.mdl_key.specs.declared.namespace.Kind.{Kind}
use Rattle.mdl_key.specs.declared.mode.Mode.{Mode}
use Rattle.mdl_key.specs.Words.{is_obtrusive, KeyName, kind_of}
use Rattle.mdl_defs.specs.declared.change.Change.{Change}
use Rattle.mdl_defs.specs.VersionedDefinitions.{nothing_yet, standing_after}
use Rattle.mdl_book.specs.declared.book_error.BookError.{BookError}
use Rattle.mdl_book.specs.declared.book_error.BookError.TheVariants.{NotHere, WouldConflict, Full}
use Rattle.mdl_book.specs.declared.book_view.BookView.{BookView}
use Rattle.mdl_book.specs.declared.ticket.Ticket.{Ticket}
use Rattle.mdl_book.specs.FastTickets.{AreOfOthers, may_stand, can_be_granted}
use Rattle.mdl_book.specs.Granting.{is_grantable, IsGrantable}
use Rattle.mdl_book.specs.Tickets.{ticket_of, without, with_mode}

-- the kind of a book's lock
abbrev pub lock_kind : BookView → Kind
lock_kind book = kind_of book.key.namespace

-- the book of a lock that no session holds or waits for; its key has version 0 and no definition
abbrev pub empty_book : KeyName → BookView
empty_book key = record { key = key; granted = []; waiting = []; standing = nothing_yet }

-- how many tickets a book has, granted and waiting
abbrev pub ticket_count : BookView → ℕ
ticket_count book = length book.granted + length book.waiting

-- why a book with this number of tickets can't have one more
abbrev pub full_fault : ℕ → Option BookError
full_fault count = if nat_le 65535 count then Some Full else None

-- why a ticket can't be granted: it clashes with another session's granted ticket or with a fast ticket that the word
-- counts, or the book is full
abbrev pub grant_fault : Ticket → ℕ → BookView → Option BookError
grant_fault ticket word book =
    if not (may_stand (lock_kind book) book.granted word ticket.session ticket.mode) then Some WouldConflict else full_fault (ticket_count book)

-- why a granted ticket can't change its mode: there is no such ticket, or the new mode clashes with another session's
-- granted ticket or with a fast ticket that the word counts
abbrev pub change_fault : ℕ → ℕ → Mode → ℕ → BookView → Option BookError
change_fault session number mode word book =
    if not (is_some (ticket_of session number book.granted)) then Some NotHere
    else (if not (may_stand (lock_kind book) book.granted word session mode) then Some WouldConflict else None)

-- the book with a ticket added at the end of the granted ones
abbrev pub granting : Ticket → BookView → BookView
granting ticket book = record book { granted = book.granted ++ ticket ∷ [] }

-- the book with a ticket added at the end of the waiting ones
abbrev pub enqueueing : Ticket → BookView → BookView
enqueueing ticket book = record book { waiting = book.waiting ++ ticket ∷ [] }

-- the book with the waiting ticket of this session and number moved to the end of the granted ones
abbrev pub admitting : ℕ → ℕ → BookView → BookView
admitting session number book = record book {
  granted = book.granted ++ option_to_list (ticket_of session number book.waiting);
  waiting = without session number book.waiting;
}

-- the book with the ticket at an index of the waiting list moved to the end of the granted ones
abbrev pub admitting_by_index : ℕ → BookView → BookView
admitting_by_index index book = record book {
  granted = book.granted ++ option_to_list (slice_get book.waiting index);
  waiting = remove book.waiting index;
}

-- the book without the waiting ticket of this session and number
abbrev pub cancelling : ℕ → ℕ → BookView → BookView
cancelling session number book = record book { waiting = without session number book.waiting }

-- the book without the granted ticket of this session and number
abbrev pub removing : ℕ → ℕ → BookView → BookView
removing session number book = record book { granted = without session number book.granted }

-- the book with the granted ticket of this session and number in another mode, at the same position
abbrev pub changing : ℕ → ℕ → Mode → BookView → BookView
changing session number mode book = record book { granted = with_mode session number mode book.granted }

-- the book after a change of its key's definition
abbrev pub redefining : Change → BookView → BookView
redefining change book = record book { standing = standing_after change book.standing }

-- whether a waiting ticket is of an unsettled session and can be granted; waiting tickets that arrived later can block it,
-- too
abbrev pub is_ready : ℕ → set.FinSet nat_cmp → BookView → Ticket → Bool
is_ready word unsettled book ticket =
    set.contains unsettled ticket.session && can_be_granted (lock_kind book) book.granted book.waiting word ticket.session ticket.mode

-- the first such ticket, in order of arrival
abbrev pub next_grantable : ℕ → set.FinSet nat_cmp → BookView → Option Ticket
next_grantable word unsettled book = find (is_ready word unsettled book) book.waiting

-- none of these tickets is of a session that waits in the book
abbrev pub AreOfNoWaiter : BookView → List Ticket → Type 0
AreOfNoWaiter book tickets = All (λ ticket. AreOfOthers ticket.session tickets) book.waiting

-- whether a waiting ticket is of an unsettled session and grantable, if these fast tickets are granted besides those of the book
abbrev pub is_ready_beside : List Ticket → set.FinSet nat_cmp → BookView → Ticket → Bool
is_ready_beside fast unsettled book ticket =
    set.contains unsettled ticket.session && is_grantable (lock_kind book) (fast ++ book.granted) book.waiting ticket.session ticket.mode

-- the first such ticket, in order of arrival
abbrev pub next_grantable_beside : List Ticket → set.FinSet nat_cmp → BookView → Option Ticket
next_grantable_beside fast unsettled book = find (is_ready_beside fast unsettled book) book.waiting

-- no waiter is forgotten: no waiting ticket of an unsettled session is grantable, if these fast tickets are granted besides
-- those of the book
abbrev pub NoneForgotten : List Ticket → set.FinSet nat_cmp → BookView → Type 0
NoneForgotten fast unsettled book =
    (ticket : Ticket) → Contains book.waiting ticket → IsTrue (set.contains unsettled ticket.session) →
    IsGrantable (lock_kind book) (fast ++ book.granted) book.waiting ticket.session ticket.mode → ⊥

-- whether one of these tickets is obtrusive
abbrev pub any_obtrusive : Kind → List Ticket → Bool
any_obtrusive kind tickets = list_any (λ ticket. is_obtrusive kind ticket.mode) tickets

-- whether an obtrusive ticket is granted or waits
abbrev pub has_obtrusive : BookView → Bool
has_obtrusive book = any_obtrusive (lock_kind book) book.granted || any_obtrusive (lock_kind book) book.waiting

-- whether there is a ticket, granted or waiting
abbrev pub has_tickets : BookView → Bool
has_tickets book = nat_lt 0 (ticket_count book)
