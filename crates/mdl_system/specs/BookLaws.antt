-- Laws of the system of locks and of the lists in the books of its locks.
use Rattle.std.specs.Prelude.{◌↔◌, ℕ, List, map, Contains}
use Rattle.mdl_key.specs.declared.mode.Mode.{Mode}
use Rattle.mdl_key.specs.Keys.{KeyName}
use Rattle.mdl_book.specs.declared.ticket.Ticket.{Ticket}
use Rattle.mdl_book.specs.Granting as book
use Rattle.mdl_system.specs.Systems.{Holding, Waiter, System, lock_kind, IsLawful, IsGrantable}
use Rattle.mdl_system.specs.Events.{Gains, Loses, Replaces, SameElsewhere}

-- a granted ticket as it is in the book of its lock
abbrev pub in_book : Holding → Ticket
in_book held = record { session = held.session; number = held.number; mode = held.mode }

-- a ticket in the book of a lock as a granted ticket of the system
abbrev pub of_lock : KeyName → Ticket → Holding
of_lock key ticket = record { session = ticket.session; number = ticket.number; key = key; mode = ticket.mode }

-- the granted tickets are those in the granted lists of all locks
abbrev pub IsGrantedByLists : {D : Type 0} → System D → (KeyName → List Ticket) → Type 0
IsGrantedByLists system lists = (held : Holding) → Contains system.granted held ↔ Contains (lists held.key) (in_book held)

-- the system is then lawful exactly if each lock's list is
abbrev pub LawfulByLists : Type 0 → Type 0
LawfulByLists D =
    (system : System D) (lists : KeyName → List Ticket) → IsGrantedByLists system lists →
    IsLawful system ↔ ((key : KeyName) → book.IsLawful (lock_kind key) (lists key))

-- a request is then grantable exactly if it is by the two lists of its lock
abbrev pub GrantableByLists : Type 0 → Type 0
GrantableByLists D =
    (system : System D) (lists : KeyName → List Ticket) → IsGrantedByLists system lists →
    (session : ℕ) (key : KeyName) (mode : Mode) →
    IsGrantable system session key mode
    ↔ book.IsGrantable (lock_kind key) (lists key) (map (λ (waiter : Waiter). waiter.ticket) (system.waiting key)) session mode

-- a ticket that is added to, removed from or replaced in the list of one lock is added to, removed from or replaced in the system
abbrev pub ChangesByLists : Type 0 → Type 0
ChangesByLists D =
    (a b : System D) (old new : KeyName → List Ticket) (key : KeyName) →
    IsGrantedByLists a old → IsGrantedByLists b new → SameElsewhere key old new →
    ((come : Ticket) → Gains come (old key) (new key) → Gains (of_lock key come) a.granted b.granted)
    × ((gone : Ticket) → Loses gone (old key) (new key) → Loses (of_lock key gone) a.granted b.granted)
    × ((gone come : Ticket) → Replaces gone come (old key) (new key) → Replaces (of_lock key gone) (of_lock key come) a.granted b.granted)
