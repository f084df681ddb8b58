-- Representations: a few tickets of a list that say as much as the whole list about who blocks whom. They are this project's own choice.
use Rattle.std.specs.Prelude.{◌≡◌, ℕ, Bool, not, ◌&&◌, ◌||◌, ◌==◌, List, Contains, IsTrue}
use Rattle.std.specs.List.{list_any}
use Rattle.mdl_view.specs.declared.lock_mode.LockMode.{LockMode}
use Rattle.mdl_view.specs.declared.ticket.Ticket.{Ticket}
use Rattle.mdl_view.specs.Locks.{LockView}

-- whether a ticket is of a mode that passes a test, and of neither of two sessions
abbrev pub is_apart : (LockMode → Bool) → ℕ → ℕ → Ticket → Bool
is_apart test one other ticket = not (ticket.session == one) && (not (ticket.session == other) && test ticket.mode)

-- whichever modes and whichever two sessions one asks about: a few tickets have one in such a mode of a third session, if all of them have
abbrev pub IsSample : List Ticket → List Ticket → Type 0
IsSample few all = (test : LockMode → Bool) (one other : ℕ) → list_any (is_apart test one other) few ≡ list_any (is_apart test one other) all

-- a sample shows all that a ticket would add to it
abbrev pub IsShown : List Ticket → Ticket → Type 0
IsShown few ticket = (test : LockMode → Bool) (one other : ℕ) → IsTrue (is_apart test one other ticket) → IsTrue (list_any (is_apart test one other) few)

-- a sample has grown by what a ticket adds to it
abbrev pub GrowsBy : Ticket → List Ticket → List Ticket → Type 0
GrowsBy ticket old new =
    (test : LockMode → Bool) (one other : ℕ)
    → list_any (is_apart test one other) new ≡ (list_any (is_apart test one other) old || is_apart test one other ticket)

-- a ticket of these is in this mode, and of neither of two sessions
pub record IsApartIn (tickets : List Ticket) (mode : LockMode) (one other : ℕ) (ticket : Ticket) : Type 0 where
  pub there : Contains tickets ticket
  pub same_mode : ticket.mode ≡ mode
  pub not_one : IsTrue (not (ticket.session == one))
  pub not_other : IsTrue (not (ticket.session == other))

-- a ticket of these is of the same mode and session as another one
pub record IsAlikeIn (tickets : List Ticket) (ticket known : Ticket) : Type 0 where
  pub there : Contains tickets known
  pub same_mode : known.mode ≡ ticket.mode
  pub same_session : known.session ≡ ticket.session

-- a lock with a few of the tickets of another one, which says as much about who blocks whom
pub record IsSampleOf (all few : LockView) : Type 0 where
  pub kind : few.kind ≡ all.kind
  pub granted : IsSample few.granted all.granted
  pub waiting : IsSample few.waiting all.waiting
  pub settled : IsSample few.settled all.settled
