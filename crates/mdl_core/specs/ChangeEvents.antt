-- Which event of the system of locks a change in the space of one thread is.
use Rattle.std.specs.Prelude.{◌≡◌, ◌≢◌, ◌⊎◌, ℕ, ◌+◌, true, None, Some, Contains}
use Rattle.mdl_key.specs.Classes.{IsAtLeast}
use Rattle.mdl_book.specs.declared.ticket.Ticket.{Ticket}
use Rattle.mdl_defs.specs.declared.change.Change.{Change as Redefinition}
use Rattle.mdl_calls.specs.declared.answers.Held.{Held}
use Rattle.mdl_core.specs.declared.pending.Pending.{Pending}
use Rattle.mdl_core.specs.Changes.{Change, Gain, Lose, Queue, Admit, Settle, Leave, Take_up, Alter, Fold, Redefine, next_ticket}
use Rattle.mdl_core.specs.Cores.{Core, seat_at, key_at}
use Rattle.mdl_core.specs.CoreSystems.{system_of, wait_state_of, system_waiter, waiter_in}
use Rattle.mdl_system.specs.Words.{Event, Grant, Clone, BeginWait, GrantWaiter, SettleLost, EndGrantedWait, EndLostWait, Release, Upgrade, Merge, Downgrade, ChangeDefinition, Unsettled, Holding, lock_kind, IsGrantable, may_upgrade, may_downgrade}

-- a held ticket as a holding in the system
abbrev pub holding_of : ℕ → Held → Core → Holding
holding_of who ticket core = record { session = who; number = ticket.id; key = key_at ticket.place core; mode = ticket.mode }

-- the waiting ticket of a wait
abbrev pub ticket_of_wait : ℕ → Pending → Ticket
ticket_of_wait who wait = record { session = who; number = wait.id; mode = wait.mode }

-- the event that a change is, and what the event requires beyond what the change requires: the request for a ticket that is granted is
-- grantable, or the ticket is new and a clone of a held one that is at least as strong; a wait that ends is settled; and a held ticket
-- gets a weaker mode, or a stronger one, for which the request is grantable while the session has no wait
abbrev pub IsChangeEvent : ℕ → ℕ → Change → Core → Event Redefinition → Type 0
IsChangeEvent who place (Gain mode) core event =
    ((event ≡ Grant (record { session = who; number = (seat_at who core).last_ticket + 1; key = key_at place core; mode = mode }))
    × IsGrantable (system_of core) who (key_at place core) mode)
    ⊎ ((held : Held) × Contains (seat_at who core).held held × (held.place ≡ place) × IsAtLeast (lock_kind (key_at place core)) held.mode mode
    × (event ≡ Clone (holding_of who held core) (record { session = who; number = (seat_at who core).last_ticket + 1; key = key_at place core; mode = mode })))
IsChangeEvent who place (Lose ticket) core event = event ≡ Release (holding_of who ticket core)
IsChangeEvent who place (Queue mode) core event =
    event ≡ BeginWait (key_at place core) (record { ticket = next_ticket who mode core; wait = (seat_at who core).last_wait + 1; state = Unsettled })
IsChangeEvent who place (Admit ticket) core event =
    (event ≡ GrantWaiter (key_at place core) (waiter_in core ticket)) × IsGrantable (system_of core) who (key_at place core) ticket.mode
IsChangeEvent who place (Settle how) core event =
    (wait : Pending) × ((seat_at who core).wait ≡ Some wait)
    × (event ≡ SettleLost (key_at place core) (system_waiter (ticket_of_wait who wait) (Some wait)) (wait_state_of (Some how)))
IsChangeEvent who place (Leave wait) core event =
    (event ≡ EndLostWait (key_at place core) (system_waiter (ticket_of_wait who wait) (Some wait))) × (wait.settled ≢ None)
IsChangeEvent who place (Take_up wait) core event = event ≡ EndGrantedWait (record { session = who; wait = wait.number; ticket = wait.id })
IsChangeEvent who place (Alter ticket mode) core event =
    ((event ≡ Upgrade (holding_of who ticket core) mode) × ((seat_at who core).wait ≡ None) × (may_upgrade ticket.mode mode ≡ true)
    × IsGrantable (system_of core) who (key_at place core) mode)
    ⊎ ((event ≡ Downgrade (holding_of who ticket core) mode) × (may_downgrade ticket.mode mode ≡ true))
IsChangeEvent who place (Fold old new) core event = event ≡ Merge (holding_of who old core) (holding_of who new core)
IsChangeEvent who place (Redefine ticket change) core event = event ≡ ChangeDefinition (holding_of who ticket core) change
