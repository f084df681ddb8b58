-- Laws of the lock space of one thread: its calls are events of the system of locks, in which schemas and tables are defined.
use Rattle.std.specs.Prelude.{◌≡◌, ◌⊎◌, ℕ, Bool, true, false, not, List, [], ◌∷◌, ◌++◌, Option, Some, None, Contains}
use Rattle.mdl_key.specs.Keys.{KeyName}
use Rattle.mdl_key.specs.declared.mode.Mode.{Mode}
use Rattle.mdl_defs.specs.declared.change.Change.{Change}
use Rattle.mdl_defs.specs.declared.definition.Definition.{Definition}
use Rattle.mdl_calls.specs.declared.answers.Held.{Held}
use Rattle.mdl_calls.specs.declared.answers.TimedOut.TheVariants.{ByThisCall}
use Rattle.mdl_calls.specs.Words.{Answer, Done, Granted, Would_wait, Waits, Victim_is, Timed_out, Lost, Has_killed, Changed, Upgraded, Call, Try_now, Begin_wait, Search, Settle_timeout, End_wait, Kill, Release, Clone_ticket, Upgrade_now, Merge, Downgrade, Change_definition}
use Rattle.mdl_system.specs.Words.{IsAbout, Event, Grant, Clone, BeginWait, GrantWaiter, SettleLost, EndGrantedWait, EndLostWait, Release as Give_up, Upgrade, Merge as Unite, Downgrade as Lower, ChangeDefinition, Happens, Run, SameSystem, Unsettled, Victim, TimedOut, Killed, Holding, Waiter, System, empty_system, IsLawful, IsGrantable, NoneForgotten, covers}
use Rattle.mdl_core.specs.CoreCalls.{held_ticket}
use Rattle.mdl_core.specs.CoreJoins.{Joins}
use Rattle.mdl_core.specs.Cores.{Core, empty_core, key_at}
use Rattle.mdl_core.specs.CoreSystems.{system_of, wait_state_of, applies}
use Rattle.mdl_core.specs.Ties.{IsSoundCore}

-- whether there is a ticket, and it isn't as strong as a mode
abbrev pub is_weaker : Mode → Option Held → Bool
is_weaker mode None = false
is_weaker mode (Some ticket) = not (covers ticket.mode mode)

-- whether a call with this answer changes the held tickets, the waiting ones, how a wait is settled, or a definition
abbrev pub is_change : Core → Call → Answer → Bool
is_change a (Try_now _ _ _) (Granted _) = true
is_change a (Begin_wait _ _ _) (Granted _) = true
is_change a (Begin_wait _ _ _) (Waits _) = true
is_change a (Search _) (Victim_is _) = true
is_change a (Settle_timeout _) (Timed_out ByThisCall) = true
is_change a (End_wait _) (Granted _) = true
is_change a (End_wait _) (Lost _) = true
is_change a (Kill _ _) (Has_killed true) = true
is_change a (Release _ _) Done = true
is_change a (Clone_ticket _ _ _) (Granted _) = true
is_change a (Upgrade_now who id mode) Upgraded = is_weaker mode (held_ticket who id a)
is_change a (Merge _ _ _) Done = true
is_change a (Downgrade _ _ _) Done = true
is_change a (Change_definition _ _ _) (Changed _) = true
is_change a _ _ = false

-- the event that a call with this answer is, if it changes something
abbrev pub IsEventOf : Core → Call → Answer → Event Change → Type 0
IsEventOf a (Try_now who place mode) (Granted id) event =
    event ≡ Grant (record { session = who; number = id; key = key_at place a; mode = mode })
IsEventOf a (Begin_wait who place mode) (Granted id) event =
    event ≡ Grant (record { session = who; number = id; key = key_at place a; mode = mode })
IsEventOf a (Begin_wait who place mode) (Waits number) event =
    (id : ℕ) × (event ≡ BeginWait (key_at place a) (record { ticket = record { session = who; number = id; mode = mode }; wait = number; state = Unsettled }))
IsEventOf a (Search who) (Victim_is victim) event =
    (key : KeyName) × (waiter : Waiter) × (waiter.ticket.session ≡ victim) × (event ≡ SettleLost key waiter Victim)
IsEventOf a (Settle_timeout who) (Timed_out ByThisCall) event =
    (key : KeyName) × (waiter : Waiter) × (waiter.ticket.session ≡ who) × (event ≡ SettleLost key waiter TimedOut)
IsEventOf a (End_wait who) (Granted id) event =
    (number : ℕ) × (event ≡ EndGrantedWait (record { session = who; wait = number; ticket = id }))
IsEventOf a (End_wait who) (Lost how) event =
    (key : KeyName) × (waiter : Waiter) × (waiter.ticket.session ≡ who) × (waiter.state ≡ wait_state_of (Some how)) × (event ≡ EndLostWait key waiter)
IsEventOf a (Kill target number) (Has_killed true) event =
    (key : KeyName) × (waiter : Waiter) × (waiter.ticket.session ≡ target) × (waiter.wait ≡ number) × (event ≡ SettleLost key waiter Killed)
IsEventOf a (Release who id) Done event =
    (ticket : Holding) × (ticket.session ≡ who) × (ticket.number ≡ id) × (event ≡ Give_up ticket)
IsEventOf a (Clone_ticket who id mode) (Granted copy) event =
    (ticket : Holding) × (ticket.session ≡ who) × (ticket.number ≡ id)
    × (event ≡ Clone ticket (record { session = who; number = copy; key = ticket.key; mode = mode }))
IsEventOf a (Upgrade_now who id mode) Upgraded event =
    (ticket : Holding) × (ticket.session ≡ who) × (ticket.number ≡ id) × (event ≡ Upgrade ticket mode)
IsEventOf a (Merge who old new) Done event =
    (kept gone : Holding) × (kept.session ≡ who) × (kept.number ≡ old) × (gone.session ≡ who) × (gone.number ≡ new) × (event ≡ Unite kept gone)
IsEventOf a (Downgrade who id mode) Done event =
    (ticket : Holding) × (ticket.session ≡ who) × (ticket.number ≡ id) × (event ≡ Lower ticket mode)
IsEventOf a (Change_definition who id change) (Changed version) event =
    (ticket : Holding) × (ticket.session ≡ who) × (ticket.number ≡ id) × (event ≡ ChangeDefinition ticket change)
IsEventOf a _ _ event = ⊥

-- a waiter of a key such that no earlier one of that key is unsettled and grantable
abbrev pub IsFirst : {D : Type 0} → System D → KeyName → Waiter → Type 0
IsFirst a key waiter =
    (before : List Waiter) × (after : List Waiter) × (a.waiting key ≡ before ++ waiter ∷ after)
    × ((earlier : Waiter) → Contains before earlier → earlier.state ≡ Unsettled → IsGrantable a earlier.ticket.session key earlier.ticket.mode → ⊥)

-- waiters of a key are granted, each time the first that can be granted
abbrev pub GrantsInOrder : {C D : Type 0} → (KeyName → C → Option D → Option (Option D)) → KeyName → List (Event C) → System D → System D → Type 0
GrantsInOrder apply key [] a b = SameSystem a b
GrantsInOrder {C} {D} apply key (event ∷ events) a b =
    (waiter : Waiter) × (between : System D) × (event ≡ GrantWaiter key waiter) × IsFirst a key waiter
    × Happens apply event a between × GrantsInOrder apply key events between b

-- a call changes nothing in the system, or it is an event there, and then waiters of the event's key are granted
abbrev pub CallsAreEvents : Type 0
CallsAreEvents =
    (a b : Core) (call : Call) (answer : Answer) → IsSoundCore a → Joins a call answer b →
    ((is_change a call answer ≡ false) × SameSystem (system_of a) (system_of b))
    ⊎ ((event : Event Change) × (grants : List (Event Change)) × (between : System Definition) × (key : KeyName)
    × IsEventOf a call answer event × ((other : KeyName) → IsAbout event other → other ≡ key)
    × Happens applies event (system_of a) between × GrantsInOrder applies key grants between (system_of b))

-- each call keeps the space sound: the books and the seats agree, each key's version and definition are valid for it, the system is
-- lawful, and no waiter is forgotten
abbrev pub CallsKeepSound : Type 0
CallsKeepSound = (a b : Core) (call : Call) (answer : Answer) → IsSoundCore a → Joins a call answer b → IsSoundCore b

-- a lock is granted at once exactly if the request for it is grantable
abbrev pub GrantsWhatIsGrantable : Type 0
GrantsWhatIsGrantable =
    (a b : Core) (who place : ℕ) (mode : Mode) →
    ((id : ℕ) → Joins a (Try_now who place mode) (Granted id) b → IsGrantable (system_of a) who (key_at place a) mode)
    × (Joins a (Try_now who place mode) Would_wait b → IsGrantable (system_of a) who (key_at place a) mode → ⊥)
    × ((id : ℕ) → Joins a (Begin_wait who place mode) (Granted id) b → IsGrantable (system_of a) who (key_at place a) mode)
    × ((number : ℕ) → Joins a (Begin_wait who place mode) (Waits number) b → IsGrantable (system_of a) who (key_at place a) mode → ⊥)

-- a held ticket gets another mode at once exactly if it is as strong already or the request for the mode is grantable
abbrev pub UpgradesWhatIsGrantable : Type 0
UpgradesWhatIsGrantable =
    (a b : Core) (who id : ℕ) (mode : Mode) (ticket : Held) → held_ticket who id a ≡ Some ticket →
    (Joins a (Upgrade_now who id mode) Upgraded b → (covers ticket.mode mode ≡ true) ⊎ IsGrantable (system_of a) who (key_at ticket.place a) mode)
    × (Joins a (Upgrade_now who id mode) Would_wait b →
    (covers ticket.mode mode ≡ false) × (IsGrantable (system_of a) who (key_at ticket.place a) mode → ⊥))

-- the calls, each with its answer, lead from the one space to the other
abbrev pub Joined : List (Call × Answer) → Core → Core → Type 0
Joined [] a b = a ≡ b
Joined ((call, answer) ∷ calls) a b = (between : Core) × Joins a call answer between × Joined calls between b

-- whatever calls are made on an empty space, a run of events leads from the empty system to the system that it is in the end, which is
-- lawful, and in which no waiter is forgotten
abbrev pub CallsLeadByEvents : Type 0
CallsLeadByEvents =
    (places sessions : ℕ) (calls : List (Call × Answer)) (b : Core) → Joined calls (empty_core places sessions) b →
    ((events : List (Event Change)) × Run applies events empty_system (system_of b))
    × IsLawful (system_of b) × NoneForgotten (system_of b)
