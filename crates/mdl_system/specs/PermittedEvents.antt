-- When each event can happen: its conditions on the system before it.
use Rattle.std.specs.Prelude.{◌≡◌, ◌≢◌, ◌↔◌, Option, None, IsSome, Contains}
use Rattle.mdl_key.specs.declared.mode.Mode.TheVariants.{X}
use Rattle.mdl_key.specs.Words.{IsAtLeast, KeyName}
use Rattle.mdl_system.specs.Systems.{Unsettled, System, lock_kind, Held, HasNoWait, IsLawful, IsGrantable}
use Rattle.mdl_system.specs.Events.{Event, Grant, Clone, BeginWait, GrantWaiter, SettleLost, EndGrantedWait, EndLostWait, Release, Upgrade, Merge, Downgrade, ChangeDefinition, Happens, IsNewNumber}
use Rattle.mdl_system.specs.Strength.{downgrades}

-- the conditions of an event are met
abbrev pub IsPermitted : {C D : Type 0} → (KeyName → C → Option D → Option (Option D)) → Event C → System D → Type 0
IsPermitted apply (Grant ticket) a =
    HasNoWait a ticket.session × IsNewNumber a ticket.session ticket.number × IsGrantable a ticket.session ticket.key ticket.mode
IsPermitted apply (Clone first second) a =
    HasNoWait a second.session × IsNewNumber a second.session second.number × Held a second.session first
    × (second.key ≡ first.key) × IsAtLeast (lock_kind first.key) first.mode second.mode
IsPermitted apply (BeginWait key waiter) a =
    HasNoWait a waiter.ticket.session × IsNewNumber a waiter.ticket.session waiter.ticket.number × (waiter.state ≡ Unsettled)
IsPermitted apply (GrantWaiter key waiter) a =
    Contains (a.waiting key) waiter × (waiter.state ≡ Unsettled) × IsGrantable a waiter.ticket.session key waiter.ticket.mode
IsPermitted apply (SettleLost key waiter how) a = Contains (a.waiting key) waiter × (waiter.state ≡ Unsettled) × (how ≢ Unsettled)
IsPermitted apply (EndGrantedWait wait) a = Contains a.unended wait
IsPermitted apply (EndLostWait key waiter) a = Contains (a.waiting key) waiter × (waiter.state ≢ Unsettled)
IsPermitted apply (Release ticket) a = Held a ticket.session ticket
IsPermitted apply (Upgrade ticket mode) a =
    HasNoWait a ticket.session × Held a ticket.session ticket × IsGrantable a ticket.session ticket.key mode
IsPermitted apply (Merge old new) a =
    HasNoWait a old.session × Held a old.session old × Held a old.session new
    × (old ≢ new) × (new.key ≡ old.key) × IsAtLeast (lock_kind old.key) new.mode old.mode
IsPermitted apply (Downgrade ticket mode) a = Held a ticket.session ticket × Contains (downgrades ticket.mode) mode
IsPermitted apply (ChangeDefinition ticket change) a =
    Held a ticket.session ticket × (ticket.mode ≡ X) × IsSome (apply ticket.key change (a.definitions ticket.key).definition)

-- an event can happen exactly if its conditions are met
abbrev pub EventsHappenWherePermitted : Type 0 → Type 0 → Type 0
EventsHappenWherePermitted C D =
    (apply : KeyName → C → Option D → Option (Option D)) (event : Event C) (a : System D) →
    IsPermitted apply event a ↔ ((b : System D) × Happens apply event a b)

-- the conditions of an event on its own tickets and waits
abbrev pub IsPlausible : {C D : Type 0} → (KeyName → C → Option D → Option (Option D)) → Event C → Type 0
IsPlausible apply (Clone first second) =
    (first.session ≡ second.session) × (first.number ≢ second.number)
    × (second.key ≡ first.key) × IsAtLeast (lock_kind first.key) first.mode second.mode
IsPlausible apply (BeginWait key waiter) = waiter.state ≡ Unsettled
IsPlausible apply (GrantWaiter key waiter) = waiter.state ≡ Unsettled
IsPlausible apply (SettleLost key waiter how) = (waiter.state ≡ Unsettled) × (how ≢ Unsettled)
IsPlausible apply (EndLostWait key waiter) = waiter.state ≢ Unsettled
IsPlausible apply (Merge old new) =
    (new.session ≡ old.session) × (old ≢ new) × (new.key ≡ old.key) × IsAtLeast (lock_kind old.key) new.mode old.mode
IsPlausible apply (Downgrade ticket mode) = Contains (downgrades ticket.mode) mode
IsPlausible apply (ChangeDefinition ticket change) = (ticket.mode ≡ X) × IsSome (apply ticket.key change None)
IsPlausible apply event = Unit {0}

-- for each event that meets these there is a lawful system in which it happens
abbrev pub PlausibleEventsHappen : Type 0 → Type 0 → Type 0
PlausibleEventsHappen C D =
    (apply : KeyName → C → Option D → Option (Option D)) (event : Event C) → IsPlausible apply event →
    (a : System D) × (b : System D) × IsLawful a × Happens apply event a b
