-- Tickets can be told apart by their sessions and numbers, and a session has one wait at most. How sessions number them is this project's own choice; that
-- a session waits for one lock at most is MySQL 5.7's: `MDL_context::m_waiting_for` of sql/mdl.h.
use Rattle.std.specs.Prelude.{◌≡◌, ◌≢◌, ◌⊎◌, ◌↔◌, ℕ, List, Option, Contains, AllPairs}
use Rattle.mdl_key.specs.Keys.{KeyName}
use Rattle.mdl_system.specs.Systems.{Holding, Waiter, GrantedWait, System, empty_system, Held}
use Rattle.mdl_system.specs.Events.{Event, Grant, Clone, BeginWait, GrantWaiter, SettleLost, EndGrantedWait, EndLostWait, Release, Upgrade, Merge, Downgrade, ChangeDefinition, Happens, Run, IsNewNumber, in_mode, session_of}

pub record IsWellNumbered {D : Type 0} (system : System D) : Type 0 where
  -- two granted tickets of one session and number are the same
  pub granted : (one other : Holding) → Contains system.granted one → Contains system.granted other → one.session ≡ other.session → one.number ≡ other.number → one ≡ other
  -- a waiting ticket has another number than each granted one of its session
  pub waiting : (key : KeyName) (waiter : Waiter) → Contains (system.waiting key) waiter → IsNewNumber system waiter.ticket.session waiter.ticket.number
  -- a session waits at most once at a key, and at no two keys
  pub once : (key : KeyName) → AllPairs (λ earlier later. earlier.ticket.session ≢ later.ticket.session) (system.waiting key)
  pub one_key : (key other : KeyName) (waiter another : Waiter) → Contains (system.waiting key) waiter → Contains (system.waiting other) another
      → waiter.ticket.session ≡ another.ticket.session → key ≡ other
  -- a session whose granted wait isn't ended doesn't wait, and has no other such wait
  pub ended : (key : KeyName) (waiter : Waiter) (wait : GrantedWait) → Contains (system.waiting key) waiter → Contains system.unended wait → waiter.ticket.session ≢ wait.session
  pub one_wait : (one other : GrantedWait) → Contains system.unended one → Contains system.unended other → one.session ≡ other.session → one ≡ other
  -- the ticket of a granted wait that isn't ended is granted
  pub stands : (wait : GrantedWait) → Contains system.unended wait → (held : Holding) × Contains system.granted held × (held.session ≡ wait.session) × (held.number ≡ wait.ticket)

-- a well-numbered system stays so after an event and after a run of events; one in which no session holds or waits is so
abbrev pub StepsKeepWellNumbered : Type 0 → Type 0 → Type 0
StepsKeepWellNumbered C D =
    (apply : KeyName → C → Option D → Option (Option D)) →
    ((event : Event C) (a b : System D) → Happens apply event a b → IsWellNumbered a → IsWellNumbered b)
    × ((events : List (Event C)) (a b : System D) → Run apply events a b → IsWellNumbered a → IsWellNumbered b)
    × IsWellNumbered (empty_system {D = D})

-- the session of an event holds a ticket after it
abbrev pub IsHeldAfter : {C D : Type 0} → Event C → System D → Holding → Type 0
IsHeldAfter (Grant gained) a ticket = Held a gained.session ticket ⊎ (ticket ≡ gained)
IsHeldAfter (Clone first second) a ticket = Held a second.session ticket ⊎ (ticket ≡ second)
IsHeldAfter (EndGrantedWait wait) a ticket =
    Held a wait.session ticket ⊎ (Contains a.granted ticket × (ticket.session ≡ wait.session) × (ticket.number ≡ wait.ticket))
IsHeldAfter (Release lost) a ticket = Held a lost.session ticket × (ticket ≢ lost)
IsHeldAfter (Upgrade changed mode) a ticket = (Held a changed.session ticket × (ticket ≢ changed)) ⊎ (ticket ≡ in_mode mode changed)
IsHeldAfter (Merge old new) a ticket =
    (Held a old.session ticket × (ticket ≢ old) × (ticket ≢ new)) ⊎ (ticket ≡ in_mode new.mode old)
IsHeldAfter (Downgrade changed mode) a ticket = (Held a changed.session ticket × (ticket ≢ changed)) ⊎ (ticket ≡ in_mode mode changed)
IsHeldAfter event a ticket = Held a (session_of event) ticket

-- after an event of a well-numbered system, its session holds exactly these tickets
abbrev pub EventsChangeHeld : Type 0 → Type 0 → Type 0
EventsChangeHeld C D =
    (apply : KeyName → C → Option D → Option (Option D)) (event : Event C) (a b : System D) →
    IsWellNumbered a → Happens apply event a b →
    (ticket : Holding) → Held b (session_of event) ticket ↔ IsHeldAfter event a ticket

-- an event that neither gives a session a ticket to hold, nor takes or changes one
abbrev pub LeavesHeld : {C : Type 0} → Event C → Type 0
LeavesHeld (BeginWait key waiter) = Unit {0}
LeavesHeld (GrantWaiter key waiter) = Unit {0}
LeavesHeld (SettleLost key waiter how) = Unit {0}
LeavesHeld (EndLostWait key waiter) = Unit {0}
LeavesHeld (ChangeDefinition ticket change) = Unit {0}
LeavesHeld _ = ⊥

-- such an event of a well-numbered system changes nothing that any session holds, so neither do others who grant a session's
-- waiter or settle its wait
abbrev pub WaitsLeaveHeld : Type 0 → Type 0 → Type 0
WaitsLeaveHeld C D =
    (apply : KeyName → C → Option D → Option (Option D)) (event : Event C) (a b : System D) →
    IsWellNumbered a → Happens apply event a b → LeavesHeld event →
    (session : ℕ) (ticket : Holding) → Held b session ticket ↔ Held a session ticket
