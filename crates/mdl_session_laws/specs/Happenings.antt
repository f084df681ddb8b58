-- That such calls can happen: the relation of calls to sessions isn't empty. If a session may get a lock, begin a wait, lose it, read or change what it
-- meets, or be refused, there is a session after the call to which the relation leads.
use Rattle.std.specs.Prelude.{◌≡◌, ℕ, ◌+◌, true, false, Some, None}
use Rattle.mdl_session_laws.specs.Prelude.{Answer, At_place, AwaitsAt, Begin_wait, Call, Change, Change_definition, Changed, Done, End_wait, Granted, Held, HoldsAt, IsFit, IsSound, KeyName, Knows, Lost, Meets, Mode, OutOfMemory, Read_definition, Reads, Refused, Resolve, SessionData, Try_now, Unpin, VersionedDefinition, Victim, Waits, X, caller, is_known, is_pinned, is_waiting, key_known, place_known, same_mode, standing_fault, takes_memory, ticket_held}
use Rattle.mdl_session_laws.specs.SessionJoins.{Joins}

-- a session can make this call and get this answer
abbrev pub CanJoin : SessionData → Call → Answer → Type 0
CanJoin a call answer = (b : SessionData) × Joins a call answer b

-- a key whose place the session doesn't know can get any place of which it knows no key
abbrev pub KeysAreFound : Type 0
KeysAreFound =
    (a : SessionData) (place : ℕ) (key : KeyName) → IsSound a → place_known key a.known ≡ None → is_known place a.known ≡ false →
    CanJoin a (Resolve a.number key) (At_place place)

-- a pin can be given up where the session has no ticket and no wait
abbrev pub PinsAreGivenUp : Type 0
PinsAreGivenUp =
    (a : SessionData) (place : ℕ) → IsSound a → is_pinned place a.own ≡ true → (HoldsAt place a.own → ⊥) → (AwaitsAt place a.own → ⊥) →
    CanJoin a (Unpin a.number place) Done

-- a lock can be granted at a place that the session pins, in a mode of the key's kind, if the session has no wait
abbrev pub LocksAreHad : Type 0
LocksAreHad =
    (a : SessionData) (place : ℕ) (mode : Mode) → IsSound a → is_pinned place a.own ≡ true → is_waiting a.own ≡ false → IsFit (Knows a a.number) place mode →
    CanJoin a (Try_now a.number place mode) (Granted (a.numbers.last_ticket + 1))

-- a wait can begin at a place that the session pins, for a mode of the key's kind, if the session has no wait
abbrev pub WaitsAreBegun : Type 0
WaitsAreBegun =
    (a : SessionData) (place : ℕ) (mode : Mode) → IsSound a → is_pinned place a.own ≡ true → is_waiting a.own ≡ false → IsFit (Knows a a.number) place mode →
    CanJoin a (Begin_wait a.number place mode) (Waits (a.numbers.last_wait + 1))

-- a wait that is settled as a deadlock's victim can be ended
abbrev pub WaitsAreLost : Type 0
WaitsAreLost = (a : SessionData) → IsSound a → a.settled ≡ Some Victim → CanJoin a (End_wait a.number) (Lost Victim)

-- the version and definition that a session may meet under a ticket can be read
abbrev pub StandingsAreRead : Type 0
StandingsAreRead =
    (a : SessionData) (id : ℕ) (ticket : Held) (standing : VersionedDefinition) → IsSound a → ticket_held id a.own ≡ Some ticket → Meets ticket.place standing a →
    CanJoin a (Read_definition a.number id) (Reads standing.version standing.definition)

-- they can be changed under a ticket that is held in mode X, if they allow the change
abbrev pub StandingsAreChanged : Type 0
StandingsAreChanged =
    (a : SessionData) (id : ℕ) (ticket : Held) (stood : VersionedDefinition) (change : Change) → IsSound a → ticket_held id a.own ≡ Some ticket →
    same_mode ticket.mode X ≡ true → Meets ticket.place stood a →
    ((key : KeyName) → key_known ticket.place a.known ≡ Some key → standing_fault key.namespace change stood ≡ None) →
    CanJoin a (Change_definition a.number id change) (Changed (stood.version + 1))

-- a call that takes memory can be refused because memory ran out, and the session is unchanged
abbrev pub MemoryRunsOut : Type 0
MemoryRunsOut =
    (a : SessionData) (call : Call) → IsSound a → caller call ≡ Some a.number → takes_memory call ≡ true → Joins a call (Refused OutOfMemory) a
