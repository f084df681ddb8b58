-- A session has in the lock space of one thread what it has in the system of locks, and what the calls return about a session's
-- wait and about the space's limits is true.
use Rattle.std.specs.Prelude.{◌≡◌, ◌≢◌, ◌⊎◌, ◌↔◌, ℕ, ◌+◌, ◌-◌, ◌≤◌, ◌^◌, Bool, true, false, List, length, map, Option, Some, None, Contains}
use Rattle.mdl_key.specs.Keys.{KeyName}
use Rattle.mdl_key.specs.declared.mode.Mode.TheVariants.{X}
use Rattle.mdl_defs.specs.declared.change.Change.{Change}
use Rattle.mdl_defs.specs.declared.definition.Definition.{Definition}
use Rattle.mdl_calls.specs.declared.answers.Held.{Held}
use Rattle.mdl_calls.specs.declared.answers.Settled.TheVariants as settled_as
use Rattle.mdl_core.specs.declared.pending.Pending.{Pending}
use Rattle.mdl_calls.specs.declared.space_error.SpaceError.{SpaceError}
use Rattle.mdl_calls.specs.declared.space_error.SpaceError.TheVariants.{NoPlace, InUse, VersionFull, CounterFull, Full}
use Rattle.mdl_calls.specs.Words.{Answer, Refused, Has_wait, Has_killed, Reads, Changed, Call, Resolve, Try_now, Begin_wait, Wait_of, Kill, Clone_ticket, Read_definition, Change_definition, Key_of, Unpin, HoldsAt, AwaitsAt, wait_number}
use Rattle.mdl_core.specs.CoreCalls.{held_ticket}
use Rattle.mdl_core.specs.CoreJoins.{Joins, locks_at}
use Rattle.mdl_core.specs.Cores.{Core, book_at, seat_at, key_at, standing_at, has_key, has_pin, has_session, is_in_use}
use Rattle.mdl_core.specs.CoreSystems.{system_of, wait_state_of}
use Rattle.mdl_system.specs.Systems.{Unsettled, Holding, Waiter, System, Held as Holds, ListsHeld, HasNoWait}
use Rattle.mdl_core.specs.Ties.{IsSoundCore}

-- ---- what a session has

-- the tickets that a session holds, in the order in which it got them, each with the key of its place
abbrev pub holdings_of : ℕ → Core → List Holding
holdings_of who core =
    map (λ (ticket : Held). record { session = who; number = ticket.id; key = key_at ticket.place core; mode = ticket.mode }) (seat_at who core).held

-- a session's wait is this one
abbrev pub HasWait : Core → ℕ → Pending → Type 0
HasWait core who wait = (seat_at who core).wait ≡ Some wait

-- a session's wait as a waiter in the system
abbrev pub waiter_for : ℕ → Pending → Waiter
waiter_for who wait = record {
  ticket = record { session = who; number = wait.id; mode = wait.mode };
  wait = wait.number;
  state = wait_state_of wait.settled;
}

-- a session's wait has this number, is granted, and is for the ticket of this number
abbrev pub HasWon : Core → ℕ → ℕ → ℕ → Type 0
HasWon core who number id =
    (wait : Pending) × HasWait core who wait × (wait.settled ≡ Some settled_as.Granted) × (wait.number ≡ number) × (wait.id ≡ id)

-- a session's wait isn't granted, it is at the place of this key, and this is its waiter
abbrev pub WaitsAt : Core → ℕ → KeyName → Waiter → Type 0
WaitsAt core who key waiter =
    (wait : Pending) × HasWait core who wait × (wait.settled ≢ Some settled_as.Granted) × (key_at wait.place core ≡ key) × (waiter ≡ waiter_for who wait)

-- the seat of a session agrees with the system
pub record HasWhatTheSystemSays (core : Core) (who : ℕ) : Type 0 where
  -- its held tickets are those that the session holds in the system, in the order of their numbers
  pub held : ListsHeld (system_of core) who (holdings_of who core)
  -- it has no wait exactly if the session has none in the system
  pub free : ((seat_at who core).wait ≡ None) ↔ HasNoWait (system_of core) who
  -- its wait is settled as granted exactly if the system has a granted wait of the session that isn't ended, with this number and for
  -- this ticket
  pub won : (number id : ℕ) → HasWon core who number id ↔ Contains (system_of core).unended (record { session = who; wait = number; ticket = id })
  -- it has a wait that isn't granted exactly if the session has a waiter in the system, for the key of the wait's place, with the wait's
  -- number and state
  pub waits : (key : KeyName) (waiter : Waiter)
      → WaitsAt core who key waiter ↔ (Contains ((system_of core).waiting key) waiter × (waiter.ticket.session ≡ who))

-- a number that is no session's has nothing in the system
abbrev pub HasNothingInSystem : {D : Type 0} → System D → ℕ → Type 0
HasNothingInSystem system who = ((held : Holding) → Contains system.granted held → held.session ≢ who) × HasNoWait system who

-- each session's seat agrees with the system, and a number that is no session's has nothing there
abbrev pub SessionsHaveWhatTheSystemSays : Type 0
SessionsHaveWhatTheSystemSays =
    (core : Core) (who : ℕ) → IsSoundCore core →
    (has_session who core ≡ true → HasWhatTheSystemSays core who) × (has_session who core ≡ false → HasNothingInSystem (system_of core) who)

-- ---- waits of others

-- the space has this session, and its wait has this number and is unsettled
abbrev pub WaitsUnsettled : Core → ℕ → ℕ → Type 0
WaitsUnsettled core target number =
    (has_session target core ≡ true) × (wait : Pending) × HasWait core target wait × (wait.number ≡ number) × (wait.settled ≡ None)

-- in the system the session has an unsettled waiter for some key, with this number of its wait
abbrev pub WaitsSomewhere : {D : Type 0} → System D → ℕ → ℕ → Type 0
WaitsSomewhere system target number =
    (key : KeyName) × (waiter : Waiter) × Contains (system.waiting key) waiter
    × (waiter.ticket.session ≡ target) × (waiter.wait ≡ number) × (waiter.state ≡ Unsettled)

-- a kill returns that it killed exactly if the session had an unsettled wait of this number, as it then has in the system, and otherwise
-- it changes nothing. The number that is returned for a session's wait is the wait's, and for a number that is no session's there
-- is none
abbrev pub KillsJustThatWait : Type 0
KillsJustThatWait =
    ((a b : Core) (target number : ℕ) (killed : Bool) → Joins a (Kill target number) (Has_killed killed) b
    → ((killed ≡ true) ↔ WaitsUnsettled a target number) × (killed ≡ false → b ≡ a))
    × ((a : Core) (target number : ℕ) → IsSoundCore a → WaitsUnsettled a target number ↔ WaitsSomewhere (system_of a) target number)
    × ((a b : Core) (target : ℕ) (number : Option ℕ) → Joins a (Wait_of target) (Has_wait number) b
    → (has_session target a ≡ true → number ≡ wait_number (locks_at a target)) × (has_session target a ≡ false → number ≡ None))

-- ---- definitions

-- in the system the session holds this ticket, which has this number
abbrev pub HoldsBy : Core → ℕ → ℕ → Holding → Type 0
HoldsBy core who id ticket = Holds (system_of core) who ticket × (ticket.number ≡ id)

-- a read under a ticket returns the version and the definition that its key has in the system, and changes nothing, even if it is
-- refused
abbrev pub ReadsTellWhatStands : Type 0
ReadsTellWhatStands =
    (a b : Core) (who id : ℕ) →
    ((version : ℕ) (definition : Option Definition) → Joins a (Read_definition who id) (Reads version definition) b →
    (ticket : Holding) × HoldsBy a who id ticket × ((system_of a).definitions ticket.key ≡ record { version = version; definition = definition }))
    × ((answer : Answer) → Joins a (Read_definition who id) answer b → b ≡ a)

-- a change is made under a ticket that is held in mode X, and returns the version that its key then has in the system. A refused
-- change changes nothing.
abbrev pub ChangesTellTheVersion : Type 0
ChangesTellTheVersion =
    (a b : Core) (who id : ℕ) (change : Change) →
    ((version : ℕ) → Joins a (Change_definition who id change) (Changed version) b →
    (ticket : Holding) × HoldsBy a who id ticket × (ticket.mode ≡ X) × (((system_of b).definitions ticket.key).version ≡ version))
    × ((refusal : SpaceError) → Joins a (Change_definition who id change) (Refused refusal) b → b ≡ a)

-- ---- limits

-- no place has the key
abbrev pub IsNowhere : Core → KeyName → Type 0
IsNowhere core key = (place : ℕ) → has_key place core ≡ true → key_at place core ≢ key

-- the book of a place has no room: it has as many tickets as it can have, granted and waiting together
abbrev pub HasNoRoom : Core → ℕ → Type 0
HasNoRoom core place = 65535 ≤ length (book_at place core).granted + length (book_at place core).waiting

-- a session has used up its numbers of tickets
abbrev pub HasNoNumber : Core → ℕ → Type 0
HasNoNumber core who = 2 ^ 60 - 1 ≤ (seat_at who core).last_ticket

-- all places that there can be have keys, and are in use
abbrev pub AllAreInUse : Core → Type 0
AllAreInUse core = (core.places ≤ length core.books) × ((place : ℕ) → has_key place core ≡ true → is_in_use place core ≡ true)

-- why there is no place: all places that there can be have other keys and are in use, or the session doesn't pin this place, or the place has
-- no key
abbrev pub LacksPlace : Core → Call → Type 0
LacksPlace core (Resolve who key) = AllAreInUse core × IsNowhere core key
LacksPlace core (Try_now who place mode) = has_pin who place core ≡ false
LacksPlace core (Begin_wait who place mode) = has_pin who place core ≡ false
LacksPlace core (Unpin who place) = has_pin who place core ≡ false
LacksPlace core (Key_of who place) = has_key place core ≡ false
LacksPlace core _ = ⊥

-- a session has a ticket or a wait at a place
abbrev pub Needs : Core → ℕ → ℕ → Type 0
Needs core who place = HoldsAt place (locks_at core who) ⊎ AwaitsAt place (locks_at core who)

-- why a place is in use: the session that is to give up its pin has a ticket or a wait there
abbrev pub IsUsed : Core → Call → Type 0
IsUsed core (Unpin who place) = Needs core who place
IsUsed core _ = ⊥

-- why the lock is full
abbrev pub LockIsFull : Core → Call → Type 0
LockIsFull core (Try_now who place mode) = HasNoRoom core place
LockIsFull core (Begin_wait who place mode) = HasNoRoom core place
LockIsFull core (Clone_ticket who id mode) = (ticket : Held) × (held_ticket who id core ≡ Some ticket) × HasNoRoom core ticket.place
LockIsFull core _ = ⊥

-- why the session can have no more tickets
abbrev pub LacksNumber : Core → Call → Type 0
LacksNumber core (Try_now who place mode) = HasNoNumber core who
LacksNumber core (Begin_wait who place mode) = HasNoNumber core who
LacksNumber core (Clone_ticket who id mode) = HasNoNumber core who
LacksNumber core _ = ⊥

-- the key of a place has had all the versions that it can have
abbrev pub HasNoVersion : Core → ℕ → Type 0
HasNoVersion core place = 1000000 ≤ (standing_at place core).version

-- why there is no version left
abbrev pub LacksVersion : Core → Call → Type 0
LacksVersion core (Change_definition who id change) =
    (ticket : Held) × (held_ticket who id core ≡ Some ticket) × HasNoVersion core ticket.place
LacksVersion core _ = ⊥

-- the limit that an error names is reached, or the place is in use if it says so
abbrev pub MeetsLimit : Core → Call → SpaceError → Type 0
MeetsLimit core call NoPlace = LacksPlace core call
MeetsLimit core call InUse = IsUsed core call
MeetsLimit core call Full = LockIsFull core call
MeetsLimit core call CounterFull = LacksNumber core call
MeetsLimit core call VersionFull = LacksVersion core call
MeetsLimit core call _ = Unit {0}

-- no call is refused because of a limit that isn't reached, or because of a place that isn't in use
abbrev pub RefusesForCause : Type 0
RefusesForCause = (a b : Core) (call : Call) (refusal : SpaceError) → Joins a call (Refused refusal) b → MeetsLimit a call refusal
