-- The relation of a call to the space of one thread before it and after it, and what a session has and knows there.
use Rattle.std.specs.Prelude.{◌≡◌, ◌≢◌, ◌⊎◌, ◌≤◌, ℕ, true, Some, MatchOption}
use Rattle.std.specs.Option.{IfSome}
use Rattle.mdl_key.specs.Keys.{KeyName}
use Rattle.mdl_defs.specs.declared.versioned_definition.VersionedDefinition.{VersionedDefinition}
use Rattle.mdl_calls.specs.declared.answers.Settled.{Settled}
use Rattle.mdl_core.specs.declared.pending.Pending.{Pending}
use Rattle.mdl_calls.specs.Words.{Answer, Call, caller, takes_memory, SessionLocks, Numbers, HoldsAt}
use Rattle.mdl_core.specs.CoreCalls.{outcome, Makes, wait_at}
use Rattle.mdl_core.specs.Cores.{Core, seat_at, has_key, has_pin, has_session, key_at, standing_at}
use Rattle.mdl_core.specs.Seats.{locks_of_seat, numbers_of_seat}
use Rattle.mdl_core.specs.Ties.{IsSoundCore}

-- the space speaks for each of its sessions: for any of them a call may be made, and the space is sound
abbrev pub SpeaksFor : Core → ℕ → Type 0
SpeaksFor core who = (has_session who core ≡ true) × IsSoundCore core

-- a session's held tickets, its wait and its pins
abbrev pub locks_at : Core → ℕ → SessionLocks
locks_at core who = locks_of_seat (seat_at who core)

-- the last numbers that were given to a session's tickets and waits
abbrev pub numbers_at : Core → ℕ → Numbers
numbers_at core who = numbers_of_seat (seat_at who core)

-- a session knows the keys of the places that it pins, and of those that have or had a definition: such a place keeps its key
abbrev pub Knows : Core → ℕ → ℕ → KeyName → Type 0
Knows core who place key =
    (has_key place core ≡ true) × (key_at place core ≡ key) × ((has_pin who place core ≡ true) ⊎ ((standing_at place core).version ≢ 0))

-- a session's wait is settled in this way
abbrev pub IsSettledAs : Core → ℕ → Settled → Type 0
IsSettledAs core who how = MatchOption (wait_at who core) ⊥ (λ (wait : Pending). wait.settled ≡ Some how)

-- a place has this version and definition, and the session holds a ticket there
abbrev pub HasRead : Core → ℕ → ℕ → VersionedDefinition → Type 0
HasRead core who place standing = HoldsAt place (locks_at core who) × (has_key place core ≡ true) × (standing_at place core ≡ standing)

-- a place's version is this one or a later one
abbrev pub HasSeen : Core → ℕ → ℕ → ℕ → Type 0
HasSeen core who place version = (has_key place core ≡ true) × (version ≤ (standing_at place core).version)

-- the call has exactly its outcome, or is refused because memory ran out if it takes memory
abbrev pub Joins : Core → Call → Answer → Core → Type 0
Joins a call answer b = IfSome (caller call) (SpeaksFor a) × Makes (takes_memory call) (outcome call) a answer b
