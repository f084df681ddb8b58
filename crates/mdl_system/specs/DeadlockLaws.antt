-- Laws of deadlocks: how they arise, and how searches for them end. `C` are the changes of definitions, `D` the definitions,
-- and `apply` returns the definition of a key after a change, or `None` if the change is refused.
use Rattle.std.specs.Prelude.{ℕ, Bool, false, not, ◌&&◌, ◌||◌, ◌==◌, List, Option}
use Rattle.std.specs.List.{list_any}
use Rattle.mdl_key.specs.Keys.{KeyName}
use Rattle.mdl_system.specs.Systems.{System}
use Rattle.mdl_system.specs.Events.{Event, BeginWait, Happens, Run}
use Rattle.mdl_system.specs.NumberingLaws.{IsWellNumbered}
use Rattle.mdl_system.specs.Deadlocks.{IsDeadlock, DeadlocksGoThrough}

-- whether a session begins to wait by an event
abbrev pub begins_wait : {C : Type 0} → Event C → ℕ → Bool
begins_wait (BeginWait key waiter) session = session == waiter.ticket.session
begins_wait _ session = false

-- whether a session begins to wait by one of these events
abbrev pub begins_to_wait : {C : Type 0} → List (Event C) → ℕ → Bool
begins_to_wait events session = list_any (λ event. begins_wait event session) events

-- a deadlock arises only by a wait that begins: if all deadlocks of a well-numbered system go through some sessions, then after
-- an event they go through these or through the one that began to wait by it, if one did
abbrev pub EventsMakeDeadlocksByWaiting : Type 0 → Type 0 → Type 0
EventsMakeDeadlocksByWaiting C D =
    (apply : KeyName → C → Option D → Option (Option D)) (event : Event C) (a b : System D) (sessions : ℕ → Bool) →
    IsWellNumbered a → Happens apply event a b →
    DeadlocksGoThrough sessions a →
    DeadlocksGoThrough (λ session. sessions session || begins_wait event session) b

-- after a run of events, all deadlocks go through these or through the sessions that began to wait in it
abbrev pub RunsMakeDeadlocksByWaiting : Type 0 → Type 0 → Type 0
RunsMakeDeadlocksByWaiting C D =
    (apply : KeyName → C → Option D → Option (Option D)) (events : List (Event C)) (a b : System D) (sessions : ℕ → Bool) →
    IsWellNumbered a → Run apply events a b →
    DeadlocksGoThrough sessions a →
    DeadlocksGoThrough (λ session. sessions session || begins_to_wait events session) b

-- so a session that begins to wait has to search, until it is part of no deadlock: if all deadlocks go through some sessions,
-- they then go through these except that one
abbrev pub SearchesEndDebts : Type 0 → Type 0
SearchesEndDebts D =
    (who : ℕ) (sessions : ℕ → Bool) (system : System D) →
    ((cycle : List ℕ) → IsDeadlock system who cycle → ⊥) →
    DeadlocksGoThrough sessions system →
    DeadlocksGoThrough (λ session. sessions session && not (session == who)) system
