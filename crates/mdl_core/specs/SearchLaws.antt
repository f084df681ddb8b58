-- Laws of searches for deadlocks in the lock space of one thread.
use Rattle.std.specs.Prelude.{◌≡◌, ◌⊎◌, ℕ, ◌≤◌, Bool, false, not, ◌&&◌, ◌||◌, ◌==◌, List, length}
use Rattle.mdl_key.specs.declared.mode.Mode.{Mode}
use Rattle.mdl_calls.specs.Words.{Answer, finds_no_memory, Waits, No_cycle, Victim_is, Call, Begin_wait, Search, Runs, Over, Cut_off, most_searches, seeking}
use Rattle.mdl_core.specs.CoreJoins.{Joins, SpeaksFor}
use Rattle.mdl_core.specs.Cores.{Core}
use Rattle.mdl_core.specs.CoreSystems.{system_of}
use Rattle.mdl_system.specs.Deadlocks.{IsDeadlock, IsChosenDeadlock, IsVictimOf, DeadlocksGoThrough, HasNoDeadlock}
use Rattle.mdl_core.specs.Ties.{IsSoundCore}

-- a search finds no cycle if the session is part of no deadlock, and otherwise it returns the victim of the chosen one. It fails only if
-- memory runs out. That only the victim then loses its wait is part of `CallsAreEvents`.
abbrev pub SearchesFindDeadlocks : Type 0
SearchesFindDeadlocks =
    (a b : Core) (who : ℕ) →
    (Joins a (Search who) No_cycle b → (cycle : List ℕ) → IsDeadlock (system_of a) who cycle → ⊥)
    × ((victim : ℕ) → Joins a (Search who) (Victim_is victim) b →
    (cycle : List ℕ) × IsChosenDeadlock (system_of a) who cycle × IsVictimOf (system_of a) cycle victim)
    × ((answer : Answer) → Joins a (Search who) answer b → finds_no_memory answer ≡ false →
    (answer ≡ No_cycle) ⊎ ((victim : ℕ) × (answer ≡ Victim_is victim)))

-- 1,024 searches are always enough if there are at most 1,024 sessions
abbrev pub SearchesSuffice : Type 0
SearchesSuffice = (a b : Core) (who : ℕ) → length a.seats ≤ 1024 → SpeaksFor a who → Runs Joins a (seeking most_searches who) Cut_off b → ⊥

-- once a session's searches are over, it is part of no deadlock: it is in none, or was a victim itself
abbrev pub SearchesLeaveNoDeadlock : Type 0
SearchesLeaveNoDeadlock =
    (a b : Core) (who : ℕ) → SpeaksFor a who → Runs Joins a (seeking most_searches who) Over b → (cycle : List ℕ) → IsDeadlock (system_of b) who cycle → ⊥

-- whether a session begins to wait by a call with this answer
abbrev pub call_begins_wait : Call → Answer → ℕ → Bool
call_begins_wait (Begin_wait who place mode) (Waits number) session = session == who
call_begins_wait _ _ session = false

-- no call makes a deadlock except by a wait that it begins: if all deadlocks go through some set of sessions, then after the call all
-- go through these or through the session that began to wait by it
abbrev pub OnlyNewWaitsMakeDeadlocks : Type 0
OnlyNewWaitsMakeDeadlocks =
    (a b : Core) (call : Call) (answer : Answer) (sessions : ℕ → Bool) → IsSoundCore a → Joins a call answer b →
    DeadlocksGoThrough sessions (system_of a) →
    DeadlocksGoThrough (λ session. sessions session || call_begins_wait call answer session) (system_of b)

-- if all deadlocks go through some set of sessions, then once a session's searches are over all go through the others of the set
abbrev pub SearchingEndsDeadlocks : Type 0
SearchingEndsDeadlocks =
    (a b : Core) (who : ℕ) (sessions : ℕ → Bool) → SpeaksFor a who → Runs Joins a (seeking most_searches who) Over b →
    DeadlocksGoThrough sessions (system_of a) →
    DeadlocksGoThrough (λ session. sessions session && not (session == who)) (system_of b)

-- if there is no deadlock, and a session begins to wait and searches until its searches are over, then there is no deadlock
abbrev pub WaitingLeavesNoDeadlock : Type 0
WaitingLeavesNoDeadlock =
    (a b c : Core) (who place number : ℕ) (mode : Mode) →
    Joins a (Begin_wait who place mode) (Waits number) b → Runs Joins b (seeking most_searches who) Over c →
    HasNoDeadlock (system_of a) → HasNoDeadlock (system_of c)
