-- Deadlocks in the system of locks, after MySQL 5.7: `MDL_lock::visit_subgraph` of sql/mdl.cc. Which cycle is chosen, and
-- that of equal weights the greatest session number is the victim, is this project's own choice.
use Rattle.std.specs.Prelude.{◌≡◌, ◌≢◌, ◌⊎◌, ℕ, ◌<◌, ◌≤◌, Bool, List, [], ◌∷◌, Contains, AllPairs, IsTrue}
use Rattle.mdl_key.specs.Words.{weight_of, KeyName, Clashes, WaitsBehind}
use Rattle.mdl_graph.specs.Cycles.{is_chosen_before}
use Rattle.mdl_system.specs.Systems.{System, Holding, Waiter, Unsettled, lock_kind}

-- a session's request for a lock stands: a ticket of the session waits for it, whatever the state of the wait
abbrev pub Requests : {D : Type 0} → System D → ℕ → KeyName → Waiter → Type 0
Requests system session key wish = Contains (system.waiting key) wish × (wish.ticket.session ≡ session)

-- a session's request for a lock (a wish): the session waits for it, unsettled
abbrev pub Wishes : {D : Type 0} → System D → ℕ → KeyName → Waiter → Type 0
Wishes system session key wish =
    Contains (system.waiting key) wish × (wish.ticket.session ≡ session) × (wish.state ≡ Unsettled)

-- a session has a granted ticket of the key that clashes with a request
abbrev pub HoldsAgainst : {D : Type 0} → System D → KeyName → Waiter → ℕ → Type 0
HoldsAgainst system key wish session =
    (held : Holding) × Contains system.granted held × (held.key ≡ key) × (held.session ≡ session)
    × Clashes (lock_kind key) wish.ticket.mode held.mode

-- a session has one of these requests at the key, in a mode that the request waits behind, whichever of the two came first
abbrev pub AsksAhead : (ℕ → KeyName → Waiter → Type 0) → KeyName → Waiter → ℕ → Type 0
AsksAhead Asks key wish session =
    (pending : Waiter) × Asks session key pending × WaitsBehind (lock_kind key) wish.ticket.mode pending.ticket.mode

-- one session is tied to another by these requests: it requests a lock of which the other has a clashing granted ticket, or
-- which the other requests, too, in a mode that its request waits behind
abbrev pub IsTiedBy : {D : Type 0} → System D → (ℕ → KeyName → Waiter → Type 0) → ℕ → ℕ → Type 0
IsTiedBy system Asks waiter other =
    (waiter ≢ other) × ((key : KeyName) × (wish : Waiter) × Asks waiter key wish
    × (HoldsAgainst system key wish other ⊎ AsksAhead Asks key wish other))

-- a session waits at the key, unsettled, in a mode that the request waits behind, whichever of the two came first
abbrev pub WaitsAhead : {D : Type 0} → System D → KeyName → Waiter → ℕ → Type 0
WaitsAhead system key wish session = AsksAhead (Wishes system) key wish session

-- one session waits for another: it requests a lock of which the other has a clashing granted ticket, or for which the other
-- waits, unsettled, in a mode that the request waits behind
abbrev pub WaitsFor : {D : Type 0} → System D → ℕ → ℕ → Type 0
WaitsFor system waiter other = IsTiedBy system (Wishes system) waiter other

-- one session stands behind another: as it waits for it, but by requests that stand, whatever the states of their waits
abbrev pub StandsBehind : {D : Type 0} → System D → ℕ → ℕ → Type 0
StandsBehind system waiter other = IsTiedBy system (Requests system) waiter other

-- each session of these waits for the next, and the last for the target
abbrev pub Leads : (ℕ → ℕ → Type 0) → ℕ → ℕ → List ℕ → Type 0
Leads Waits target session [] = Waits session target
Leads Waits target session (next ∷ rest) = Waits session next × Leads Waits target next rest

-- distinct sessions that begin with this one, each of which waits for the next, and the last for the first
abbrev pub IsCycle : (ℕ → ℕ → Type 0) → ℕ → List ℕ → Type 0
IsCycle Waits from cycle =
    (rest : List ℕ) × (cycle ≡ from ∷ rest) × AllPairs (λ one other. one ≢ other) cycle × Leads Waits from from rest

-- a deadlock that a session is part of: distinct sessions that begin with it, each of which waits for the next, and the last
-- for the first
abbrev pub IsDeadlock : {D : Type 0} → System D → ℕ → List ℕ → Type 0
IsDeadlock system from cycle = IsCycle (WaitsFor system) from cycle

-- a standing deadlock that a session is part of: likewise, but each stands behind the next. If all its members' waits are
-- unsettled, it is a deadlock
abbrev pub IsStandingDeadlock : {D : Type 0} → System D → ℕ → List ℕ → Type 0
IsStandingDeadlock system from cycle = IsCycle (StandsBehind system) from cycle

-- the deadlock chosen before all others that the session is part of: the shortest, and of these the first in lexicographic order
abbrev pub IsChosenDeadlock : {D : Type 0} → System D → ℕ → List ℕ → Type 0
IsChosenDeadlock system from cycle =
    IsDeadlock system from cycle × ((other : List ℕ) → IsDeadlock system from other → IsTrue (is_chosen_before cycle other))

-- the weight of one of these requests of a session
abbrev pub WeighsBy : (ℕ → KeyName → Waiter → Type 0) → ℕ → ℕ → Type 0
WeighsBy Asks session weight =
    (key : KeyName) × (wish : Waiter) × Asks session key wish × (weight ≡ weight_of key.namespace wish.ticket.mode)

-- the weight of a session's request
abbrev pub Weighs : {D : Type 0} → System D → ℕ → ℕ → Type 0
Weighs system session weight = WeighsBy (Wishes system) session weight

-- the weight of a session's request that stands
abbrev pub StandsWith : {D : Type 0} → System D → ℕ → ℕ → Type 0
StandsWith system session weight = WeighsBy (Requests system) session weight

-- one of these sessions by its weight: none of another is less, and of those whose weights are the same its number is the
-- greatest
abbrev pub IsLightest : (ℕ → ℕ → Type 0) → List ℕ → ℕ → Type 0
IsLightest Weight cycle victim =
    Contains cycle victim × ((weight : ℕ) × Weight victim weight
    × ((other heavier : ℕ) → Contains cycle other → Weight other heavier
    → (weight < heavier) ⊎ ((weight ≡ heavier) × (other ≤ victim))))

-- the victim among these sessions: no request of another weighs less, and of those whose requests weigh the same its number is
-- the greatest
abbrev pub IsVictimOf : {D : Type 0} → System D → List ℕ → ℕ → Type 0
IsVictimOf system cycle victim = IsLightest (Weighs system) cycle victim

-- the victim among these sessions by the requests that stand
abbrev pub IsStandingVictimOf : {D : Type 0} → System D → List ℕ → ℕ → Type 0
IsStandingVictimOf system cycle victim = IsLightest (StandsWith system) cycle victim

-- each deadlock goes through at least one of these sessions
abbrev pub DeadlocksGoThrough : {D : Type 0} → (ℕ → Bool) → System D → Type 0
DeadlocksGoThrough sessions system =
    (from : ℕ) (cycle : List ℕ) → IsDeadlock system from cycle → (member : ℕ) × Contains cycle member × IsTrue (sessions member)

-- there is no deadlock
abbrev pub HasNoDeadlock : {D : Type 0} → System D → Type 0
HasNoDeadlock system = (from : ℕ) (cycle : List ℕ) → IsDeadlock system from cycle → ⊥
