-- What the rule of the running table means in the system of locks.
use Rattle.std.specs.Prelude.{◌≡◌, ◌≢◌, ℕ, suc, ◌<◌, map, Some, None}
use Rattle.mdl_steps_laws.specs.Prelude.{Definition, IsHeld, IsLawful, IsNewNumber, KeyName, NotWaited, Once, Rule, SameElsewhere, Slot, State, System, Ticket, View, cell, fast_at, get_elem?, of_lock, own_at, some, ticket_by, ticket_of}
use Rattle.mdl_steps_laws.specs.Locks.{Lock, AreKeysOf, AreLocksOf, IsBookAt, IsOfNoWait, Tells}

-- at any time the table has a lock for each key, and these make a system
abbrev pub RunningTablesTellASystem : Type 0
RunningTablesTellASystem =
    (s : State Slot View) → Rule s →
    (locks : KeyName → Lock) × AreLocksOf s locks × (system : System Definition) × Tells locks system

-- each such system is lawful: no two sessions hold clashing tickets of one key, fast and slow ones together
abbrev pub RunningTablesAreLawful : Type 0
RunningTablesAreLawful =
    (s : State Slot View) → Rule s → (locks : KeyName → Lock) → AreLocksOf s locks →
    (system : System Definition) → Tells locks system → IsLawful system

-- the number of a session's next ticket is one that none of its granted tickets has
abbrev pub NextNumbersAreNew : Type 0
NextNumbersAreNew =
    (s : State Slot View) → Rule s → (locks : KeyName → Lock) → AreLocksOf s locks → (system : System Definition) → Tells locks system →
    (j : ℕ) (v : View) → get_elem? s.views j ≡ some v → 0 < v.number → IsNewNumber system v.number v.next

-- this is the session's only ticket with this number in the lock, and it is in the granted list
pub record IsOnly (session number : ℕ) (lock : Lock) (t : Ticket) : Type 0 where
  pub found : ticket_of session number lock.book.granted ≡ Some t
  pub once : Once lock.book.granted
  pub not_fast : ticket_of session number lock.fast ≡ None

-- a slow ticket in a session's view is the session's only ticket with that number in the lock, and the session holds it, unless it is the ticket of a
-- wait
abbrev pub OwnTicketsAreHeld : Type 0
OwnTicketsAreHeld =
    (s : State Slot View) → Rule s → (locks : KeyName → Lock) → (are : AreLocksOf s locks) → (system : System Definition) → Tells locks system →
    (i : ℕ) (key : KeyName) → get_elem? are.keys i ≡ some key →
    (j : ℕ) (v : View) → get_elem? s.views j ≡ some v → 0 < v.number →
    (number : ℕ) (t : Ticket) → ticket_of v.number number (map (ticket_by v.number) (own_at (suc i) v.slow)) ≡ Some t →
    NotWaited v number → IsOfNoWait system v.number number →
    IsOnly v.number number (locks key) t × IsHeld system v.number (of_lock key t)

-- a change at one place changes only the lock of the place's key
abbrev pub OnePlaceIsOneLock : Type 0
OnePlaceIsOneLock =
    (s s′ : State Slot View) → Rule s → (old new : KeyName → Lock) → (are : AreLocksOf s old) → AreKeysOf s′ are.keys →
    (i : ℕ) (key : KeyName) → get_elem? are.keys i ≡ some key →
    ((place : ℕ) → 0 < place → place ≢ suc i → cell s′ place ≡ cell s place) →
    (new key).fast ≡ fast_at s′ (suc i) → IsBookAt s′ (suc i) (new key).book → SameElsewhere key old new →
    AreLocksOf s′ new
