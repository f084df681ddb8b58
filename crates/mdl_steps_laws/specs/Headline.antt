-- The headline of the table that threads share. Whenever a lock's latch is free, its word counts exactly the fast tickets held, its two flags show
-- whether its lists hold an obtrusive ticket or any ticket, and granted tickets of different sessions are compatible by the matrix; every atomic
-- step in every interleaving keeps this, so the definition a session reads under a ticket stays the same until it gives the ticket up or changes
-- the definition itself.
--
-- The rule holds of the table between any two steps of all sessions, in every interleaving: each step has to keep it (`Order`).
use Rattle.std.specs.Prelude.{◌≡◌, ℕ, true, List, [], ◌∷◌, ◌++◌, slice_index, Some, Contains}
pub use Rattle.mdl_steps.specs.TableChanges.{HasPlace}
use Rattle.mdl_steps.specs.declared.slot.Slot.TheVariants as slot
use Rattle.mdl_steps_laws.specs.Prelude.{BookView, Counted, Definition, Kept, LatchRecord, MayPut, Mine, Rule, SessionTicket, Slot, StandsTogether, State, Step, TableChange, VersionedDefinition, View, fast_at, finds_version, get_elem?, has_obtrusive, has_tickets, held_at, is_own, kept_of, latch_word, lock_kind, lock_word, puts_reading, reads_version, some, version_word}
use Rattle.mdl_steps_laws.specs.SessionSteps.{Spares}

-- ---- locks

-- no session holds the latch of the place
abbrev pub IsFree : State Slot View → ℕ → Type 0
IsFree s place = slice_index s.words (latch_word place) ≡ 0

-- the lock's book is in its slot, its word counts exactly the fast tickets held, its two flags show whether its lists hold any ticket, and an
-- obtrusive one, and granted tickets of different sessions are compatible by the matrix, fast and slow ones together
pub record IsInOrder (s : State Slot View) (place : ℕ) : Type 0 where
  pub book : BookView
  pub home : get_elem? s.homes place ≡ some (some (slot.Place book))
  pub word : Counted (lock_kind book) (slice_index s.words (lock_word place)) (fast_at s place) (has_tickets book) (has_obtrusive book)
  pub compatible : StandsTogether s place book

-- whenever a lock's latch is free, the lock is in order
abbrev pub FreeLocksAreInOrder : Type 0
FreeLocksAreInOrder = (s : State Slot View) → Rule s → (place : ℕ) → HasPlace s place → IsFree s place → IsInOrder s place

-- ---- definitions

-- this is the current version and definition of the lock's key: the version's word has the version, while the latch is free the book in the slot has
-- both, and while a session holds the latch the book in that session's record has both
pub record Stands (s : State Slot View) (place : ℕ) (standing : VersionedDefinition) : Type 0 where
  pub version : slice_index s.words (version_word place) ≡ standing.version
  pub at_home : IsFree s place → (book : BookView) × (get_elem? s.homes place ≡ some (some (slot.Place book))) × (book.standing ≡ standing)
  pub in_record : (j : ℕ) (w : View) (h : LatchRecord) → get_elem? s.views j ≡ some w → held_at place w.latches ≡ Some h → h.book.standing ≡ standing

-- this is a ticket of the session with this number at the place, fast or slow
abbrev pub Has : ℕ → ℕ → View → SessionTicket → Type 0
Has place number v t = Contains (v.slow ++ v.fast) t × (is_own place number t ≡ true)

-- the session has such a ticket, and has noted this version under it
pub record HasNoted (place number version : ℕ) (v : View) : Type 0 where
  pub ticket : SessionTicket
  pub has : Has place number v ticket
  pub noted : (t : SessionTicket) → Has place number v t → t.noted ≡ Some version

-- the session has read this version and definition at the place
abbrev pub HasRead : ℕ → VersionedDefinition → View → Type 0
HasRead place standing v = Contains v.reads (record { place = place; standing = standing })

-- if a session has a ticket at two times, and the same version noted under it, then that version is current at both times, and what the session has
-- read in it is the definition at both
abbrev pub ReadsStand : Type 0
ReadsStand =
    (s t : State Slot View) → Rule s → Rule t → (place : ℕ) → HasPlace s place → HasPlace t place →
    (i j : ℕ) (v w : View) → get_elem? s.views i ≡ some v → get_elem? t.views j ≡ some w → v.number ≡ w.number →
    (number version : ℕ) → HasNoted place number version v → HasNoted place number version w →
    (slice_index s.words (version_word place) ≡ version) × (slice_index t.words (version_word place) ≡ version)
    × ((standing : VersionedDefinition) → standing.version ≡ version → HasRead place standing v → HasRead place standing w →
    Stands s place standing × Stands t place standing)

-- ---- from step to step

-- each step of any session keeps a session's ticket, the version noted under that, and all that this session read there, unless the session itself
-- loses the ticket or changes the definition by the step
abbrev pub NotesStay : Type 0
NotesStay =
    (s t : State Slot View) → Rule s → (turn : TableChange s t) → (place : ℕ) → HasPlace s place →
    (seat number version : ℕ) → Spares seat place number turn →
    (v : View) → get_elem? s.views seat ≡ some v → HasNoted place number version v →
    (w : View) × (get_elem? t.views seat ≡ some w) × HasNoted place number version w
    × ((standing : VersionedDefinition) → HasRead place standing v → HasRead place standing w)

-- by its step a session has read this version and definition, and has noted the version under each ticket that it had there. In each state in which
-- the rule holds, the session has this view, and the place has this version, that is the current definition
pub record LearnsOf (place : ℕ) (standing : VersionedDefinition) (m m′ : Mine) : Type 0 where
  pub read : HasRead place standing m′.0
  pub noted : (t : SessionTicket) → Contains (m.0.slow ++ m.0.fast) t → t.place ≡ place → HasNoted place t.number standing.version m′.0
  pub stands : (s : State Slot View) → Rule s → HasPlace s place → (seat : ℕ) → get_elem? s.views seat ≡ some m′.0 →
      slice_index s.words (version_word place) ≡ standing.version → Stands s place standing

-- a session that gives a latch back with a reading has read the current definition, and has noted its version under each ticket that it has there,
-- whatever it had noted before
abbrev pub ReadingsNote : Type 0
ReadingsNote =
    (s : State Slot View) → Rule s → (place : ℕ) → HasPlace s place → (seat : ℕ) (m m′ : Mine) → get_elem? s.views seat ≡ some m.0 →
    (st : Step Slot) (found : ℕ) → MayPut place [] m → st.word ≡ latch_word place → puts_reading st m found m′ →
    (standing : VersionedDefinition) × Stands s place standing × HasRead place standing m′.0
    × ((t : SessionTicket) → Contains (m.0.slow ++ m.0.fast) t → t.place ≡ place → HasNoted place t.number standing.version m′.0)

-- the same holds if the session reads only the version, without the latch: the definition of that version counts as read
abbrev pub VersionsNote : Type 0
VersionsNote =
    (place found : ℕ) (m m′ : Mine) (st : Step Slot) → st.word ≡ version_word place → reads_version st m found m′ →
    (standing : VersionedDefinition) × (standing.version ≡ found) × LearnsOf place standing m m′

-- the same holds if the session looks the version up in a cache that keeps a definition of it, which the session has read
abbrev pub HitsNote : Type 0
HitsNote =
    (place found : ℕ) (kept : List Kept) (m m′ : Mine) (st : Step Slot) → st.word ≡ version_word place → finds_version kept st m found m′ →
    (d : Definition) → kept_of place found kept ≡ Some d → HasRead place (record { version = found; definition = Some d }) m.0 →
    LearnsOf place (record { version = found; definition = Some d }) m m′

-- these states follow one another, each by a change by which the seat doesn't lose the ticket or change the definition, and the rule holds of each
abbrev pub Follow : ℕ → ℕ → ℕ → State Slot View → List (State Slot View) → State Slot View → Type 0
Follow seat place number s [] t = s ≡ t
Follow seat place number s (x ∷ xs) t = Rule x × ((turn : TableChange s x) × Spares seat place number turn) × Follow seat place number x xs t

-- what a session has read in the version that it noted under a ticket stays the definition, whatever all sessions do, until the session loses the
-- ticket or changes the definition itself
abbrev pub DefinitionsStay : Type 0
DefinitionsStay =
    (s : State Slot View) → Rule s → (place : ℕ) → HasPlace s place → (seat number : ℕ) (v : View) → get_elem? s.views seat ≡ some v →
    (standing : VersionedDefinition) → HasNoted place number standing.version v → HasRead place standing v →
    (t : State Slot View) (between : List (State Slot View)) → Follow seat place number s between t →
    Stands s place standing × Stands t place standing
