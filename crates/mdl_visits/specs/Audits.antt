-- An audit: the books of all places that have a key, as a session's records of their latches had them at one of its steps.
use Rattle.std.specs.Prelude.{◌≡◌, ◌⊎◌, ℕ, ◌+◌, ◌<◌, ◌≤◌, List, [], ◌∷◌, ◌++◌, length, map, Some}
use Rattle.mdl_visits.specs.Prelude.{Audited, Each, IsRising, IsStepOf, KeyName, Keys, LatchRecord, MayStand, Mine, SeatState, StepRecord, held_at, key_at}

-- the place's latch is among these, and its record has this book of the place
abbrev pub IsRecorded : ℕ → List LatchRecord → Audited → Type 0
IsRecorded place latches a = (a.place ≡ place) × ((h : LatchRecord) × (held_at place latches ≡ Some h) × (a.book ≡ h.book))

-- these are the books of the places from one on, in order, by the records of these latches
abbrev pub AreRecorded : ℕ → List LatchRecord → List Audited → Type 0
AreRecorded place latches [] = Unit {0}
AreRecorded place latches (a ∷ more) = IsRecorded place latches a × AreRecorded (place + 1) latches more

-- the session had just these latches when it began, or at a step that it made between the two, at which it had the same record of the directory's
-- latch as before, or still none
abbrev pub HadLatches : List LatchRecord → Mine → Mine → Type 0
HadLatches latches m m′ = (latches ≡ m.0.latches) ⊎ ((e : StepRecord) × IsStepOf m m′ e × (e.held ≡ latches) × (e.directory ≡ m.0.directory))

-- the books of the places from one on have the keys that the directory has at these places
abbrev pub AreKeyed : List KeyName → ℕ → List Audited → Type 0
AreKeyed keys place [] = Unit {0}
AreKeyed keys place (a ∷ more) = ((key : KeyName) → key_at keys place ≡ Some key → a.book.key ≡ key) × AreKeyed keys (place + 1) more

-- the definition of each book is a valid definition for the book's key
abbrev pub MayAllStand : List Audited → Type 0
MayAllStand books = Each (λ (a : Audited). MayStand a.book.key.namespace a.book.standing) books

-- the session may take the latches of the places from one to another, if there are any: the table has the places, whose numbers have 16 bits, and each
-- latch that it holds is of a lower place
pub record MayTakeAll (place last : ℕ) (s : SeatState) : Type 0 where
  pub some : 0 < place
  pub next : place ≤ last + 1
  pub inside : last < s.table.slots
  pub narrow : last < 65536
  pub rising : IsRising place s.me

-- at one moment the session had the latches of the places from one to another, beside those that it had of lower ones. It added the books of these places
-- to a list, in order, as they were then
pub record Gathers (place last : ℕ) (before after : List Audited) (m m′ : Mine) : Type 0 where
  pub latches : List LatchRecord
  pub had : HadLatches latches m m′
  pub kept : (q : ℕ) (h : LatchRecord) → q < place → held_at q m.0.latches ≡ Some h → held_at q latches ≡ Some h
  pub books : List Audited
  pub listed : after ≡ before ++ books
  pub all : place + length books ≡ last + 1
  pub recorded : AreRecorded place latches books
  pub keyed : (k : Keys) → m.0.directory ≡ Some k → AreKeyed k.keys place books
  pub stand : MayAllStand books

-- these are the books of the directory's keys, in order, from place 1 on, as they were at one step between the two. The session had this record of the
-- directory's latch and the latches of all these places then. What is defined in each book is a valid definition for its key
pub record Audits (k : Keys) (audited : List Audited) (m m′ : Mine) : Type 0 where
  pub all : length audited ≡ length k.keys
  pub keys : map (λ (a : Audited). a.book.key) audited ≡ k.keys
  pub moment : StepRecord
  pub step : IsStepOf m m′ moment
  pub directory : moment.directory ≡ Some k
  pub recorded : AreRecorded 1 moment.held audited
  pub stand : MayAllStand audited
