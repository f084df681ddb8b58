-- What a session read, between two of its views, of versions and definitions. A session that writes a version has read the definition of that version, so
-- a session that read nothing changed nothing either.
use Rattle.std.specs.Prelude.{◌≡◌, ℕ, true, [], ◌∷◌, ◌++◌, is_some, Some}
use Rattle.mdl_visits.specs.FirstWords.{IsStepOf, LatchRecord, Mine, NotWaited, SeatState, StepRecord, VersionedDefinition, held_at, ticket_of}
use Rattle.mdl_visits.specs.Leavings.{HasTicket, Learns, MeetsStanding}

-- the session read nothing
abbrev pub SeatReadsNothing : Mine → Mine → Type 0
SeatReadsNothing m m′ = m′.0.reads ≡ m.0.reads

-- the session read this version and definition at a place, and nothing else
abbrev pub SeatReadsThere : ℕ → VersionedDefinition → Mine → Mine → Type 0
SeatReadsThere place standing m m′ = m′.0.reads ≡ m.0.reads ++ record { place = place; standing = standing } ∷ []

-- by the record of the latch of a place at a step, a session's ticket with this number was granted there
abbrev pub WasHeld : ℕ → ℕ → ℕ → StepRecord → Type 0
WasHeld place session number e =
    (latch : LatchRecord) × (held_at place e.held ≡ Some latch) × (is_some (ticket_of session number latch.book.granted) ≡ true)

-- each slow ticket that the session has at a place was granted there at a step, except one that it waits for. A fast ticket is in no book
abbrev pub WereHeld : ℕ → ℕ → Mine → StepRecord → Type 0
WereHeld place session m e = (number : ℕ) → HasTicket place number m.0.slow → NotWaited m.0 number → WasHeld place session number e

-- the session learnt the version and definition at a place by a step that gave the latch back, at which each slow ticket that it has there was granted,
-- except one that it waits for
abbrev pub ReadsStanding : ℕ → VersionedDefinition → SeatState → SeatState → Type 0
ReadsStanding place standing s s′ =
    Learns place standing s.me s′.me
    × ((e : StepRecord) × IsStepOf s.me s′.me e × MeetsStanding place s.me.0.number standing e × WereHeld place s.me.0.number s.me e)
