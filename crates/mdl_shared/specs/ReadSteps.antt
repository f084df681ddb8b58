-- How a session reads the version and the definition of the key of a place: by one step without the latch, or in one visit to the place.
use Rattle.std.specs.Prelude.{◌≡◌, ℕ, ◌≤◌, Contains, [], Some}
use Rattle.mdl_shared.specs.Prelude.{Each, Follows, LearnsVersion, MeetsStanding, Reading, SeatReadsThere, SessionTicket, StaysQuiet, VersionedDefinition, Visits, VisitsOnce, WasHeld, met_version, noted_version, numbered, reads_at}
use Rattle.mdl_shared.specs.SessionViews.{SessionView}
use Rattle.mdl_shared.specs.Steps.{ShowsStep}
use Rattle.mdl_shared.specs.TicketLists.{KeepsRoom}

-- the version of a place was read by one step without its latch, and nothing else was done. The session notes it under each ticket that it has there. The
-- definition of this version counts as read, and agrees with all that the session knew of the place
pub record ReadsVersion (place version : ℕ) (a b : SessionView) : Type 0 where
  pub learnt : LearnsVersion place version a.me b.me
  pub same : b ≡ record a { me = b.me; room = b.room }
  pub room : KeepsRoom 0 a.room b.room

-- the version of a place was read by one step without its latch, and nothing else was done: the session notes nothing, and the version doesn't count as
-- read. It has read no later version there
pub record MissesVersion (place version : ℕ) (a b : SessionView) : Type 0 where
  pub now : b.me ≡ met_version place version a.me
  pub same : b ≡ record a { me = b.me; room = b.room }
  pub room : KeepsRoom 0 a.room b.room
  pub newest : Each (λ (r : Reading). r.standing.version ≤ version) (reads_at place a.me.0.reads)

-- the version of a place was read likewise, and it is that of a definition which the session had read there, and which agrees with all that it knows of
-- the place. The session notes the version under each ticket that it has there
pub record FindsVersion (place : ℕ) (standing : VersionedDefinition) (a b : SessionView) : Type 0 where
  pub now : b.me ≡ noted_version place standing.version a.me
  pub same : b ≡ record a { me = b.me; room = b.room }
  pub room : KeepsRoom 0 a.room b.room
  pub read : Contains a.me.0.reads (record { place = place; standing = standing })
  pub follows : Follows place standing a.me

-- the version and definition of the key of a ticket's place were read in one visit. It raised no flag, and left the directory alone
abbrev pub ReadsByLatch : ℕ → SessionTicket → VersionedDefinition → SessionView → SessionView → Type 0
ReadsByLatch id t standing a b =
    Follows t.place standing a.me
    × SeatReadsThere t.place standing a.me b.me
    × ShowsStep a b (λ e. MeetsStanding t.place a.me.0.number standing e
    × (numbered id a.me.0.slow ≡ Some t → WasHeld t.place a.me.0.number id e))
    × VisitsOnce t.place a.me b.me
    × StaysQuiet a.me b.me

-- the session visited a place once, and did nothing there. It raised no flag, and left the directory alone
abbrev pub VisitsInVain : ℕ → SessionView → SessionView → Type 0
VisitsInVain place a b = Visits place [] a.me b.me × VisitsOnce place a.me b.me × StaysQuiet a.me b.me
