-- What a session meets, reads and changes at a place where it holds a ticket: versions and definitions. And why a change is refused.
use Rattle.std.specs.Prelude.{◌≡◌, ◌≢◌, ◌⊎◌, ℕ, ◌+◌, true, List, [], ◌∷◌, ◌++◌, Some, None}
use Rattle.mdl_calls.specs.Prelude.{Change, ChangeError, Held, KeyName, MayStand, OutOfMemory, Reading, SpaceError, VersionedDefinition, X, key_known, same_mode, standing_after, standing_fault}
use Rattle.mdl_calls.specs.Causes.{OfHeld}
use Rattle.mdl_calls.specs.Reads.{HoldsAt, cause_of}
use Rattle.mdl_calls.specs.SessionData.{SessionData, noted_at, last_read, is_newest}

-- the version and definition that a session may meet at a place where it holds a ticket: they are valid for the key that it knows there, and the version
-- is the one that it noted there, if it noted one. The session has read nothing newer there, and if it read the same version last, it read the same
-- definition.
pub record Meets (place : ℕ) (standing : VersionedDefinition) (a : SessionData) : Type 0 where
  pub fits : (key : KeyName) → key_known place a.known ≡ Some key → MayStand key.namespace standing
  pub noted : (version : ℕ) → noted_at place a.notes ≡ Some version → version ≡ standing.version
  pub newest : is_newest place standing.version a.reads ≡ true
  pub same : (last : VersionedDefinition) → last_read place a.reads ≡ Some last → last.version ≡ standing.version → last ≡ standing

-- what was read at the place is added after all earlier reads, or it was the last read there already
abbrev pub IsLast : ℕ → VersionedDefinition → List Reading → List Reading → Type 0
IsLast place standing before after =
    (after ≡ before ++ record { place = place; standing = standing } ∷ [])
    ⊎ ((after ≡ before) × (last_read place before ≡ Some standing))

-- the session has read this last at the place, and has noted its version. Its notes of other places are unchanged.
pub record NotesThere (place : ℕ) (standing : VersionedDefinition) (a b : SessionData) : Type 0 where
  pub last : IsLast place standing a.reads b.reads
  pub here : noted_at place b.notes ≡ Some standing.version
  pub elsewhere : (other : ℕ) → other ≢ place → noted_at other b.notes ≡ noted_at other a.notes

-- the session reads nothing. A version that is noted was noted before, and one that was noted stays noted as long as a ticket is held there.
pub record ReadsNothing (a b : SessionData) : Type 0 where
  pub reads : b.reads ≡ a.reads
  pub noted : (place version : ℕ) → noted_at place b.notes ≡ Some version → noted_at place a.notes ≡ Some version
  pub carried : (place version : ℕ) → HoldsAt place b.own → noted_at place a.notes ≡ Some version → noted_at place b.notes ≡ Some version

-- the session reads this at a place
abbrev pub ReadsThere : VersionedDefinition → SessionData → SessionData → ℕ → Type 0
ReadsThere standing a b place = Meets place standing a × NotesThere place standing a b

-- the session changes the definition that it met at a place, which could be changed so, to this version
pub record ChangesThere (change : Change) (version : ℕ) (a b : SessionData) (place : ℕ) : Type 0 where
  pub stood : VersionedDefinition
  pub meets : Meets place stood a
  pub allowed : (key : KeyName) → key_known place a.known ≡ Some key → standing_fault key.namespace change stood ≡ None
  pub newer : version ≡ stood.version + 1
  pub notes : NotesThere place (standing_after change stood) a b

-- the definition that the session met at a place couldn't be changed so, and this is the error for it
pub record MeetsFault (change : Change) (cause : SpaceError) (a : SessionData) (place : ℕ) : Type 0 where
  pub stood : VersionedDefinition
  pub meets : Meets place stood a
  pub why : ChangeError
  pub fault : (key : KeyName) → key_known place a.known ≡ Some key → standing_fault key.namespace change stood ≡ Some why
  pub told : cause ≡ cause_of why

-- why a change is refused under a ticket: the ticket isn't held in mode X, or memory ran out, or the place's definition can't be changed so
abbrev pub IsRefusedFor : Change → SpaceError → SessionData → Held → Type 0
IsRefusedFor change cause a ticket = same_mode ticket.mode X ≡ true → (cause ≡ OutOfMemory) ⊎ MeetsFault change cause a ticket.place

-- the session reads nothing; or memory ran out after it met a version and definition at the ticket's place that it had read already
abbrev pub ReadsInVain : SpaceError → ℕ → SessionData → SessionData → Type 0
ReadsInVain cause id a b =
    ReadsNothing a b
    ⊎ ((cause ≡ OutOfMemory) × OfHeld id a.own (λ ticket. (standing : VersionedDefinition) × (b.reads ≡ a.reads) × ReadsThere standing a b ticket.place))
