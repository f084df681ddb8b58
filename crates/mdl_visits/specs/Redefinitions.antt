-- A change of a key's definition, as the session that makes it meets it: by its exclusive ticket it changes the definition in the book, under the latch of
-- the place, and writes the word of the version.
use Rattle.std.specs.Prelude.{◌≡◌, ◌⊎◌, ℕ, ◌+◌, List, ◌∷◌, [], ◌++◌, Option, Some, None, if◌then◌else◌}
use Rattle.mdl_calls.specs.Reads.{cause_of}
use Rattle.mdl_calls.specs.declared.space_error.SpaceError.TheVariants.{NotHeld, NotExclusive}
use Rattle.mdl_calls.specs.declared.space_error.SpaceError.{SpaceError}
use Rattle.mdl_visits.specs.FirstWords.{AreStepsOf, Change, ChangeError, Drop, Follows, IsStepOf, KeyName, KnownKey, LatchRecord, Mine, OutOfMemory, PutLatch, SessionTicket, StepRecord, TakeLatch, VersionedDefinition, WriteVersion, X, get_elem?, held_at, latch_word, numbered, redefined, restood, same_mode, some, standing_after, standing_fault, unlatched, version_word}

-- why a change under a ticket is refused: there is no such ticket, or it isn't exclusive
abbrev pub exclusive_fault : Option SessionTicket → Option SpaceError
exclusive_fault None = Some NotHeld
exclusive_fault (Some t) = if same_mode t.mode X then None else Some NotExclusive

-- one of the tickets is exclusive, at this place
abbrev pub HasExclusiveAt : ℕ → List SessionTicket → Type 0
HasExclusiveAt place tickets = (number : ℕ) × (t : SessionTicket) × (numbered number tickets ≡ Some t) × (t.place ≡ place) × (t.mode ≡ X)

-- the session has written the version of this new definition at a place, and has given the latch back
abbrev pub redefined_and_put : ℕ → VersionedDefinition → Mine → Mine
redefined_and_put place standing m = unlatched place [] (redefined place standing m)

-- what a change to this version met. One step took the latch, by whose record the definition there could be changed so. Another wrote the version: it
-- found the version before, and by its record the definition is changed, and the rest of the record is the same
pub record MeetsChange (place : ℕ) (change : Change) (version : ℕ) (take write : StepRecord) : Type 0 where
  pub takes : take.kind ≡ TakeLatch
  pub writes : write.kind ≡ WriteVersion
  pub latched : take.word ≡ latch_word place
  pub free : take.found ≡ 0
  pub latch : LatchRecord
  pub held : held_at place take.held ≡ Some latch
  pub allowed : standing_fault latch.book.key.namespace change latch.book.standing ≡ None
  pub newer : version ≡ latch.book.standing.version + 1
  pub written : write.word ≡ version_word place
  pub older : write.found ≡ latch.book.standing.version
  pub stands : held_at place write.held ≡ Some (restood (standing_after change latch.book.standing) latch)

-- this is the key at a place, if the session knows the key there
abbrev pub IsNamed : ℕ → KeyName → Mine → Type 0
IsNamed place key m = (i : ℕ) (k : KnownKey) → get_elem? m.0.known i ≡ some k → k.place ≡ place → key ≡ k.key

-- between the two the session changed the definition at a place, which has this version then. The definition before agrees with what the session read and
-- noted there, its key is the one that the session knows to be there, and the session has read the new definition
pub record Redefines (place : ℕ) (change : Change) (version : ℕ) (m m′ : Mine) : Type 0 where
  pub take : StepRecord
  pub write : StepRecord
  pub steps : AreStepsOf m m′ take write
  pub meets : MeetsChange place change version take write
  pub follows : Follows place meets.latch.book.standing m
  pub named : IsNamed place meets.latch.book.key m
  pub learnt : m′.0.reads ≡ m.0.reads ++ record { place = place; standing = standing_after change meets.latch.book.standing } ∷ []

-- a step that gave the latch of a place back, whose record shows why the definition there couldn't be changed so
pub record MeetsChangeFault (place session : ℕ) (change : Change) (why : ChangeError) (e : StepRecord) : Type 0 where
  pub kind : e.kind ≡ PutLatch
  pub word : e.word ≡ latch_word place
  pub freed : e.found ≡ session
  pub latch : LatchRecord
  pub held : held_at place e.held ≡ Some latch
  pub fault : standing_fault latch.book.key.namespace change latch.book.standing ≡ Some why

-- why a session's change at a place was refused: a step met the fault, in a definition that agrees with what the session read and noted there, or memory
-- ran out, which `Drop` doesn't need
abbrev pub IsChangeRefused : ℕ → ℕ → Change → ChangeError → Mine → Mine → Type 0
IsChangeRefused place session change why m m′ =
    ((e : StepRecord) × IsStepOf m m′ e × (met : MeetsChangeFault place session change why e) × Follows place met.latch.book.standing m
    × IsNamed place met.latch.book.key m) ⊎ ((why ≡ OutOfMemory) × (change ≡ Drop → ⊥))

-- the same as an error of a lock space
abbrev pub IsRefusedAs : ℕ → ℕ → Change → SpaceError → Mine → Mine → Type 0
IsRefusedAs place session change cause m m′ = (why : ChangeError) × (cause ≡ cause_of why) × IsChangeRefused place session change why m m′
