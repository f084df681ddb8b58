-- What a session meets as it looks a key's place up, and what it knows then.
use Rattle.std.specs.Prelude.{◌≡◌, ℕ, ◌+◌, ◌<◌, ◌≤◌, ◌⊎◌, List, ◌∷◌, [], ◌++◌, length, Some, None, Result, Ok, Err, IfOk}
use Rattle.mdl_steps.specs.declared.slot.Slot.TheVariants as slot
use Rattle.mdl_visits.specs.FirstWords.{AllQuiet, Each, HasDirectory, IsDirectory, IsQuiet, KeyName, Keys, KnownKey, MakesSteps, Mine, NoPlace, PutLatch, ResolveError, SeatState, StepRecord, and_made, consulted, deeds_of, key_at, latch_word, listing, place_among, rest}
use Rattle.mdl_visits.specs.declared.resolve_error.ResolveError.TheVariants.{OutOfMemory}

-- what a session has, with one more key that it knows
abbrev pub knowing_key : KnownKey → Mine → Mine
knowing_key known m = (record m.0 { known = m.0.known ++ known ∷ [] }, m.1)

-- the session knows that a key has this place of the table, and nothing else changed, except that steps without deeds were made
abbrev pub LearnsKeyPlace : KeyName → ℕ → SeatState → SeatState → Type 0
LearnsKeyPlace key place s s′ =
    (0 < place) × (place < s.table.slots) × MakesSteps (knowing_key (record { key = key; place = place }) s.me) s′.me

-- the step that gives the directory's latch back, by whose record these are the keys
abbrev pub given_back : Keys → Mine → StepRecord
given_back k m = record { kind = PutLatch; deeds = []; word = latch_word 0; found = m.0.number; held = m.0.latches; directory = Some k }

-- a step that raised no flag, at which the session had one of these two records of the directory
abbrev pub HadEither : Keys → Keys → StepRecord → Type 0
HadEither k left e = IsQuiet (Some k) e ⊎ IsQuiet (Some left) e

-- one of the steps between the two took the directory's latch, and this is the record that was made of it. A later one gave it back, with the record that
-- is left then. Between these the session had one of the two records at each step, and at all other steps it had none. No step raised a flag
pub record TookDirectory (slots : ℕ) (k left : Keys) (old new : Mine) : Type 0 where
  pub before : List StepRecord
  pub within : List StepRecord
  pub after : List StepRecord
  pub recorded : IsDirectory slots k (and_made before old)
  pub listed : new.0.log ≡ (consulted k (and_made before old)).0.log ++ (within ++ given_back left old ∷ after)
  pub none_before : AllQuiet None before
  pub either_within : Each (HadEither k left) within
  pub none_after : AllQuiet None after

-- the directory's latch was taken and given back, its record is unchanged, and this holds of the record
abbrev pub AsksDirectory : SeatState → SeatState → (Keys → Type 0) → Type 0
AsksDirectory s s′ IsSo = (k : Keys) × TookDirectory s.table.slots k k s.me s′.me × IsSo k

-- the answer by the directory's record, and the record that is left. A key that has a place keeps it, and that takes no memory. A new one gets the place
-- after all others, if there is one, and nothing else changes
abbrev pub IsLookupAnswer : ℕ → KeyName → Keys → Keys → Result ℕ ResolveError → Type 0
IsLookupAnswer slots key k left (Ok place) =
    ((place_among key k.keys ≡ Some place) × (left ≡ k)) ⊎ ((place_among key k.keys ≡ None) × (place ≡ length k.keys + 1) × (left ≡ listing key k))
IsLookupAnswer slots key k left (Err NoPlace) = (place_among key k.keys ≡ None) × (slots ≤ length k.keys + 1) × (left ≡ k)
IsLookupAnswer slots key k left (Err OutOfMemory) = (place_among key k.keys ≡ None) × (length k.keys + 1 < slots) × (left ≡ k)

-- ---- while the session holds the directory's latch

-- the session holds the directory's latch and no other, and this is its directory, which has no more keys than the table has places
pub record HoldsKeys (k : Keys) (s : SeatState) : Type 0 where
  pub has : HasDirectory k s.me
  pub alone : s.me.0.latches ≡ []
  pub fit : length k.keys < s.table.slots

-- the key has no place by this directory, and may get this one, which is the next
pub record IsNext (place : ℕ) (key : KeyName) (k : Keys) (s : SeatState) : Type 0 where
  pub holds : HoldsKeys k s
  pub new : place_among key k.keys ≡ None
  pub next : place ≡ length k.keys + 1
  pub inside : place < s.table.slots

-- steps were made, and the seat has this record of the directory's latch and this directory in hand
abbrev pub relisted : List StepRecord → Keys → Mine → Mine
relisted made k m = (record m.0 { log = m.0.log ++ made; directory = Some k }, (0, slot.Directory k) ∷ rest m.1)

-- a key's place was looked up by a record that the seat had. The seat has the record that is left then, by which the key is at the place of the answer.
-- Nothing else changed, except that steps without deeds were made
pub record HasLooked (slots : ℕ) (key : KeyName) (k : Keys) (result : Result ℕ ResolveError) (old new : Mine) : Type 0 where
  pub made : List StepRecord
  pub left : Keys
  pub seat : new ≡ relisted made left old
  pub had : Each (HadEither k left) made
  pub did : deeds_of made ≡ []
  pub answer : IsLookupAnswer slots key k left result
  pub stands : IfOk result (λ place. (0 < place) × (place < slots) × (key_at left.keys place ≡ Some key))

-- the new key was given its place: the seat has the record with it from then on, and at each step before it had one of the two records
abbrev pub HasNamed : KeyName → Keys → Mine → Mine → Type 0
HasNamed key k old new = (made : List StepRecord) × (new ≡ relisted made (listing key k) old) × Each (HadEither k (listing key k)) made × (deeds_of made ≡ [])

-- a new key was added to the directory in hand for the next place, which isn't recorded yet
pub record IsAddedToDirectory (place : ℕ) (key : KeyName) (k : Keys) (m : Mine) : Type 0 where
  pub recorded : m.0.directory ≡ Some k
  pub carried : m.1 ≡ (0, slot.Directory (listing key k)) ∷ rest m.1
  pub new : place_among key k.keys ≡ None
  pub next : place ≡ length k.keys + 1
