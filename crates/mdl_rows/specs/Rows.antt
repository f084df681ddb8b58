-- Rows: what a statement does, one step after the other. Waits don't appear in a row: a requested lock is granted, or the
-- statement has ended.
use Rattle.std.specs.Prelude.{ℕ, Bool, true, false, List, [], ◌∷◌, Option}
use Rattle.mdl_key.specs.declared.mode.Mode.{Mode}
use Rattle.mdl_key.specs.declared.mode.Duration.{Duration}
use Rattle.mdl_key.specs.Keys.{KeyName}
use Rattle.mdl_defs.specs.declared.change.Change.{Change}
use Rattle.mdl_defs.specs.declared.versioned_definition.VersionedDefinition.{VersionedDefinition}
use Rattle.mdl_context.specs.declared.kept.Kept.{Kept}
use Rattle.mdl_context.specs.declared.request.Mark.{Mark}
use Rattle.mdl_context.specs.Wishes.{Wish}
use Rattle.mdl_rows.specs.declared.error_number.ErrorNumber.{ErrorNumber}
use Rattle.mdl_rows.specs.States.{State}

-- the next step of a row, and the rest, which may depend on the step's result
pub data Row (A : Type 0) : Type 0 where
  -- the end of the row, with a result
  Give : A → Row A
  -- the statement ends and fails with this error
  Fail : ErrorNumber → Row A
  -- the code may take memory. If it runs out, the statement ends
  Room : Row A → Row A
  -- reads or changes the session's state
  Look : (State → Row A) → Row A
  Set : (State → State) → Row A → Row A
  -- reads the session's current mark
  Here : (Mark → Row A) → Row A
  -- requests a lock, and waits for it if necessary. The rest gets the ticket's number
  Acquire : Wish → (ℕ → Row A) → Row A
  -- requests a lock without waiting. The rest gets the ticket's number, or none if the lock can't be granted now
  Try_acquire : Wish → (Option ℕ → Row A) → Row A
  -- looks up the session's last-gained ticket of this key, if there is one
  Last : KeyName → (Option ℕ → Row A) → Row A
  -- upgrades a ticket of this key to a stronger mode, and waits for that if necessary. The rest gets the ticket's number
  Upgrade : (id : ℕ) → KeyName → Mode → (ℕ → Row A) → Row A
  -- downgrades a ticket to a weaker mode
  Downgrade : (id : ℕ) → Mode → Row A → Row A
  -- releases some of the session's tickets
  Give_up : (List Kept → List Kept) → Row A → Row A
  -- releases one ticket
  Release : (id : ℕ) → Row A → Row A
  -- makes all the session's tickets explicit
  Keep : Row A → Row A
  -- reads the version and definition of a ticket's key
  Read : (id : ℕ) → (VersionedDefinition → Row A) → Row A
  -- changes the definition of a ticket's key
  Redefine : (id : ℕ) → Change → Row A → Row A
  -- reads the places of a schema's tables that have a definition
  Tables_of : (schema : List ℕ) → (List ℕ → Row A) → Row A
  -- reads the key of a place
  Key_of : (place : ℕ) → (KeyName → Row A) → Row A
  -- kills a session's wait, if it has one
  Kill : (target : ℕ) → Row A → Row A

infixl 20 ◌>>=◌
-- one row, and then the row that its result leads to
abbrev pub ◌>>=◌ : {A B : Type 0} → Row A → (A → Row B) → Row B
Give x >>= next = next x
Fail number >>= next = Fail number
Room rest >>= next = Room (rest >>= next)
Look rest >>= next = Look (λ state. rest state >>= next)
Set change rest >>= next = Set change (rest >>= next)
Here rest >>= next = Here (λ mark. rest mark >>= next)
Acquire wish rest >>= next = Acquire wish (λ id. rest id >>= next)
Try_acquire wish rest >>= next = Try_acquire wish (λ got. rest got >>= next)
Last key rest >>= next = Last key (λ held. rest held >>= next)
Upgrade id key mode rest >>= next = Upgrade id key mode (λ id. rest id >>= next)
Downgrade id mode rest >>= next = Downgrade id mode (rest >>= next)
Give_up which rest >>= next = Give_up which (rest >>= next)
Release id rest >>= next = Release id (rest >>= next)
Keep rest >>= next = Keep (rest >>= next)
Read id rest >>= next = Read id (λ standing. rest standing >>= next)
Redefine id change rest >>= next = Redefine id change (rest >>= next)
Tables_of schema rest >>= next = Tables_of schema (λ places. rest places >>= next)
Key_of place rest >>= next = Key_of place (λ key. rest key >>= next)
Kill target rest >>= next = Kill target (rest >>= next)

infixl 20 ◌>>◌
-- one row, and then another
abbrev pub ◌>>◌ : {A B : Type 0} → Row A → Row B → Row B
first >> second = first >>= (λ _. second)

-- a row without a result
abbrev pub Act : Type 0
Act = Row (Unit {0})

-- the row that does nothing
abbrev pub nothing : Act
nothing = Give (tt {0})

-- rows of a single step
abbrev pub room : Act
room = Room nothing

abbrev pub look : Row State
look = Look Give

abbrev pub set : (State → State) → Act
set change = Set change nothing

abbrev pub here : Row Mark
here = Here Give

abbrev pub acquire : KeyName → Mode → Duration → Row ℕ
acquire key mode duration = Acquire (record { key = key; mode = mode; duration = duration }) Give

abbrev pub try_acquire : KeyName → Mode → Duration → Row (Option ℕ)
try_acquire key mode duration = Try_acquire (record { key = key; mode = mode; duration = duration }) Give

abbrev pub last_of : KeyName → Row (Option ℕ)
last_of key = Last key Give

abbrev pub upgrade : ℕ → KeyName → Mode → Row ℕ
upgrade id key mode = Upgrade id key mode Give

abbrev pub downgrade : ℕ → Mode → Act
downgrade id mode = Downgrade id mode nothing

abbrev pub give_up : (List Kept → List Kept) → Act
give_up which = Give_up which nothing

abbrev pub release : ℕ → Act
release id = Release id nothing

abbrev pub keep : Act
keep = Keep nothing

abbrev pub read : ℕ → Row VersionedDefinition
read id = Read id Give

abbrev pub redefine : ℕ → Change → Act
redefine id change = Redefine id change nothing

abbrev pub tables_within : List ℕ → Row (List ℕ)
tables_within schema = Tables_of schema Give

abbrev pub key_of : ℕ → Row KeyName
key_of place = Key_of place Give

abbrev pub kill : ℕ → Act
kill target = Kill target nothing

-- a check: if it isn't passed, the statement fails with this error
abbrev pub check : Bool → ErrorNumber → Act
check true number = nothing
check false number = Fail number

-- requests locks, one after the other. The result is their tickets
abbrev pub acquire_all : List Wish → Row (List ℕ)
acquire_all [] = Give []
acquire_all (wish ∷ wishes) = do
  ticket ← Acquire wish Give
  tickets ← acquire_all wishes
  Give (ticket ∷ tickets)

-- does the same for each of these numbers, one after the other
abbrev pub for_each : (ℕ → Act) → List ℕ → Act
for_each act [] = nothing
for_each act (id ∷ ids) = do
  act id
  for_each act ids
