-- What a session reads and changes under its tickets: the version and definition of a key. And which tables of a schema it is given.
use Rattle.std.specs.Prelude.{◌≡◌, ◌⊎◌, ℕ, ◌+◌, Bool, true, false, ◌&&◌, List, Some, MatchOption, Contains, All, AllPairs}
use Rattle.mdl_defs.specs.declared.change_error.ChangeError.TheVariants as fault
use Rattle.std.specs.Str.{bytes_eq}
use Rattle.mdl_calls.specs.Prelude.{Change, ChangeError, Def, Held, KeyName, Less, Namespace, OutOfMemory, SpaceError, Table, VersionFull, VersionedDefinition, WrongKind, key_cmp, standing_fault, table_key}
use Rattle.mdl_calls.specs.Causes.{Knowledge}
use Rattle.mdl_calls.specs.Interface.{Answer, Refused, Changed}
use Rattle.mdl_calls.specs.SessionLocks.{SessionLocks, Wait}

-- a session holds a ticket at a place
abbrev pub HoldsAt : ℕ → SessionLocks → Type 0
HoldsAt place own = (ticket : Held) × Contains own.held ticket × (ticket.place ≡ place)

-- a session has a wait at a place
abbrev pub AwaitsAt : ℕ → SessionLocks → Type 0
AwaitsAt place own = (wait : Wait) × (own.wait ≡ Some wait) × (wait.place ≡ place)

-- the error that a space returns if a definition can't be changed for this cause
abbrev pub cause_of : ChangeError → SpaceError
cause_of fault.VersionFull = VersionFull
cause_of fault.WrongKind = WrongKind
cause_of (fault.Def why) = Def why
cause_of fault.OutOfMemory = OutOfMemory

-- the answer to a change of a key that had this version and definition: a refusal for its cause, if there is one, and otherwise
-- the next version. But memory may run out before that.
abbrev pub IsChangeOf : KeyName → Change → VersionedDefinition → Answer → Type 0
IsChangeOf key change standing answer =
    (answer ≡ Refused OutOfMemory)
    ⊎ MatchOption (standing_fault key.namespace change standing) (answer ≡ Changed (standing.version + 1)) (λ why. answer ≡ Refused (cause_of why))

-- whether the keys of a namespace are those of tables
abbrev pub is_of_tables : Namespace → Bool
is_of_tables Table = true
is_of_tables _ = false

-- whether a key is a table's in this schema
abbrev pub is_table_of : List ℕ → KeyName → Bool
is_table_of schema key = is_of_tables key.namespace && bytes_eq key.schema schema

-- a session knows that the key of the place is a table's in this schema
abbrev pub HasTableOf : Knowledge → List ℕ → ℕ → Type 0
HasTableOf knows schema place = (table : List ℕ) × knows place (table_key schema table)

-- the key of the one place comes before that of the other
abbrev pub ComesBefore : Knowledge → ℕ → ℕ → Type 0
ComesBefore knows one other = (key later : KeyName) → knows one key → knows other later → key_cmp key later ≡ Less

-- these are places of tables of this schema, as the session knows, in the order of their keys, each once
abbrev pub AreTablesOf : Knowledge → List ℕ → List ℕ → Type 0
AreTablesOf knows schema places = All (HasTableOf knows schema) places × AllPairs (ComesBefore knows) places
