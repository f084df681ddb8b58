-- The names of locks and sessions, and how names of any bytes are printed. The wording is this project's own.
use Rattle.std.specs.Prelude.{ℕ, Bool, ◌||◌, ◌==◌, ◌-◌, ◌+◌, ◌/◌, ◌%◌, nat_lt, List, [], ◌∷◌, ◌++◌, Option, Some, None, codes, flat_map, get_or, is_some, slice_get, if◌then◌else◌}
use Rattle.std.specs.Fmt.{decimal}
use Rattle.std.specs.List.{list_any}
use Rattle.mdl_key.specs.declared.namespace.Namespace.{Namespace}
use Rattle.mdl_key.specs.declared.namespace.Namespace.TheVariants as space
use Rattle.mdl_book.specs.declared.book_view.BookView.{BookView}
use Rattle.mdl_lock_rows.specs.declared.object_type.ObjectType.{ObjectType}
use Rattle.mdl_lock_rows.specs.declared.object_type.ObjectType.TheVariants.{Global, Schema, Table, Commit, UserLevelLock, Function, Procedure, Trigger, Event, Tablespace, LockingService, PackageBody, Backup, BackupLock}
use Rattle.mdl_lock_rows.specs.Owners.{OwnerView}

-- the names of locks, by their indices from 0 on, and what a server's rows say of the sessions 1, 2, .. Of a script's sessions no row says anything
pub record NamesView : Type 0 where
  pub locks : List (List ℕ)
  pub owners : List OwnerView

-- the name of the lock with this index. A lock without a name is printed as nothing
abbrev pub lock_name : NamesView → ℕ → List ℕ
lock_name names place = get_or names.locks place []

-- what rows say of a session, if they say anything. No session has the number 0
abbrev pub owner_of : NamesView → ℕ → Option OwnerView
owner_of names session = if session == 0 then None else slice_get names.owners (session - 1)

-- whether rows have the numbers of connections, which KILL takes
abbrev pub has_connection : OwnerView → Bool
has_connection owner = is_some owner.connection

abbrev pub knows_connections : NamesView → Bool
knows_connections names = list_any has_connection names.owners

-- ---- sessions

-- a number with what comes before it and after it
abbrev pub numbered : List ℕ → ℕ → List ℕ → List ℕ
numbered before number after = before ++ decimal number ++ after

-- a server's session: by its connection and its thread, or by its thread alone if the connection isn't known
abbrev pub thread_text : Option ℕ → ℕ → List ℕ
thread_text (Some connection) thread = numbered (codes "connection ") connection (codes " (thread ") ++ numbered [] thread (codes ")")
thread_text None thread = codes "thread " ++ decimal thread

-- a session of this number: a script's session has no other one
abbrev pub session_by : Option OwnerView → ℕ → List ℕ
session_by (Some owner) session = thread_text owner.connection owner.thread
session_by None session = codes "session " ++ decimal session

abbrev pub session_text : NamesView → ℕ → List ℕ
session_text names session = session_by (owner_of names session) session

-- ---- names of any bytes

-- whether a byte is a control byte, which would change how a line looks
abbrev pub is_control : ℕ → Bool
is_control byte = nat_lt byte 32 || byte == 127

-- half a byte as a hexadecimal digit from 0 to f
abbrev pub hex_digit : ℕ → ℕ
hex_digit half = if nat_lt half 10 then 48 + half else 87 + half

-- a byte as it is printed: a backslash has a backslash before it, and a control byte is a backslash, an x and its two digits
abbrev pub shown_byte : ℕ → List ℕ
shown_byte byte =
    if byte == 92 then 92 ∷ 92 ∷ []
    else (if is_control byte then 92 ∷ 120 ∷ hex_digit (byte / 16) ∷ hex_digit (byte % 16) ∷ [] else byte ∷ [])

-- a byte of a name: a dot has a backslash before it, too
abbrev pub printed_byte : ℕ → List ℕ
printed_byte byte = if byte == 46 then 92 ∷ 46 ∷ [] else shown_byte byte

abbrev pub printed : List ℕ → List ℕ
printed name = flat_map printed_byte name

-- ---- locks

-- an object of a schema, as in TABLE shop.orders
abbrev pub object_text : List ℕ → List ℕ → List ℕ → List ℕ
object_text type schema name = type ++ printed schema ++ 46 ∷ printed name

-- something with one name, as in SCHEMA shop
abbrev pub named_text : List ℕ → List ℕ → List ℕ
named_text type name = type ++ printed name

-- the name of a lock, by its object's type, its schema and its name
abbrev pub key_text : ObjectType → List ℕ → List ℕ → List ℕ
key_text Global schema name = codes "GLOBAL"
key_text Commit schema name = codes "COMMIT"
key_text Backup schema name = codes "BACKUP"
key_text BackupLock schema name = codes "BACKUP LOCK"
key_text Schema schema name = named_text (codes "SCHEMA ") schema
key_text Tablespace schema name = named_text (codes "TABLESPACE ") name
key_text UserLevelLock schema name = named_text (codes "USER ") name
key_text Table schema name = object_text (codes "TABLE ") schema name
key_text Function schema name = object_text (codes "FUNCTION ") schema name
key_text Procedure schema name = object_text (codes "PROCEDURE ") schema name
key_text Trigger schema name = object_text (codes "TRIGGER ") schema name
key_text Event schema name = object_text (codes "EVENT ") schema name
key_text LockingService schema name = object_text (codes "LOCKING SERVICE ") schema name
key_text PackageBody schema name = object_text (codes "PACKAGE BODY ") schema name

-- the name of the lock of a book. A book keeps the name of a user-level lock in place of a schema's
abbrev pub space_text : Namespace → List ℕ → List ℕ → List ℕ
space_text space.Global schema table = key_text Global [] []
space_text space.Commit schema table = key_text Commit [] []
space_text space.Schema schema table = key_text Schema schema []
space_text space.Table schema table = key_text Table schema table
space_text space.UserLevelLock schema table = key_text UserLevelLock [] schema

abbrev pub book_text : BookView → List ℕ
book_text book = space_text book.key.namespace book.key.schema book.key.table
