-- The server's names, after MySQL 5.7: storage/perfschema/table_helper.cc (object types) and table_md_locks.cc (lock types, durations and
-- statuses), and after the same files of MariaDB 10.5 (`BACKUP`, `PACKAGE BODY`, and the lock types of `BACKUP`) and MySQL 8.0 (`BACKUP LOCK`). MariaDB
-- has no text for the lock type SHARED_READ_ONLY, and prints an empty one. That a lock type may begin with `MDL_`, as MariaDB's METADATA_LOCK_INFO writes it, and
-- which rows are left out is this project's own choice.
use Rattle.std.specs.Prelude.{ℕ, Bool, true, false, ◌==◌, List, [], ◌∷◌, drop, take, length, codes, Option, Some, Result, find, ok_or, option_and_then, if◌then◌else◌}
use Rattle.std.specs.Bool.{then_some}
use Rattle.std.specs.Option.{option_map}
use Rattle.mdl_key.specs.declared.mode.Duration.{Duration}
use Rattle.mdl_key.specs.declared.mode.Duration.TheVariants.{Statement, Transaction, Explicit}
use Rattle.mdl_key.specs.declared.mode.Mode.{Mode}
use Rattle.mdl_key.specs.declared.mode.Mode.TheVariants.{IX, S, SH, SR, SW, SWLP, SU, SRO, SNW, SNRW, X}
use Rattle.mdl_key.specs.declared.namespace.Kind.TheVariants as key
use Rattle.mdl_key.specs.Words.{all_modes, is_mode_of}
use Rattle.mdl_lines.specs.Words.{same_text}
use Rattle.mdl_view.specs.declared.lock_mode.BackupMode.{BackupMode}
use Rattle.mdl_view.specs.declared.lock_mode.BackupMode.TheVariants as backup
use Rattle.mdl_view.specs.declared.lock_mode.LockKind.{LockKind}
use Rattle.mdl_view.specs.declared.lock_mode.LockKind.TheVariants as kind
use Rattle.mdl_view.specs.declared.lock_mode.LockMode.{LockMode}
use Rattle.mdl_view.specs.declared.lock_mode.LockMode.TheVariants.{Backup, Mdl}
use Rattle.mdl_view.specs.Modes.{backup_mode_name}
use Rattle.mdl_lock_rows.specs.declared.object_type.ObjectType.{ObjectType}
use Rattle.mdl_lock_rows.specs.declared.object_type.ObjectType.TheVariants as object
use Rattle.mdl_lock_rows.specs.declared.row.Request.{Request}
use Rattle.mdl_lock_rows.specs.declared.row.Status.{Status}
use Rattle.mdl_lock_rows.specs.declared.row.Status.TheVariants.{Granted, Pending, Victim, Timeout, Killed, PreAcquireNotify, PostReleaseNotify}
use Rattle.mdl_lock_rows.specs.declared.row_error.RowError.{RowError}
use Rattle.mdl_lock_rows.specs.declared.row_error.RowError.TheVariants.{UnknownDuration, UnknownStatus}
use Rattle.mdl_lock_rows.specs.Keys.{kind_of_type}

-- the OBJECT_TYPE of an object type
abbrev pub object_type_name : ObjectType → List ℕ
object_type_name object.Global = codes "GLOBAL"
object_type_name object.Schema = codes "SCHEMA"
object_type_name object.Table = codes "TABLE"
object_type_name object.Commit = codes "COMMIT"
object_type_name object.UserLevelLock = codes "USER LEVEL LOCK"
object_type_name object.Function = codes "FUNCTION"
object_type_name object.Procedure = codes "PROCEDURE"
object_type_name object.Trigger = codes "TRIGGER"
object_type_name object.Event = codes "EVENT"
object_type_name object.Tablespace = codes "TABLESPACE"
object_type_name object.LockingService = codes "LOCKING SERVICE"
object_type_name object.PackageBody = codes "PACKAGE BODY"
object_type_name object.Backup = codes "BACKUP"
object_type_name object.BackupLock = codes "BACKUP LOCK"

-- all object types
abbrev pub all_object_types : List ObjectType
all_object_types =
    object.Global ∷ object.Schema ∷ object.Table ∷ object.Commit ∷ object.UserLevelLock ∷ object.Function ∷ object.Procedure ∷ object.Trigger ∷ object.Event
    ∷ object.Tablespace ∷ object.LockingService ∷ object.PackageBody ∷ object.Backup ∷ object.BackupLock ∷ []

-- the LOCK_TYPE of a mode
abbrev pub lock_type_name : Mode → List ℕ
lock_type_name IX = codes "INTENTION_EXCLUSIVE"
lock_type_name S = codes "SHARED"
lock_type_name SH = codes "SHARED_HIGH_PRIO"
lock_type_name SR = codes "SHARED_READ"
lock_type_name SW = codes "SHARED_WRITE"
lock_type_name SWLP = codes "SHARED_WRITE_LOW_PRIO"
lock_type_name SU = codes "SHARED_UPGRADABLE"
lock_type_name SRO = codes "SHARED_READ_ONLY"
lock_type_name SNW = codes "SHARED_NO_WRITE"
lock_type_name SNRW = codes "SHARED_NO_READ_WRITE"
lock_type_name X = codes "EXCLUSIVE"

-- all modes of the lock of backups
abbrev pub all_backup_modes : List BackupMode
all_backup_modes =
    backup.Start ∷ backup.Flush ∷ backup.WaitFlush ∷ backup.WaitDdl ∷ backup.WaitCommit ∷ backup.Ftwrl1 ∷ backup.Ftwrl2 ∷ backup.Dml ∷ backup.TransDml ∷ backup.SysDml
    ∷ backup.Ddl ∷ backup.BlockDdl ∷ backup.AlterCopy ∷ backup.Commit ∷ []

-- the LOCK_DURATION of a duration
abbrev pub duration_name : Duration → List ℕ
duration_name Statement = codes "STATEMENT"
duration_name Transaction = codes "TRANSACTION"
duration_name Explicit = codes "EXPLICIT"

-- the LOCK_STATUS of a status
abbrev pub status_name : Status → List ℕ
status_name Granted = codes "GRANTED"
status_name Pending = codes "PENDING"
status_name Victim = codes "VICTIM"
status_name Timeout = codes "TIMEOUT"
status_name Killed = codes "KILLED"
status_name PreAcquireNotify = codes "PRE_ACQUIRE_NOTIFY"
status_name PostReleaseNotify = codes "POST_RELEASE_NOTIFY"

-- whether the status is that of a held lock
abbrev pub is_granted : Status → Bool
is_granted Granted = true
is_granted _ = false

-- whether the status is that of a wait that isn't over. If the engines are asked before a lock is acquired, its wait begins then: sql/mdl.cc,
-- `MDL_context::try_acquire_lock_impl`
abbrev pub is_waiting : Status → Bool
is_waiting Pending = true
is_waiting PreAcquireNotify = true
is_waiting _ = false

-- whether the status is that of a wait that is over without a grant. Its row is removed soon. A lock that is released before its engines are
-- notified (`PostReleaseNotify`) is neither held nor awaited: sql/mdl.cc, `MDL_context::release_lock`
abbrev pub is_settled : Status → Bool
is_settled Victim = true
is_settled Timeout = true
is_settled Killed = true
is_settled _ = false

-- the object type of this OBJECT_TYPE
abbrev pub object_type_of : List ℕ → Option ObjectType
object_type_of name = find (λ object_type. same_text (object_type_name object_type) name) all_object_types

-- a name without a leading `MDL_`
abbrev pub without_prefix : List ℕ → List ℕ
without_prefix name = if same_text (take 4 name) (codes "MDL_") then drop 4 name else name

-- the mode of MySQL 5.7 of this name
abbrev pub mode_named : List ℕ → Option Mode
mode_named name = find (λ mode. same_text (lock_type_name mode) name) all_modes

-- the mode of MySQL 5.7 of this LOCK_TYPE. An empty one is MariaDB's SHARED_READ_ONLY
abbrev pub mode_of : List ℕ → Option Mode
mode_of name = if length name == 0 then Some SRO else mode_named (without_prefix name)

-- the mode of the lock of backups of this LOCK_TYPE
abbrev pub backup_mode_of : List ℕ → Option BackupMode
backup_mode_of name = find (λ mode. same_text (backup_mode_name mode) (without_prefix name)) all_backup_modes

-- the mode of this LOCK_TYPE at a lock of this kind, if locks of the kind use it
abbrev pub lock_mode_of : LockKind → List ℕ → Option LockMode
lock_mode_of kind.Scoped name = option_and_then (λ mode. then_some (is_mode_of key.Scoped mode) (Mdl mode)) (mode_of name)
lock_mode_of kind.Object name = option_and_then (λ mode. then_some (is_mode_of key.Object mode) (Mdl mode)) (mode_of name)
lock_mode_of kind.Backup name = option_map Backup (backup_mode_of name)

-- the object type and the mode of a row, unless either isn't known, or the object type's locks don't use the mode
abbrev pub request_of : List ℕ → List ℕ → Option Request
request_of object_type lock_type =
    option_and_then (λ object_type. option_map (λ mode. record { object_type = object_type; mode = mode }) (lock_mode_of (kind_of_type object_type) lock_type))
    (object_type_of object_type)

-- the duration of this name
abbrev pub duration_named : List ℕ → Option Duration
duration_named name = find (λ duration. same_text (duration_name duration) name) (Statement ∷ Transaction ∷ Explicit ∷ [])

-- all statuses
abbrev pub all_statuses : List Status
all_statuses = Granted ∷ Pending ∷ Victim ∷ Timeout ∷ Killed ∷ PreAcquireNotify ∷ PostReleaseNotify ∷ []

-- the status of this name
abbrev pub status_named : List ℕ → Option Status
status_named name = find (λ status. same_text (status_name status) name) all_statuses

-- the duration of this LOCK_DURATION
abbrev pub duration_of : List ℕ → Result Duration RowError
duration_of name = ok_or (duration_named name) UnknownDuration

-- the status of this LOCK_STATUS
abbrev pub status_of : List ℕ → Result Status RowError
status_of name = ok_or (status_named name) UnknownStatus
