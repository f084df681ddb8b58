-- The numbers of errors, after MySQL 5.7: the Reference Manual, "Server Error Message Reference". The numbers from 9001 on
-- are this project's own, and so is the choice of one number for a missing table in all statements.
use Rattle.std.specs.Prelude.{ℕ}
use Rattle.mdl_rows.specs.declared.error_number.ErrorNumber.{ErrorNumber}
use Rattle.mdl_rows.specs.declared.error_number.ErrorNumber.TheVariants.{SchemaExists, UnknownDatabase, TableExists, DuplicateColumn, CantDropColumn, TableLockedForRead, TableNotLocked, NoSuchTable, ActiveLocks, LockWaitTimeout, Deadlock, ConflictingReadLock, NoSuchSavepoint, Interrupted, UserLockDeadlock, LastColumn, TooManyColumns, VersionLimit, NoPlace, Full}

-- an error's number
abbrev pub error_number : ErrorNumber → ℕ
error_number SchemaExists = 1007
error_number UnknownDatabase = 1049
error_number TableExists = 1050
error_number DuplicateColumn = 1060
error_number CantDropColumn = 1091
error_number TableLockedForRead = 1099
error_number TableNotLocked = 1100
error_number NoSuchTable = 1146
error_number ActiveLocks = 1192
error_number LockWaitTimeout = 1205
error_number Deadlock = 1213
error_number ConflictingReadLock = 1223
error_number NoSuchSavepoint = 1305
error_number Interrupted = 1317
error_number UserLockDeadlock = 3058
error_number LastColumn = 9001
error_number TooManyColumns = 9002
error_number VersionLimit = 9003
error_number NoPlace = 9004
error_number Full = 9005
