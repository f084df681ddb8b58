-- The modes of locks, and which of them clash or wait behind which: the matrices of MySQL 5.7 (`mdl_key/specs/Matrices`), and for MariaDB's lock
-- of backups those of MariaDB 10.5: sql/mdl.cc, `MDL_lock::MDL_backup_lock::m_granted_incompatible` and `m_waiting_incompatible`. The comment above
-- these arrays differs from them in seven entries: the arrays decide.
use Rattle.std.specs.Prelude.{ℕ, Bool, false, List, [], ◌∷◌, codes, ◌==◌}
use Rattle.std.specs.List.{list_any}
use Rattle.mdl_key.specs.declared.namespace.Kind.{Kind}
use Rattle.mdl_key.specs.declared.namespace.Kind.TheVariants as key
use Rattle.mdl_key.specs.Words.{clashes, mode_name, waits_behind}
use Rattle.mdl_view.specs.declared.lock_mode.BackupMode.{BackupMode}
use Rattle.mdl_view.specs.declared.lock_mode.BackupMode.TheVariants.{Start, Flush, WaitFlush, WaitDdl, WaitCommit, Ftwrl1, Ftwrl2, Dml, TransDml, SysDml, Ddl, BlockDdl, AlterCopy, Commit}
use Rattle.mdl_view.specs.declared.lock_mode.LockKind.{LockKind}
use Rattle.mdl_view.specs.declared.lock_mode.LockKind.TheVariants as kind
use Rattle.mdl_view.specs.declared.lock_mode.LockMode.{LockMode}
use Rattle.mdl_view.specs.declared.lock_mode.LockMode.TheVariants.{Mdl, Backup}

-- the place of a mode of the lock of backups in the order of its modes
abbrev pub backup_rank : BackupMode → ℕ
backup_rank Start = 0
backup_rank Flush = 1
backup_rank WaitFlush = 2
backup_rank WaitDdl = 3
backup_rank WaitCommit = 4
backup_rank Ftwrl1 = 5
backup_rank Ftwrl2 = 6
backup_rank Dml = 7
backup_rank TransDml = 8
backup_rank SysDml = 9
backup_rank Ddl = 10
backup_rank BlockDdl = 11
backup_rank AlterCopy = 12
backup_rank Commit = 13

abbrev pub same_backup_mode : BackupMode → BackupMode → Bool
same_backup_mode a b = backup_rank a == backup_rank b

-- the granted matrix of the lock of backups: the modes that clash with the requested one when another session holds them
abbrev pub backup_granted_conflicts : BackupMode → List BackupMode
backup_granted_conflicts Start = Start ∷ Flush ∷ WaitFlush ∷ WaitDdl ∷ WaitCommit ∷ BlockDdl ∷ []
backup_granted_conflicts Flush = Start ∷ []
backup_granted_conflicts WaitFlush = Start ∷ Dml ∷ []
backup_granted_conflicts WaitDdl = Start ∷ Dml ∷ Ddl ∷ []
backup_granted_conflicts WaitCommit = Start ∷ Dml ∷ SysDml ∷ Ddl ∷ Commit ∷ []
backup_granted_conflicts Ftwrl1 = Dml ∷ TransDml ∷ SysDml ∷ Ddl ∷ AlterCopy ∷ []
backup_granted_conflicts Ftwrl2 = Dml ∷ TransDml ∷ SysDml ∷ Ddl ∷ AlterCopy ∷ Commit ∷ []
backup_granted_conflicts Dml = Flush ∷ WaitFlush ∷ WaitDdl ∷ WaitCommit ∷ Ftwrl1 ∷ Ftwrl2 ∷ []
backup_granted_conflicts TransDml = Ftwrl1 ∷ Ftwrl2 ∷ []
backup_granted_conflicts SysDml = WaitCommit ∷ Ftwrl1 ∷ Ftwrl2 ∷ []
backup_granted_conflicts Ddl = WaitDdl ∷ WaitCommit ∷ Ftwrl1 ∷ Ftwrl2 ∷ BlockDdl ∷ []
backup_granted_conflicts BlockDdl = Start ∷ Flush ∷ WaitFlush ∷ WaitDdl ∷ WaitCommit ∷ Ddl ∷ BlockDdl ∷ []
backup_granted_conflicts AlterCopy = Ftwrl1 ∷ Ftwrl2 ∷ []
backup_granted_conflicts Commit = WaitCommit ∷ Ftwrl2 ∷ []

-- the waiting matrix of the lock of backups: the modes that the requested one waits behind when another session waits for them
abbrev pub backup_waiting_conflicts : BackupMode → List BackupMode
backup_waiting_conflicts Start = Flush ∷ WaitFlush ∷ WaitDdl ∷ WaitCommit ∷ BlockDdl ∷ []
backup_waiting_conflicts Flush = []
backup_waiting_conflicts WaitFlush = []
backup_waiting_conflicts WaitDdl = []
backup_waiting_conflicts WaitCommit = []
backup_waiting_conflicts Ftwrl1 = []
backup_waiting_conflicts Ftwrl2 = []
backup_waiting_conflicts Dml = Flush ∷ WaitFlush ∷ WaitDdl ∷ WaitCommit ∷ Ftwrl1 ∷ Ftwrl2 ∷ []
backup_waiting_conflicts TransDml = Ftwrl1 ∷ Ftwrl2 ∷ []
backup_waiting_conflicts SysDml = WaitCommit ∷ Ftwrl1 ∷ Ftwrl2 ∷ []
backup_waiting_conflicts Ddl = WaitDdl ∷ WaitCommit ∷ Ftwrl1 ∷ Ftwrl2 ∷ BlockDdl ∷ []
backup_waiting_conflicts BlockDdl = Start ∷ []
backup_waiting_conflicts AlterCopy = Ftwrl1 ∷ Ftwrl2 ∷ []
backup_waiting_conflicts Commit = WaitCommit ∷ Ftwrl2 ∷ []

-- the name of a mode of the lock of backups, as MariaDB's rows have it
abbrev pub backup_mode_name : BackupMode → List ℕ
backup_mode_name Start = codes "BACKUP_START"
backup_mode_name Flush = codes "BACKUP_FLUSH"
backup_mode_name WaitFlush = codes "BACKUP_WAIT_FLUSH"
backup_mode_name WaitDdl = codes "BACKUP_WAIT_DDL"
backup_mode_name WaitCommit = codes "BACKUP_WAIT_COMMIT"
backup_mode_name Ftwrl1 = codes "BACKUP_FTWRL1"
backup_mode_name Ftwrl2 = codes "BACKUP_FTWRL2"
backup_mode_name Dml = codes "BACKUP_DML"
backup_mode_name TransDml = codes "BACKUP_TRANS_DML"
backup_mode_name SysDml = codes "BACKUP_SYS_DML"
backup_mode_name Ddl = codes "BACKUP_DDL"
backup_mode_name BlockDdl = codes "BACKUP_BLOCK_DDL"
backup_mode_name AlterCopy = codes "BACKUP_ALTER_COPY"
backup_mode_name Commit = codes "BACKUP_COMMIT"

-- whether a request for a mode clashes with another session's lock in a mode, at a lock of this kind
abbrev pub lock_clashes : LockKind → LockMode → LockMode → Bool
lock_clashes kind.Scoped (Mdl ask) (Mdl held) = clashes key.Scoped ask held
lock_clashes kind.Object (Mdl ask) (Mdl held) = clashes key.Object ask held
lock_clashes kind.Backup (Backup ask) (Backup held) = list_any (same_backup_mode held) (backup_granted_conflicts ask)
lock_clashes _ _ _ = false

-- whether a request for a mode waits behind another session's request for a mode, at a lock of this kind
abbrev pub lock_waits_behind : LockKind → LockMode → LockMode → Bool
lock_waits_behind kind.Scoped (Mdl ask) (Mdl pending) = waits_behind key.Scoped ask pending
lock_waits_behind kind.Object (Mdl ask) (Mdl pending) = waits_behind key.Object ask pending
lock_waits_behind kind.Backup (Backup ask) (Backup pending) = list_any (same_backup_mode pending) (backup_waiting_conflicts ask)
lock_waits_behind _ _ _ = false

-- the name of a mode
abbrev pub lock_mode_name : LockMode → List ℕ
lock_mode_name (Mdl mode) = mode_name mode
lock_mode_name (Backup mode) = backup_mode_name mode

-- the kind of a lock of MySQL 5.7
abbrev pub lock_kind_of : Kind → LockKind
lock_kind_of key.Scoped = kind.Scoped
lock_kind_of key.Object = kind.Object
