-- The keys of a server's locks: what kind of thing is locked, and its names. After MySQL 5.7: `MDL_key` of sql/mdl.h; in which fields of a row the
-- names are: `PFS_object_row::make_row` of storage/perfschema/table_helper.cc. The name of a user-level lock is in the field of an object's name.
use Rattle.std.specs.Prelude.{ℕ, Bool, ◌==◌, List}
use Rattle.std.specs.Ordering.{on, eq_of_both}
use lib.Pointwise.{pointwise}
use Rattle.mdl_view.specs.declared.lock_mode.LockKind.{LockKind}
use Rattle.mdl_view.specs.declared.lock_mode.LockKind.TheVariants as kind
use Rattle.mdl_lock_rows.specs.declared.object_type.ObjectType.{ObjectType}
use Rattle.mdl_lock_rows.specs.declared.object_type.ObjectType.TheVariants.{Global, Schema, Table, Commit, UserLevelLock, Function, Procedure, Trigger, Event, Tablespace, LockingService, PackageBody, Backup, BackupLock}

-- a key. A name is empty if there is none
pub record KeyNames : Type 0 where
  pub object_type : ObjectType
  pub schema : List ℕ
  pub name : List ℕ

-- the kind of the locks of an object type: `MDL_lock::MDL_lock_strategy` of sql/mdl.cc, of MySQL 5.7, of MariaDB 10.5 (Backup, PackageBody)
-- and of MySQL 8.0 (BackupLock)
abbrev pub kind_of_type : ObjectType → LockKind
kind_of_type Global = kind.Scoped
kind_of_type Schema = kind.Scoped
kind_of_type Commit = kind.Scoped
kind_of_type Tablespace = kind.Scoped
kind_of_type BackupLock = kind.Scoped
kind_of_type Backup = kind.Backup
kind_of_type _ = kind.Object

-- an object type's place among all of them
abbrev pub object_type_rank : ObjectType → ℕ
object_type_rank Global = 0
object_type_rank Schema = 1
object_type_rank Table = 2
object_type_rank Commit = 3
object_type_rank UserLevelLock = 4
object_type_rank Function = 5
object_type_rank Procedure = 6
object_type_rank Trigger = 7
object_type_rank Event = 8
object_type_rank Tablespace = 9
object_type_rank LockingService = 10
object_type_rank PackageBody = 11
object_type_rank Backup = 12
object_type_rank BackupLock = 13

-- whether two keys are the same
abbrev pub same_key : KeyNames → KeyNames → Bool
same_key =
    eq_of_both (on (λ key. object_type_rank key.object_type) ◌==◌)
    (eq_of_both (on (λ key. key.schema) (pointwise ◌==◌))
    (on (λ key. key.name) (pointwise ◌==◌)))
