-- A request waits behind another one only if they clash, by looking at each entry of the matrices.
use Rattle.std.proofs.Common.{◌≡◌, Bool, true, false, not, ◌||◌, List, [], ◌∷◌, refl, lit<}
use Rattle.std.specs.List.{list_all, list_any}
use Rattle.std.proofs.lemmas.List.Sums.{AllPass-from_list_all}
use Rattle.mdl_key.specs.declared.namespace.Kind.TheVariants as key
use Rattle.mdl_key.specs.declared.namespace.Kind.{Kind}
use Rattle.mdl_key.specs.declared.mode.Mode.{Mode}
use Rattle.mdl_key.specs.Matrices.{clashes, waits_behind}
use Rattle.mdl_key.specs.Modes.{all_modes}
use Rattle.mdl_key.proofs.MatrixLemmas.{each_mode}
use Rattle.mdl_view.specs.declared.lock_mode.BackupMode.{BackupMode}
use Rattle.mdl_view.specs.declared.lock_mode.BackupMode.TheVariants.{Start, Flush, WaitFlush, WaitDdl, WaitCommit, Ftwrl1, Ftwrl2, Dml, TransDml, SysDml, Ddl, BlockDdl, AlterCopy, Commit}
use Rattle.mdl_view.specs.declared.lock_mode.LockKind.{LockKind}
use Rattle.mdl_view.specs.declared.lock_mode.LockKind.TheVariants as kind
use Rattle.mdl_view.specs.declared.lock_mode.LockMode.{LockMode}
use Rattle.mdl_view.specs.declared.lock_mode.LockMode.TheVariants.{Mdl, Backup}
use Rattle.mdl_view.specs.Modes.{backup_granted_conflicts, backup_waiting_conflicts, lock_clashes, lock_waits_behind, same_backup_mode}

abbrev all_backup_modes : List BackupMode
all_backup_modes =
    Start ∷ Flush ∷ WaitFlush ∷ WaitDdl ∷ WaitCommit ∷ Ftwrl1 ∷ Ftwrl2 ∷ Dml ∷ TransDml ∷ SysDml ∷ Ddl ∷ BlockDdl ∷ AlterCopy ∷ Commit ∷ []

each_backup_mode : (test : BackupMode → Bool) → list_all test all_backup_modes ≡ true → (mode : BackupMode) → test mode ≡ true
each_backup_mode test all Start = AllPass-from_list_all test all_backup_modes all 0 Start (lit< tt)
each_backup_mode test all Flush = AllPass-from_list_all test all_backup_modes all 1 Start (lit< tt)
each_backup_mode test all WaitFlush = AllPass-from_list_all test all_backup_modes all 2 Start (lit< tt)
each_backup_mode test all WaitDdl = AllPass-from_list_all test all_backup_modes all 3 Start (lit< tt)
each_backup_mode test all WaitCommit = AllPass-from_list_all test all_backup_modes all 4 Start (lit< tt)
each_backup_mode test all Ftwrl1 = AllPass-from_list_all test all_backup_modes all 5 Start (lit< tt)
each_backup_mode test all Ftwrl2 = AllPass-from_list_all test all_backup_modes all 6 Start (lit< tt)
each_backup_mode test all Dml = AllPass-from_list_all test all_backup_modes all 7 Start (lit< tt)
each_backup_mode test all TransDml = AllPass-from_list_all test all_backup_modes all 8 Start (lit< tt)
each_backup_mode test all SysDml = AllPass-from_list_all test all_backup_modes all 9 Start (lit< tt)
each_backup_mode test all Ddl = AllPass-from_list_all test all_backup_modes all 10 Start (lit< tt)
each_backup_mode test all BlockDdl = AllPass-from_list_all test all_backup_modes all 11 Start (lit< tt)
each_backup_mode test all AlterCopy = AllPass-from_list_all test all_backup_modes all 12 Start (lit< tt)
each_backup_mode test all Commit = AllPass-from_list_all test all_backup_modes all 13 Start (lit< tt)

-- the first answer implies the second
abbrev implies : Bool → Bool → Bool
implies a b = not a || b

implied : (a b : Bool) → implies a b ≡ true → a ≡ true → b ≡ true
implied true b e a = e
implied false true e a = refl
implied false false e a = a

abbrev clashes_at : Kind → Mode → Bool
clashes_at kind ask = list_all (λ other. implies (waits_behind kind ask other) (clashes kind ask other)) all_modes

clash_all : (kind : Kind) → list_all (clashes_at kind) all_modes ≡ true
clash_all key.Scoped = refl
clash_all key.Object = refl

clash_mdl : (kind : Kind) (ask other : Mode) → waits_behind kind ask other ≡ true → clashes kind ask other ≡ true
clash_mdl kind ask other =
    implied (waits_behind kind ask other) (clashes kind ask other)
    (each_mode (λ other. implies (waits_behind kind ask other) (clashes kind ask other)) (each_mode (clashes_at kind) (clash_all kind) ask) other)

abbrev backup_clash : BackupMode → BackupMode → Bool
backup_clash ask other = list_any (same_backup_mode other) (backup_granted_conflicts ask)

abbrev backup_behind : BackupMode → BackupMode → Bool
backup_behind ask other = list_any (same_backup_mode other) (backup_waiting_conflicts ask)

abbrev backup_at : BackupMode → Bool
backup_at ask = list_all (λ other. implies (backup_behind ask other) (backup_clash ask other)) all_backup_modes

backup_all : list_all backup_at all_backup_modes ≡ true
backup_all = refl

clash_backup : (ask other : BackupMode) → backup_behind ask other ≡ true → backup_clash ask other ≡ true
clash_backup ask other =
    implied (backup_behind ask other) (backup_clash ask other)
    (each_backup_mode (λ other. implies (backup_behind ask other) (backup_clash ask other)) (each_backup_mode backup_at backup_all ask) other)

-- a request that waits behind another one clashes with it
pub behind_clashes : (at : LockKind) (ask other : LockMode) → lock_waits_behind at ask other ≡ true → lock_clashes at ask other ≡ true
behind_clashes kind.Scoped (Mdl ask) (Mdl other) e = clash_mdl key.Scoped ask other e
behind_clashes kind.Scoped (Mdl ask) (Backup other) e = e
behind_clashes kind.Scoped (Backup ask) (Mdl other) e = e
behind_clashes kind.Scoped (Backup ask) (Backup other) e = e
behind_clashes kind.Object (Mdl ask) (Mdl other) e = clash_mdl key.Object ask other e
behind_clashes kind.Object (Mdl ask) (Backup other) e = e
behind_clashes kind.Object (Backup ask) (Mdl other) e = e
behind_clashes kind.Object (Backup ask) (Backup other) e = e
behind_clashes kind.Backup (Mdl ask) (Mdl other) e = e
behind_clashes kind.Backup (Mdl ask) (Backup other) e = e
behind_clashes kind.Backup (Backup ask) (Mdl other) e = e
behind_clashes kind.Backup (Backup ask) (Backup other) e = clash_backup ask other e
