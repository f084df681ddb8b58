-- Locks as they are held by now. A row of a server shows the mode with which its ticket was made: an upgrade changes the ticket and not the row
-- (MySQL 5.7: sql/mdl.cc, `MDL_context::upgrade_shared_lock`; the Performance Schema has no call for it), and so does a change of the stage of a
-- backup (MariaDB: sql/backup.cc). So an `ALTER TABLE` that copies rows shows SU, and holds SNW or X. What is taken for an upgraded ticket is this
-- project's own choice.
use Rattle.std.specs.Prelude.{ℕ, suc, Bool, not, ◌||◌, List, [], ◌∷◌, ◌++◌, filter, find, map, if◌then◌else◌}
use Rattle.std.specs.Option.{option_map_or}
use Rattle.std.specs.List.{list_all, list_any}
use Rattle.mdl_key.specs.declared.mode.Mode.TheVariants.{SU, SNW, SNRW, X}
use Rattle.mdl_view.specs.declared.lock_mode.BackupMode.TheVariants.{Start, Flush, WaitFlush, WaitDdl, WaitCommit, Ftwrl1, Ftwrl2, BlockDdl}
use Rattle.mdl_view.specs.declared.lock_mode.LockMode.{LockMode}
use Rattle.mdl_view.specs.declared.lock_mode.LockMode.TheVariants.{Mdl, Backup}
use Rattle.mdl_view.specs.declared.ticket.Ticket.{Ticket}
use Rattle.mdl_view.specs.declared.upgrade.Upgrade.{Upgrade}
use Rattle.mdl_view.specs.Blockings.{holds_against, is_unexplained}
use Rattle.mdl_view.specs.Locks.{LockView}

-- the modes that a ticket may have by now if its row shows this one, in the order in which a statement reaches them
abbrev pub later_modes : LockMode → List LockMode
later_modes (Mdl SU) = Mdl SNW ∷ Mdl X ∷ []
later_modes (Mdl SNW) = Mdl X ∷ []
later_modes (Mdl SNRW) = Mdl X ∷ []
later_modes (Backup Ftwrl1) = Backup Ftwrl2 ∷ []
later_modes (Backup BlockDdl) = Backup Start ∷ Backup Flush ∷ Backup WaitFlush ∷ Backup WaitDdl ∷ Backup WaitCommit ∷ []
later_modes mode = []

-- a ticket in another mode
abbrev pub in_mode : Ticket → LockMode → Ticket
in_mode ticket mode = record ticket { mode = mode }

-- whether a granted ticket would block a request if it had this mode
abbrev pub would_block : LockView → Ticket → LockMode → Ticket → Bool
would_block lock held mode ask = holds_against lock ask (in_mode held mode)

-- whether a granted ticket, in some mode that it may have by now, would block a request
abbrev pub may_block : LockView → Ticket → Ticket → Bool
may_block lock held ask = list_any (λ mode. would_block lock held mode ask) (later_modes held.mode)

-- whether a mode explains each of these waits that some later mode of the ticket explains
abbrev pub explains_all : LockView → Ticket → List Ticket → LockMode → Bool
explains_all lock held waits mode = list_all (λ ask. not (may_block lock held ask) || would_block lock held mode ask) waits

-- whether a ticket may be the reason for some of these waits, and so is taken for upgraded
abbrev pub is_upgraded : LockView → List Ticket → Ticket → Bool
is_upgraded lock waits held = list_any (may_block lock held) waits

-- the ticket as it is held by now: if it may be the reason for some of the waits that can't be explained otherwise, it is in the first mode that
-- explains all of them that it may be the reason for
abbrev pub held_for : LockView → List Ticket → Ticket → Ticket
held_for lock waits held =
    if is_upgraded lock waits held
    then option_map_or (in_mode held) (find (explains_all lock held waits) (later_modes held.mode)) held
    else held

-- the waits at a lock that its shown modes can't explain
abbrev pub unexplained_at : LockView → List Ticket
unexplained_at lock = filter (is_unexplained lock) lock.waiting

-- a lock as it is held by now
unfoldable pub by_now : LockView → LockView
by_now lock = record lock { granted = map (held_for lock (unexplained_at lock)) lock.granted }

-- ---- what is taken for upgraded

-- a granted ticket at the lock of this index, with the mode that it has by now
abbrev pub upgrade_of : ℕ → LockView → Ticket → Upgrade
upgrade_of place lock held = record { lock = place; ticket = held; now = (held_for lock (unexplained_at lock) held).mode }

unfoldable pub upgrades_at : ℕ → LockView → List Upgrade
upgrades_at place lock = map (upgrade_of place lock) (filter (is_upgraded lock (unexplained_at lock)) lock.granted)

-- the tickets that are taken for upgraded at these locks, the first of which has this index
abbrev pub upgrades_in : ℕ → List LockView → List Upgrade
upgrades_in place [] = []
upgrades_in place (lock ∷ locks) = upgrades_at place lock ++ upgrades_in (suc place) locks
