-- Which waits are granted at once after an act, after MySQL 5.7: `MDL_lock::reschedule_waiters` of sql/mdl.cc. It goes through the waiting tickets
-- in order of arrival, and grants each that clashes with no granted ticket and is behind none that still waits, those granted before included.
use Rattle.std.specs.Prelude.{ℕ, suc, Bool, not, ◌&&◌, ◌||◌, List, [], ◌∷◌, ◌++◌, map, if◌then◌else◌}
use Rattle.std.specs.List.{list_any}
use Rattle.mdl_view.specs.declared.act.Act.{Act}
use Rattle.mdl_view.specs.declared.at_lock.AtLock.{AtLock}
use Rattle.mdl_view.specs.declared.ticket.Ticket.{Ticket}
use Rattle.mdl_view.specs.Acts.{is_taken, lock_after}
use Rattle.mdl_view.specs.Blockings.{at_lock, holds_against, is_blocked, waits_before}
use Rattle.mdl_view.specs.Locks.{LockView}
use Rattle.mdl_view.specs.Samples.{IsSample}

-- whether a request can be granted beside these granted tickets and these other waiting ones
abbrev pub can_be_granted : LockView → List Ticket → List Ticket → Ticket → Bool
can_be_granted lock granted waiting ask = not (list_any (holds_against lock ask) granted) && not (list_any (waits_before lock ask) waiting)

-- the waits that are granted, of those that `may` be, when the tickets `granted` hold the lock and those in `passed` have been passed over
abbrev pub granted_from : LockView → (Ticket → Bool) → List Ticket → List Ticket → List Ticket → List Ticket
granted_from lock may granted passed [] = []
granted_from lock may granted passed (ask ∷ rest) =
    if may ask && can_be_granted lock granted (passed ++ rest) ask
    then ask ∷ granted_from lock may (granted ++ ask ∷ []) passed rest
    else granted_from lock may granted (passed ++ ask ∷ []) rest

-- the waits that are granted at a lock that an act has left like this. Nothing is foretold of waits that no ticket blocked before
abbrev pub granted_at : LockView → LockView → List Ticket
granted_at before after = granted_from after (is_blocked before) after.granted [] after.waiting

abbrev pub at_once_from : Act → ℕ → List LockView → List AtLock
at_once_from act place [] = []
at_once_from act place (lock ∷ locks) = map (at_lock place) (granted_at lock (lock_after act lock)) ++ at_once_from act (suc place) locks

-- the waits that are granted at once after an act
abbrev pub at_once : Act → List LockView → List AtLock
at_once act locks = at_once_from act 0 locks

-- ---- representations

-- a request, if it is granted beside these granted and these waiting tickets
abbrev pub granted_now : LockView → (Ticket → Bool) → List Ticket → List Ticket → Ticket → List Ticket
granted_now lock may granted waiting ask = if may ask && can_be_granted lock granted waiting ask then ask ∷ [] else []

-- tickets are still a sample when a request that may have been granted is among them
abbrev pub KeepsSample : List Ticket → List Ticket → List Ticket → Type 0
KeepsSample granted old new = (all : List Ticket) → IsSample old all → IsSample new (all ++ granted)

-- whether an act takes a ticket of a lock
abbrev pub takes_any : Act → LockView → Bool
takes_any act lock = list_any (is_taken act) lock.granted || list_any (is_taken act) lock.waiting
