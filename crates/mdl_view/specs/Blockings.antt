-- Who blocks whom, and why, after MySQL 5.7: `MDL_lock::can_grant_lock` and `MDL_lock::visit_subgraph` of sql/mdl.cc. That it is listed ticket by
-- ticket, and in which order, is this project's own choice.
use Rattle.std.specs.Prelude.{ℕ, suc, Bool, not, ◌&&◌, ◌||◌, ◌==◌, List, [], ◌∷◌, ◌++◌, filter, flat_map, map}
use Rattle.std.specs.List.{list_any}
use Rattle.mdl_view.specs.declared.at_lock.AtLock.{AtLock}
use Rattle.mdl_view.specs.declared.blocking.Blocking.{Blocking}
use Rattle.mdl_view.specs.declared.blocking.Reason.{Reason}
use Rattle.mdl_view.specs.declared.blocking.Reason.TheVariants.{Holds, WaitsBefore}
use Rattle.mdl_view.specs.declared.ticket.Ticket.{Ticket}
use Rattle.mdl_view.specs.Locks.{LockView}
use Rattle.mdl_view.specs.Modes.{lock_clashes, lock_waits_behind}

-- whether a granted ticket blocks a request: it is another session's, and they clash
abbrev pub holds_against : LockView → Ticket → Ticket → Bool
holds_against lock ask held = not (held.session == ask.session) && lock_clashes lock.kind ask.mode held.mode

-- whether a waiting ticket blocks a request: it is another session's, and the request waits behind it
abbrev pub waits_before : LockView → Ticket → Ticket → Bool
waits_before lock ask pending = not (pending.session == ask.session) && lock_waits_behind lock.kind ask.mode pending.mode

-- a waiting ticket and one that blocks it, at the lock of this index
abbrev pub blocking : ℕ → Ticket → Reason → Ticket → Blocking
blocking place ask reason other = record { lock = place; waiter = ask; other = other; reason = reason }

-- all tickets that block a waiting one: the granted ones first, then the waiting ones, each in the order of its list
abbrev pub blockings_of : ℕ → LockView → Ticket → List Blocking
blockings_of place lock ask =
    map (blocking place ask Holds) (filter (holds_against lock ask) lock.granted)
    ++ map (blocking place ask WaitsBefore) (filter (waits_before lock ask) lock.waiting)

-- the blockings of all that wait at a lock, in order of arrival
abbrev pub blockings_at : ℕ → LockView → List Blocking
blockings_at place lock = flat_map (blockings_of place lock) lock.waiting

-- the blockings at these locks, the first of which has this index
abbrev pub blockings_in : ℕ → List LockView → List Blocking
blockings_in place [] = []
blockings_in place (lock ∷ locks) = blockings_at place lock ++ blockings_in (suc place) locks

-- whether some ticket blocks a request
abbrev pub is_blocked : LockView → Ticket → Bool
is_blocked lock ask = list_any (holds_against lock ask) lock.granted || list_any (waits_before lock ask) lock.waiting

-- ---- waits

-- a ticket at the lock of this index
abbrev pub at_lock : ℕ → Ticket → AtLock
at_lock place ticket = record { lock = place; ticket = ticket }

-- the waits that pass a test, at these locks, the first of which has this index
abbrev pub waits_that : (LockView → Ticket → Bool) → ℕ → List LockView → List AtLock
waits_that test place [] = []
waits_that test place (lock ∷ locks) = map (at_lock place) (filter (test lock) lock.waiting) ++ waits_that test (suc place) locks

-- the waits that some ticket blocks
abbrev pub blocked_waits : List LockView → List AtLock
blocked_waits locks = waits_that is_blocked 0 locks

-- whether a wait can't be explained by the tickets of its lock: none blocks it, and it isn't behind one that is about to go
abbrev pub is_unexplained : LockView → Ticket → Bool
is_unexplained lock ask = not (is_blocked lock ask) && not (list_any (waits_before lock ask) lock.settled)

-- the waits for which no ticket shows a reason. Who holds the lock isn't among the rows
abbrev pub unexplained_waits : List LockView → List AtLock
unexplained_waits locks = waits_that is_unexplained 0 locks

-- whether a session has a wait that some ticket blocks
abbrev pub is_blocked_here : ℕ → LockView → Bool
is_blocked_here session lock = list_any (λ ask. (ask.session == session) && is_blocked lock ask) lock.waiting

abbrev pub waits_blocked : List LockView → ℕ → Bool
waits_blocked locks session = list_any (is_blocked_here session) locks
