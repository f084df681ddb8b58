-- What a session holds at some locks. The order is this project's own choice.
use Rattle.std.specs.Prelude.{ℕ, suc, Bool, ◌==◌, List, [], ◌∷◌, ◌++◌, filter, map}
use Rattle.mdl_view.specs.declared.at_lock.AtLock.{AtLock}
use Rattle.mdl_view.specs.declared.ticket.Ticket.{Ticket}
use Rattle.mdl_view.specs.Blockings.{at_lock}
use Rattle.mdl_view.specs.Locks.{LockView}

-- whether a ticket is a session's
abbrev pub is_of : ℕ → Ticket → Bool
is_of session ticket = ticket.session == session

-- the granted tickets of a session at these locks, the first of which has this index
abbrev pub held_from : ℕ → ℕ → List LockView → List AtLock
held_from session place [] = []
held_from session place (lock ∷ locks) = map (at_lock place) (filter (is_of session) lock.granted) ++ held_from session (suc place) locks

-- the granted tickets of a session
abbrev pub held_by : ℕ → List LockView → List AtLock
held_by session locks = held_from session 0 locks
