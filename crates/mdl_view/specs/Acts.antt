-- What an operator can do about a session: after MySQL 5.7's Reference Manual, "KILL Statement". `KILL` ends a session, and all its tickets go.
-- `KILL QUERY` ends its statement alone: the ticket that it waits with goes, and those that the statement has acquired; all others stay.
use Rattle.std.specs.Prelude.{ℕ, Bool, false, not, ◌&&◌, ◌==◌, filter}
use Rattle.mdl_view.specs.declared.act.Act.{Act}
use Rattle.mdl_view.specs.declared.act.Act.TheVariants.{Kill, KillQuery}
use Rattle.mdl_view.specs.declared.ticket.Ticket.{Ticket}
use Rattle.mdl_view.specs.Locks.{LockView}

-- the session that an act is about
abbrev pub target_of : Act → ℕ
target_of (Kill session) = session
target_of (KillQuery session) = session

-- whether an act ends this session
abbrev pub ends : Act → ℕ → Bool
ends (Kill target) session = session == target
ends (KillQuery target) session = false

-- whether a ticket goes by an act
abbrev pub is_taken : Act → Ticket → Bool
is_taken (Kill target) ticket = ticket.session == target
is_taken (KillQuery target) ticket = (ticket.session == target) && ticket.of_statement

-- a lock as an act leaves it, before anybody is granted
abbrev pub lock_after : Act → LockView → LockView
lock_after act lock = record lock {
  granted = filter (λ ticket. not (is_taken act ticket)) lock.granted;
  waiting = filter (λ ticket. not (is_taken act ticket)) lock.waiting;
}
