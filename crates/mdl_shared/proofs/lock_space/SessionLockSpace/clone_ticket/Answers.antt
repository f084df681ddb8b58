-- A clone of the session that speaks for its own number is one for that number.
use Rattle.mdl_shared.proofs.lock_space.SessionLockSpace.clone_ticket.Goals as goal

pub returns : goal.returns
returns g c = rw c.requires.0 (c.clone_ticket.ensures.joined, c.clone_ticket.ensures.shown)
