-- A list of what is held of the session that speaks for its own number is one for that number.
use Rattle.mdl_shared.proofs.lock_space.SessionLockSpace.held.Goals as goal

pub returns : goal.returns
returns g c = rw c.requires.0 (c.held.ensures.joined, c.held.ensures.shown)
