-- A poll of the session that speaks for its own number is one for that number.
use Rattle.mdl_shared.proofs.lock_space.SessionLockSpace.poll_wait.Goals as goal

pub returns : goal.returns
returns g c = rw c.requires.0 (c.poll_wait.ensures.joined, c.poll_wait.ensures.shown)
