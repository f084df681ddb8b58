-- A wait that begins of the session that speaks for its own number is one for that number.
use Rattle.mdl_shared.proofs.lock_space.SessionLockSpace.begin_wait.Goals as goal

pub returns : goal.returns
returns g c = rw c.requires.0 (c.begin_wait.ensures.joined, c.begin_wait.ensures.shown)
