-- The place of a key of the session that speaks for its own number is one for that number.
use Rattle.mdl_shared.proofs.lock_space.SessionLockSpace.resolve.Goals as goal

pub returns : goal.returns
returns g c = rw c.requires.0 (c.resolve.ensures.joined, c.resolve.ensures.shown)
