-- The key of a place of the session that speaks for its own number is one for that number.
use Rattle.mdl_shared.proofs.lock_space.SessionLockSpace.key_of.Goals as goal

pub returns : goal.returns
returns g c = rw c.requires.0 (c.key_of.ensures.joined, c.key_of.ensures.shown)
