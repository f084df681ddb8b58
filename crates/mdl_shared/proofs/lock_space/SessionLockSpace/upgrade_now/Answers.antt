-- An upgrade of the session that speaks for its own number is one for that number.
use Rattle.mdl_shared.proofs.lock_space.SessionLockSpace.upgrade_now.Goals as goal

pub returns : goal.returns
returns g c = rw c.requires.0 (c.upgrade_now.ensures.joined, c.upgrade_now.ensures.shown)
