-- A timeout of the session that speaks for its own number is one for that number.
use Rattle.mdl_shared.proofs.lock_space.SessionLockSpace.settle_timeout.Goals as goal

pub returns : goal.returns
returns g c = rw c.requires.0 (c.settle_timeout.ensures.joined, c.settle_timeout.ensures.shown)
