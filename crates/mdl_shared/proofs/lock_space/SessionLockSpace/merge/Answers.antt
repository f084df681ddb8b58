-- A merge of the session that speaks for its own number is one for that number.
use Rattle.mdl_shared.proofs.lock_space.SessionLockSpace.merge.Goals as goal

pub returns : goal.returns
returns g c = rw c.requires.0 (c.merge.ensures.joined, c.merge.ensures.shown)
