-- A search of the session that speaks for its own number is one for that number.
use Rattle.mdl_shared.proofs.lock_space.SessionLockSpace.search.Goals as goal

pub returns : goal.returns
returns g c = rw c.requires.0 (c.search_deadlock.ensures.joined, c.search_deadlock.ensures.shown)
