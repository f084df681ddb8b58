-- A change of the session that speaks for its own number is one for that number.
use Rattle.mdl_shared.proofs.lock_space.SessionLockSpace.change_definition.Goals as goal

pub returns : goal.returns
returns g c = rw c.requires.0 (c.change_definition.ensures.joined, c.change_definition.ensures.shown)
