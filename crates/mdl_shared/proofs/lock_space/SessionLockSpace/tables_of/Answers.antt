-- A list of tables of the session that speaks for its own number is one for that number.
use Rattle.mdl_shared.proofs.lock_space.SessionLockSpace.tables_of.Goals as goal

pub returns : goal.returns
returns g c = rw c.requires.0 (c.tables_of.ensures.joined, c.tables_of.ensures.shown)
