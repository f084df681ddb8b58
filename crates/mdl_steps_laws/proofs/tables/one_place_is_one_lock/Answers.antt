-- By its lemma.
use Rattle.mdl_steps_laws.proofs.OneLock.{one_place_is_one_lock}
use Rattle.mdl_steps_laws.proofs.tables.one_place_is_one_lock.Goals as goal

pub returns : goal.returns
returns c = one_place_is_one_lock
