-- By its lemma.
use Rattle.mdl_script_laws.proofs.FailedPlays.{waiters-one}
use Rattle.mdl_script_laws.proofs.changes.waiters_have_one_left.Goals as goal

pub returns : goal.returns
returns c = waiters-one
