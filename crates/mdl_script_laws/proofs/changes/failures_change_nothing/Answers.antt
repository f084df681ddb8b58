-- By its lemma.
use Rattle.mdl_script_laws.proofs.FailedPlays.{failures-nothing}
use Rattle.mdl_script_laws.proofs.changes.failures_change_nothing.Goals as goal

pub returns : goal.returns
returns c = failures-nothing
