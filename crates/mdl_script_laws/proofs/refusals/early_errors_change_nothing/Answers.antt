-- By its lemma.
use Rattle.mdl_script_laws.proofs.EarlyPlays.{early_nothing}
use Rattle.mdl_script_laws.proofs.refusals.early_errors_change_nothing.Goals as goal

pub returns : goal.returns
returns c = early_nothing
