-- By its lemma.
use Rattle.mdl_script_laws.proofs.RefusedWorlds.{idle_tidy}
use Rattle.mdl_script_laws.proofs.refusals.idle_sessions_are_tidy.Goals as goal

pub returns : goal.returns
returns c = idle_tidy
