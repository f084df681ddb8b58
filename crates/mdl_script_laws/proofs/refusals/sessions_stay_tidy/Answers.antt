-- By its lemma.
use Rattle.mdl_script_laws.proofs.OrderlyPlays.{stay_tidy}
use Rattle.mdl_script_laws.proofs.refusals.sessions_stay_tidy.Goals as goal

pub returns : goal.returns
returns c = stay_tidy
