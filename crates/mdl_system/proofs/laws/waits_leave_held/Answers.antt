-- By its lemma.
use Rattle.mdl_system.proofs.NumberingLemmas.{leaves-held}
use Rattle.mdl_system.proofs.laws.waits_leave_held.Goals as goal

pub returns : goal.returns
returns g c = leaves-held
