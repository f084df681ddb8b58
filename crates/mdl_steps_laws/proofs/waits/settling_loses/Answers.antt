-- By its lemma.
use Rattle.mdl_steps_laws.proofs.WaitLosses.{settling_loses}
use Rattle.mdl_steps_laws.proofs.waits.settling_loses.Goals as goal

pub returns : goal.returns
returns c = settling_loses
