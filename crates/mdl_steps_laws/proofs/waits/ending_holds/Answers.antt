-- By its lemma.
use Rattle.mdl_steps_laws.proofs.WaitEnds.{ending_holds}
use Rattle.mdl_steps_laws.proofs.waits.ending_holds.Goals as goal

pub returns : goal.returns
returns c = ending_holds
