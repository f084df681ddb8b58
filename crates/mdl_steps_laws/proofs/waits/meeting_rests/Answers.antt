-- By its lemma.
use Rattle.mdl_steps_laws.proofs.WaitMet.{meeting_rests}
use Rattle.mdl_steps_laws.proofs.waits.meeting_rests.Goals as goal

pub returns : goal.returns
returns c = meeting_rests
