-- By its lemma.
use Rattle.mdl_steps_laws.proofs.WaitNext.{next_may_be_granted}
use Rattle.mdl_steps_laws.proofs.waits.next_may_be_granted.Goals as goal

pub returns : goal.returns
returns c = next_may_be_granted
