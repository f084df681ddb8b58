-- By its lemma.
use Rattle.mdl_steps_laws.proofs.WaitEnds.{ending_leaves}
use Rattle.mdl_steps_laws.proofs.waits.ending_leaves.Goals as goal

pub returns : goal.returns
returns c = ending_leaves
