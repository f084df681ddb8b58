-- By its lemma.
use Rattle.mdl_steps_laws.proofs.WaitGrants.{granting_grants_waiters}
use Rattle.mdl_steps_laws.proofs.waits.granting_grants_waiters.Goals as goal

pub returns : goal.returns
returns c = granting_grants_waiters
