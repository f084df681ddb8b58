-- By its lemma.
use Rattle.mdl_steps_laws.proofs.FastRests.{waiters_have_no_fast_tickets}
use Rattle.mdl_steps_laws.proofs.fast_path.waiters_have_no_fast_tickets.Goals as goal

pub returns : goal.returns
returns c = waiters_have_no_fast_tickets
