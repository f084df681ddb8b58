-- By its lemma.
use Rattle.mdl_steps_laws.proofs.FastEvents.{granting_fast_grants}
use Rattle.mdl_steps_laws.proofs.fast_path.granting_fast_grants.Goals as goal

pub returns : goal.returns
returns c = granting_fast_grants
