-- By its lemma.
use Rattle.mdl_steps_laws.proofs.FastEvents.{releasing_fast_releases}
use Rattle.mdl_steps_laws.proofs.fast_path.releasing_fast_releases.Goals as goal

pub returns : goal.returns
returns c = releasing_fast_releases
