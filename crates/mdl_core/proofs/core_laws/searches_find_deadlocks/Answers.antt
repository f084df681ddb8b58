-- By its lemma.
use Rattle.mdl_core.proofs.SearchRuns.{searches-find}
use Rattle.mdl_core.proofs.core_laws.searches_find_deadlocks.Goals as goal

pub returns : goal.returns
returns c = searches-find
