-- By its lemma.
use Rattle.mdl_core.proofs.RunOutcomes.{outcomes-are_runs}
use Rattle.mdl_core.proofs.run_laws.outcomes_are_runs.Goals as goal

pub returns : goal.returns
returns g c = outcomes-are_runs g.row.A.Denot
