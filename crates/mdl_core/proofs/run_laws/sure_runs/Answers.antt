-- By its lemma.
use Rattle.mdl_core.proofs.RunOutcomes.{sure-runs}
use Rattle.mdl_core.proofs.run_laws.sure_runs.Goals as goal

pub returns : goal.returns
returns g c = sure-runs g.row.A.Denot
