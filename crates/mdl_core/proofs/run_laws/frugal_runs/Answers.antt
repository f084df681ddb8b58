-- By its lemma.
use Rattle.mdl_core.proofs.RunOutcomes.{frugal-runs}
use Rattle.mdl_core.proofs.run_laws.frugal_runs.Goals as goal

pub returns : goal.returns
returns g c = frugal-runs g.row.A.Denot
