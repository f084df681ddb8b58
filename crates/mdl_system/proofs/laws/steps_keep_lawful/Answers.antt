-- By one step, by a run, and at the start.
use Rattle.mdl_system.proofs.LawfulLemmas.{step-lawful, run-lawful, empty-lawful}
use Rattle.mdl_system.proofs.laws.steps_keep_lawful.Goals as goal

pub returns : goal.returns
returns g c = λ apply. (step-lawful apply, run-lawful apply, empty-lawful g.row.D.Denot)
