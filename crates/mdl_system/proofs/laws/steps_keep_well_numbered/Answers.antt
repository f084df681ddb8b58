-- By one step, by a run, and at the start.
use Rattle.mdl_system.proofs.NumberingLemmas.{step-well, run-well, empty-well}
use Rattle.mdl_system.proofs.laws.steps_keep_well_numbered.Goals as goal

pub returns : goal.returns
returns g c = λ apply. (step-well apply, run-well apply, empty-well g.row.D.Denot)
