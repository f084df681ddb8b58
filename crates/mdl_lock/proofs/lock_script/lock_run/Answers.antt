-- That locks stay lawful and that nobody is forgotten holds of any script.
use Rattle.mdl_lock.proofs.ForgottenLemmas.{never_forgets_if}
use Rattle.mdl_lock.proofs.LawfulLemmas.{stays_lawful_if}
use Rattle.mdl_lock.proofs.lock_script.lock_run.Goals as goal

pub returns-in_err-input-clause-lawful : goal.returns-in_err-input-clause-lawful
returns-in_err-input-clause-lawful g c = stays_lawful_if c.args.kind (g.R.Read.remaining c.args.reader.now)

pub returns-in_err-input-clause-none_forgotten : goal.returns-in_err-input-clause-none_forgotten
returns-in_err-input-clause-none_forgotten g c = never_forgets_if c.args.kind (g.R.Read.remaining c.args.reader.now)
