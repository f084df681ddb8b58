-- That locks stay lawful and that nobody is forgotten holds of any script.
use Rattle.mdl_lock.proofs.ForgottenLemmas.{never_forgets}
use Rattle.mdl_lock.proofs.LawfulLemmas.{stays_lawful}
use Rattle.mdl_lock.proofs.lock_script.output.Goals as goal

pub returns-in_err-commands-clause-lawful : goal.returns-in_err-commands-clause-lawful
returns-in_err-commands-clause-lawful c = stays_lawful _ _

pub returns-in_err-commands-clause-none_forgotten : goal.returns-in_err-commands-clause-none_forgotten
returns-in_err-commands-clause-none_forgotten c = never_forgets _ _
