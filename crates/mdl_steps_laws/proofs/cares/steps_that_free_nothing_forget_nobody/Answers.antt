-- By its lemma.
use Rattle.mdl_steps_laws.proofs.FreeingNothing.{steps_that_free_nothing_forget_nobody}
use Rattle.mdl_steps_laws.proofs.cares.steps_that_free_nothing_forget_nobody.Goals as goal

pub returns : goal.returns
returns c = steps_that_free_nothing_forget_nobody
