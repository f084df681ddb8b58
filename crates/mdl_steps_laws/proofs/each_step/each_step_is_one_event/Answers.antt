-- By its lemmas.
use Rattle.mdl_steps_laws.proofs.EachStep.{each_step_is_one_event}
use Rattle.mdl_steps_laws.proofs.OneStep.{each_step_happens_or_rests}
use Rattle.mdl_steps_laws.proofs.each_step.each_step_is_one_event.Goals as goal

pub returns-clause-named : goal.returns-clause-named
returns-clause-named c = each_step_is_one_event

pub returns-clause-short : goal.returns-clause-short
returns-clause-short c = each_step_happens_or_rests
