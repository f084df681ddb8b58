-- By its lemma.
use Rattle.mdl_core.proofs.DeterminedAnswers.{answers-determined}
use Rattle.mdl_core.proofs.core_laws.answers_are_determined.Goals as goal

pub returns : goal.returns
returns c = answers-determined
