-- By its lemma.
use Rattle.mdl_script_laws.proofs.TurnWaits.{few-waits}
use Rattle.mdl_script_laws.proofs.turns.statements_tell_of_few_waits.Goals as goal

pub returns : goal.returns
returns c = few-waits
