-- By its lemma.
use Rattle.mdl_script_laws.proofs.TurnSpaces.{waits-in-space}
use Rattle.mdl_script_laws.proofs.turns.statements_wait_in_the_space.Goals as goal

pub returns : goal.returns
returns c = waits-in-space
