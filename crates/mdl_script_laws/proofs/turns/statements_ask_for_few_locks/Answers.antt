-- By its lemma.
use Rattle.mdl_script_laws.proofs.TurnRows.{few-locks}
use Rattle.mdl_script_laws.proofs.turns.statements_ask_for_few_locks.Goals as goal

pub returns : goal.returns
returns c = few-locks
