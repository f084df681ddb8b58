-- By its lemma.
use Rattle.mdl_script_laws.proofs.TurnLemmas.{more-nothing}
use Rattle.mdl_script_laws.proofs.turns.more_turns_do_nothing.Goals as goal

pub returns : goal.returns
returns c = more-nothing
