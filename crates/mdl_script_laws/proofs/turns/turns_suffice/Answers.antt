-- By its lemma.
use Rattle.mdl_script_laws.proofs.TurnLemmas.{turns-suffice}
use Rattle.mdl_script_laws.proofs.turns.turns_suffice.Goals as goal

pub returns : goal.returns
returns c = turns-suffice
