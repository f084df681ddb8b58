-- By its lemma.
use Rattle.mdl_script_laws.proofs.TurnLemmas.{nobody-left}
use Rattle.mdl_script_laws.proofs.turns.nobody_is_left_settled.Goals as goal

pub returns : goal.returns
returns c = nobody-left
