-- By its lemma.
use Rattle.mdl_script_laws.proofs.ShownLaws.{transactions-see_one}
use Rattle.mdl_script_laws.proofs.shown.transactions_see_one_definition.Goals as goal

pub returns : goal.returns
returns c = transactions-see_one
