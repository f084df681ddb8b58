-- By its lemma.
use Rattle.mdl_script_laws.proofs.ShownLaws.{transactions-keep}
use Rattle.mdl_script_laws.proofs.shown.transactions_keep_what_they_saw.Goals as goal

pub returns : goal.returns
returns c = transactions-keep
