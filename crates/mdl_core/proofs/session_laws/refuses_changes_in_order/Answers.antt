-- By its lemma.
use Rattle.mdl_core.proofs.RefusalOrder.{refuses-changes_in_order}
use Rattle.mdl_core.proofs.session_laws.refuses_changes_in_order.Goals as goal

pub returns : goal.returns
returns c = refuses-changes_in_order
