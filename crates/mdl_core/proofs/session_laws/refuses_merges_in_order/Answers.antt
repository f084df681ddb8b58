-- By its lemma.
use Rattle.mdl_core.proofs.RefusalOrder.{refuses-merges_in_order}
use Rattle.mdl_core.proofs.session_laws.refuses_merges_in_order.Goals as goal

pub returns : goal.returns
returns c = refuses-merges_in_order
