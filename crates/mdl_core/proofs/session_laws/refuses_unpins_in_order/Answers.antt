-- By its lemma.
use Rattle.mdl_core.proofs.RefusalOrder.{refuses-unpins_in_order}
use Rattle.mdl_core.proofs.session_laws.refuses_unpins_in_order.Goals as goal

pub returns : goal.returns
returns c = refuses-unpins_in_order
