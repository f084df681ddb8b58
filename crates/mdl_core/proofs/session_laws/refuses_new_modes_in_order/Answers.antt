-- By its lemma.
use Rattle.mdl_core.proofs.RefusalOrder.{refuses-new_modes_in_order}
use Rattle.mdl_core.proofs.session_laws.refuses_new_modes_in_order.Goals as goal

pub returns : goal.returns
returns c = refuses-new_modes_in_order
