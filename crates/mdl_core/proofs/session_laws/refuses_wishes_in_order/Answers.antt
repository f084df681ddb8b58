-- By its lemma.
use Rattle.mdl_core.proofs.RefusalOrder.{refuses-wishes_in_order}
use Rattle.mdl_core.proofs.session_laws.refuses_wishes_in_order.Goals as goal

pub returns : goal.returns
returns c = refuses-wishes_in_order
