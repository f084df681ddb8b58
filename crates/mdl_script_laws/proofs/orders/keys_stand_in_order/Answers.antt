-- By its lemma.
use Rattle.mdl_script_laws.proofs.KeysInOrder.{stand-in_order}
use Rattle.mdl_script_laws.proofs.orders.keys_stand_in_order.Goals as goal

pub returns : goal.returns
returns c = stand-in_order
