-- By its lemma.
use Rattle.mdl_system.proofs.BookLemmas.{grantable-by_lists}
use Rattle.mdl_system.proofs.laws.grantable_by_lists.Goals as goal

pub returns : goal.returns
returns g c = grantable-by_lists
