-- By its lemma.
use Rattle.mdl_system.proofs.BookLemmas.{changes-by_lists}
use Rattle.mdl_system.proofs.laws.changes_by_lists.Goals as goal

pub returns : goal.returns
returns g c = changes-by_lists
