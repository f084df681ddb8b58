-- By its lemma.
use Rattle.mdl_system.proofs.BookLemmas.{lawful-by_lists}
use Rattle.mdl_system.proofs.laws.lawful_by_lists.Goals as goal

pub returns : goal.returns
returns g c = lawful-by_lists
