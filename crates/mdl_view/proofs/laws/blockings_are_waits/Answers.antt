-- Lock by lock.
use Rattle.mdl_view.proofs.ToldLemmas.{told}
use Rattle.mdl_view.proofs.laws.blockings_are_waits.Goals as goal

pub returns : goal.returns
returns c = λ books waiter other. told 0 books waiter other
