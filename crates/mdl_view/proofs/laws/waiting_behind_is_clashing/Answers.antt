-- Entry by entry.
use Rattle.mdl_view.proofs.MatrixLemmas.{behind_clashes}
use Rattle.mdl_view.proofs.laws.waiting_behind_is_clashing.Goals as goal

pub returns : goal.returns
returns c = λ kind ask pending. behind_clashes kind ask pending
