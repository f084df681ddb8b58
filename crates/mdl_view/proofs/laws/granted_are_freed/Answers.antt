-- Request by request.
use Rattle.mdl_view.proofs.FreedLemmas.{freed}
use Rattle.mdl_view.proofs.laws.granted_are_freed.Goals as goal

pub returns : goal.returns
returns c = λ act lock. freed act lock
