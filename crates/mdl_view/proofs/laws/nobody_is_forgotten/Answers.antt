-- Request by request.
use Rattle.mdl_view.proofs.LeftLemmas.{left_of, nobody_left}
use Rattle.mdl_view.proofs.laws.nobody_is_forgotten.Goals as goal

pub returns : goal.returns
returns c = λ lock may granted waiting. (left_of lock may waiting granted waiting, nobody_left lock may granted waiting)
