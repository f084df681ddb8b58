-- Proved of the definitions.
use Rattle.mdl_view.proofs.WayLawLemmas.{determined as law}
use Rattle.mdl_view.proofs.way_laws.ends_are_determined.Goals as goal

pub returns : goal.returns
returns c = law
