-- Proved of the definitions.
use Rattle.mdl_view.proofs.WayLawLemmas.{nobody_blocked as law}
use Rattle.mdl_view.proofs.way_laws.nobody_ends_blocked.Goals as goal

pub returns : goal.returns
returns c = law
