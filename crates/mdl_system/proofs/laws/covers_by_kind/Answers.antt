-- By its lemma.
use Rattle.mdl_system.proofs.StrengthLemmas.{strength-by_kind}
use Rattle.mdl_system.proofs.laws.covers_by_kind.Goals as goal

pub returns : goal.returns
returns c = strength-by_kind
