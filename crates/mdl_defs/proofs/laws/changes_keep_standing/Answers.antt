-- By its lemma.
use Rattle.mdl_defs.proofs.VersionedDefinitionLemmas.{changes-keep_standing}
use Rattle.mdl_defs.proofs.laws.changes_keep_standing.Goals as goal

pub returns : goal.returns
returns c = changes-keep_standing
