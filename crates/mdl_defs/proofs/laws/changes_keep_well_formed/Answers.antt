-- By looking at each row of the table of changes.
use Rattle.mdl_defs.proofs.ChangeLemmas.{IsWellFormed-changed}
use Rattle.mdl_defs.proofs.laws.changes_keep_well_formed.Goals as goal

pub returns : goal.returns
returns c = IsWellFormed-changed
