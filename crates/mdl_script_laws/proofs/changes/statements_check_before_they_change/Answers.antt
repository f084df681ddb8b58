-- By its lemma.
use Rattle.mdl_script_laws.proofs.ChangeRows.{checks-before}
use Rattle.mdl_script_laws.proofs.changes.statements_check_before_they_change.Goals as goal

pub returns : goal.returns
returns c = checks-before
