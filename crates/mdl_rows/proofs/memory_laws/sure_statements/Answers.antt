-- By its lemma.
use Rattle.mdl_rows.proofs.RowOutcomes.{sure_rows}
use Rattle.mdl_rows.proofs.memory_laws.sure_statements.Goals as goal

pub returns : goal.returns
returns c = sure_rows
