-- By its lemma.
use Rattle.mdl_rows.proofs.RowTidy.{rows_end_tidy}
use Rattle.mdl_rows.proofs.memory_laws.statements_end_tidy.Goals as goal

pub returns : goal.returns
returns c = rows_end_tidy
