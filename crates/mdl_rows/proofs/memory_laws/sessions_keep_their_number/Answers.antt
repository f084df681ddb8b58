-- By its lemma.
use Rattle.mdl_rows.proofs.RowCalls.{rows_keep_number}
use Rattle.mdl_rows.proofs.memory_laws.sessions_keep_their_number.Goals as goal

pub returns : goal.returns
returns c = rows_keep_number
