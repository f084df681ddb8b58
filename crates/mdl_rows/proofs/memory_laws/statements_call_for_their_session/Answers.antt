-- By its lemma.
use Rattle.mdl_rows.proofs.RowCalls.{rows_call}
use Rattle.mdl_rows.proofs.memory_laws.statements_call_for_their_session.Goals as goal

pub returns : goal.returns
returns c = rows_call
