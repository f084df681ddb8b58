-- By its lemma.
use Rattle.mdl_rows.proofs.RowMemory.{rows_tell}
use Rattle.mdl_rows.proofs.memory_laws.statements_tell_of_want.Goals as goal

pub returns : goal.returns
returns c = rows_tell
