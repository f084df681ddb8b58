-- By its lemma.
use Rattle.mdl_steps_laws.proofs.WaitsTold.{running_tables_tell_waits}
use Rattle.mdl_steps_laws.proofs.tables.running_tables_tell_waits.Goals as goal

pub returns : goal.returns
returns c = running_tables_tell_waits
