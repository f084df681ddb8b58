-- By its lemma.
use Rattle.mdl_steps_laws.proofs.TableLocks.{running_tables_tell_a_system}
use Rattle.mdl_steps_laws.proofs.tables.running_tables_tell_a_system.Goals as goal

pub returns : goal.returns
returns c = running_tables_tell_a_system
