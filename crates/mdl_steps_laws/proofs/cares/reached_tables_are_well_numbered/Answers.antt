-- By its lemma.
use Rattle.mdl_steps_laws.proofs.Wells.{reached_tables_are_well_numbered}
use Rattle.mdl_steps_laws.proofs.cares.reached_tables_are_well_numbered.Goals as goal

pub returns : goal.returns
returns c = reached_tables_are_well_numbered
