-- By its lemma.
use Rattle.mdl_steps_laws.proofs.OwnTickets.{next_numbers_are_new}
use Rattle.mdl_steps_laws.proofs.tables.next_numbers_are_new.Goals as goal

pub returns : goal.returns
returns c = next_numbers_are_new
