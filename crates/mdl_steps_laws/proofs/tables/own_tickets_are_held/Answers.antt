-- By its lemma.
use Rattle.mdl_steps_laws.proofs.OwnTickets.{own_tickets_are_held}
use Rattle.mdl_steps_laws.proofs.tables.own_tickets_are_held.Goals as goal

pub returns : goal.returns
returns c = own_tickets_are_held
