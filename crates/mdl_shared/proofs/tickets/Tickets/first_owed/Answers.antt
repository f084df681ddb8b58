-- The places have the flags, and there are few of them.
use Rattle.mdl_shared.proofs.OwedFlags.{first-up}
use Rattle.mdl_shared.proofs.tickets.Tickets.first_owed.Goals as goal

pub returns : goal.returns
returns c =
    rw (← c.self.view_is) (first-up c.self.inside.places.items c.first_owed.result c.self.invariant.narrow (rw c.deref.ensures.value at c.first_owed.ensures))
