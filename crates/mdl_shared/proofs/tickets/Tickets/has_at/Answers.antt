-- The tickets of each place are counted.
use Rattle.std.proofs.Common.{nat_lt, ap, ◌∙◌}
use Rattle.mdl_shared.proofs.FirstLemmas.{any_there}
use Rattle.mdl_shared.proofs.tickets.Tickets.has_at.Goals as goal

pub returns : goal.returns
returns c =
    rw (← c.self.view_is) (ap (nat_lt 0) (rw c.deref.ensures.value at c.counted.ensures ∙ c.self.invariant.counted c.args.place)
    ∙ any_there c.args.place c.self.inside.places.items c.self.inside.gained.items c.self.invariant.rising)
