-- The fast tickets of each place are counted.
use Rattle.mdl_shared.proofs.Lemmas.{fast_there, sym, ◌∙◌}
use Rattle.mdl_shared.proofs.tickets.Tickets.fast_at.Goals as goal

pub fast_counted-requires : goal.fast_counted-requires
fast_counted-requires c = record { inside = rw c.deref.ensures.value (rw (← c.self.view_is) at c.requires.reached) }

pub returns : goal.returns
returns c =
    rw (← c.self.view_is) (rw c.deref.ensures.value at c.fast_counted.ensures ∙ c.self.invariant.fast_counted c.args.place
    ∙ sym (fast_there c.args.place c.self.inside.places.items c.self.inside.gained.items))
