-- The new ticket is the last of the slow ones, and its place has one more.
use Rattle.mdl_shared.proofs.Lemmas.{below_all, gained, kept_gain, not, note_slow, refl, ungained}
use Rattle.mdl_shared.proofs.tickets.Tickets.push_reserved.Goals as goal

pub invariant_of-self : goal.invariant_of-self
invariant_of-self c =
    let ps = c.self.inside.places.items in
    let xs = c.self.inside.gained.items in
    rw (c.push_reserved.ensures.items, c.new_ticket.ensures) (kept_gain _ ps c.count_one.new.places.items xs c.self.inside.fast (below_all c.args.number ps xs c.self.invariant.rising (rw (← c.self.view_is) at c.requires.below)) refl
    c.count_one.ensures.length c.count_one.ensures.counted c.count_one.ensures.fast c.self.invariant)

pub returns-clause-gained : goal.returns-clause-gained
returns-clause-gained c =
    let ps = c.self.inside.places.items in
    let xs = c.self.inside.gained.items in
    rw (← c.self.view_is, c.push_reserved.ensures.items, c.new_ticket.ensures)
    (gained _ ps c.count_one.new.places.items (λ t. not t.fast) xs c.self.inside.fast _ c.self.invariant c.count_one.ensures.noted refl
    (note_slow c.args.place ps xs (rw (← c.self.view_is) at c.requires.slow)))

pub returns-clause-same : goal.returns-clause-same
returns-clause-same c =
    rw (← c.self.view_is, c.push_reserved.ensures.items, c.new_ticket.ensures)
    (ungained _ c.self.inside.places.items c.count_one.new.places.items (λ t. t.fast) c.self.inside.gained.items c.self.inside.fast c.self.invariant c.count_one.ensures.noted refl)
