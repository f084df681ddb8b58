-- The fast tickets at the place are slow ones in their places, and none is counted there as a fast one.
use Rattle.mdl_shared.proofs.Lemmas.{ap, fast_of, fewer_there, kept_slowed, made_slow, map, not, slow_of, slowed_by_place, slowed_there, stay_fast, ◌∙◌}
use Rattle.mdl_shared.proofs.TicketEdits.{still}
use Rattle.mdl_shared.proofs.tickets.Tickets.make_slow.Goals as goal

pub overflow_sub-self : goal.overflow_sub-self
overflow_sub-self c = rw c.clear_fast.ensures.fast (fewer_there c.args.place c.self.inside.places.items c.self.inside.gained.items c.self.inside.fast c.self.invariant)

pub slow_down-requires : goal.slow_down-requires
slow_down-requires c = c.self.invariant.rising

pub invariant_of-self : goal.invariant_of-self
invariant_of-self c =
    let ps = c.self.inside.places.items in
    let xs = c.self.inside.gained.items in
    let slow = c.slow_down.ensures.items ∙ slowed_by_place c.args.place ps xs c.args.here.now c.self.invariant.rising (rw (← c.self.view_is) at c.requires.these) in
    rw slow (kept_slowed c.args.place ps c.clear_fast.new.places.items xs c.self.inside.fast c.clear_fast.result
    c.clear_fast.ensures.fast c.clear_fast.ensures.tickets.as_many c.clear_fast.ensures.tickets.counted c.clear_fast.ensures.cleared c.self.invariant)

pub returns-clause-slow : goal.returns-clause-slow
returns-clause-slow c =
    let ps = c.self.inside.places.items in
    let xs = c.self.inside.gained.items in
    let slow = c.slow_down.ensures.items ∙ slowed_by_place c.args.place ps xs c.args.here.now c.self.invariant.rising (rw (← c.self.view_is) at c.requires.these) in
    rw (← c.self.view_is) (ap (slow_of c.clear_fast.new.places.items) slow
    ∙ still ps c.clear_fast.new.places.items (λ t. not t.fast) (map (slowed_there c.args.place) xs) c.clear_fast.ensures.tickets.noted ∙ made_slow c.args.place ps xs c.self.invariant.rising)

pub returns-clause-fast : goal.returns-clause-fast
returns-clause-fast c =
    let ps = c.self.inside.places.items in
    let xs = c.self.inside.gained.items in
    let slow = c.slow_down.ensures.items ∙ slowed_by_place c.args.place ps xs c.args.here.now c.self.invariant.rising (rw (← c.self.view_is) at c.requires.these) in
    rw (← c.self.view_is) (ap (fast_of c.clear_fast.new.places.items) slow
    ∙ still ps c.clear_fast.new.places.items (λ t. t.fast) (map (slowed_there c.args.place) xs) c.clear_fast.ensures.tickets.noted ∙ stay_fast c.args.place ps xs)
