-- The new ticket is the last of the fast ones, and its place has one more.
use Rattle.std.proofs.Common.{◌<◌, ℕ, length, refl, sym, ◌∙◌, arith, not}
use Rattle.mdl_shared.proofs.Lemmas.{below_all, fast_of, fast_there, first_there, gained, kept_gain_fast, most_fast, own_at, ungained}
use Rattle.mdl_shared.proofs.tickets.Tickets.push_fast.Goals as goal

pub count_fast-requires-clause-few : goal.count_fast-requires-clause-few
count_fast-requires-clause-few c =
    let place = c.args.place in
    let ps = c.self.inside.places.items in
    let xs = c.self.inside.gained.items in
    let fewer : length (own_at place (fast_of ps xs)) < most_fast = rw (← c.self.view_is) at c.requires.fewer in
    let counted = c.count_one.ensures.fast place ∙ c.self.invariant.fast_counted place ∙ sym (fast_there place ps xs) in
    omega (arith, counted, fewer)

pub invariant_of-self : goal.invariant_of-self
invariant_of-self c =
    let ps = c.self.inside.places.items in
    let xs = c.self.inside.gained.items in
    rw (c.push_reserved.ensures.items, c.new_ticket.ensures) (kept_gain_fast _ ps c.count_fast.new.places.items xs c.self.inside.fast (below_all c.args.number ps xs c.self.invariant.rising (rw (← c.self.view_is) at c.requires.below)) refl
    (c.count_fast.ensures.tickets.as_many ∙ c.count_one.ensures.length) (λ q. c.count_fast.ensures.tickets.counted q ∙ c.count_one.ensures.counted q)
    (λ q. rw (c.count_one.ensures.fast q) at (c.count_fast.ensures.fast q)) c.self.invariant)

pub returns-clause-gained : goal.returns-clause-gained
returns-clause-gained c =
    let ps = c.self.inside.places.items in
    let xs = c.self.inside.gained.items in
    rw (← c.self.view_is, c.push_reserved.ensures.items, c.new_ticket.ensures)
    (gained _ ps c.count_fast.new.places.items (λ t. t.fast) xs c.self.inside.fast _ c.self.invariant (λ (q : ℕ). c.count_fast.ensures.tickets.noted q ∙ c.count_one.ensures.noted q) refl
    (first_there c.args.place ps xs))

pub returns-clause-same : goal.returns-clause-same
returns-clause-same c =
    rw (← c.self.view_is, c.push_reserved.ensures.items, c.new_ticket.ensures)
    (ungained _ c.self.inside.places.items c.count_fast.new.places.items (λ t. not t.fast) c.self.inside.gained.items c.self.inside.fast c.self.invariant
    (λ (q : ℕ). c.count_fast.ensures.tickets.noted q ∙ c.count_one.ensures.noted q) refl)
