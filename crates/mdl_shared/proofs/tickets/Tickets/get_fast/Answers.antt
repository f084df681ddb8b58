-- The ticket of the number is the only one, and it is a fast one or not.
use Rattle.mdl_shared.proofs.Lemmas.{Some, ap, find_at, find_none, rules, sym, ◌∙◌}
use Rattle.mdl_shared.proofs.tickets.Tickets.get_fast.Goals as goal

pub returns-in_err-at : goal.returns-in_err-at
returns-in_err-at c =
    let none = find_none c.args.id c.self.inside.places.items (λ t. t.fast) c.self.inside.gained.items (rw c.deref.ensures.value at c.in_err-at.ensures) in
    rw (← c.self.view_is) (search (rules, none))

pub returns-then-ticket : goal.returns-then-ticket
returns-then-ticket c =
    let found = find_at c.args.id c.self.inside.places.items (λ t. t.fast) c.self.inside.gained.items c.in_ok-at.at c.index-ticket.result.now c.self.invariant.rising (rw c.deref.ensures.value at c.in_ok-at.ensures) in
    let fast = rw (← c.index-ticket.ensures, c.if-ticket.true) at found in
    rw (← c.self.view_is) (record { found = ap Some (rw c.deref-then-ticket.ensures.value at c.own_of.ensures) ∙ sym fast })

pub returns-else-ticket : goal.returns-else-ticket
returns-else-ticket c =
    let found = find_at c.args.id c.self.inside.places.items (λ t. t.fast) c.self.inside.gained.items c.in_ok-at.at c.index-ticket.result.now c.self.invariant.rising (rw c.deref.ensures.value at c.in_ok-at.ensures) in
    let slow = rw (← c.index-ticket.ensures, c.if-ticket.false) at found in
    rw (← c.self.view_is) (record { found = sym slow })
