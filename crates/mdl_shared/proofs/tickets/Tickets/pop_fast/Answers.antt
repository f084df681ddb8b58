-- The last ticket is taken out, and its place has one less.
use Rattle.std.proofs.Common.{ℕ, ◌-◌, ◌<◌, Bool, length, sym, ◌∙◌, arith, not}
use Rattle.mdl_shared.proofs.Lemmas.{Gained, count_struck, is_at_place, is_fast_there, kept_strike_fast, nat_tests, no_ticket, struck}
use Rattle.mdl_shared.proofs.TicketEnds.{last-fast}
use Rattle.mdl_shared.proofs.tickets.Tickets.pop_fast.Goals as goal

pub take_last-requires : goal.take_last-requires
take_last-requires c =
    let ends = rw (← c.self.view_is) at c.requires.last in
    let last = last-fast c.self.inside.places.items c.self.inside.gained.items c.args.held c.self.invariant.rising ends.0 ends.1 in
    last.0

pub uncount_one-requires : goal.uncount_one-requires
uncount_one-requires c =
    let ends = rw (← c.self.view_is) at c.requires.last in
    let xs = c.self.inside.gained.items in
    let last = last-fast c.self.inside.places.items xs c.args.held c.self.invariant.rising ends.0 ends.1 in
    let at = length xs - 1 in
    let inside : at < length xs = (let some = last.0 in omega (arith, some)) in
    record { some = grind (arith, nat_tests, count_struck (is_at_place c.args.held.place) xs at no_ticket inside, last.2 no_ticket, c.self.invariant.counted c.args.held.place) }

pub uncount_fast-requires : goal.uncount_fast-requires
uncount_fast-requires c =
    let ends = rw (← c.self.view_is) at c.requires.last in
    let xs = c.self.inside.gained.items in
    let last = last-fast c.self.inside.places.items xs c.args.held c.self.invariant.rising ends.0 ends.1 in
    let at = length xs - 1 in
    let inside : at < length xs = (let some = last.0 in omega (arith, some)) in
    record {
      some = grind (
        arith,
        nat_tests,
        count_struck (is_fast_there c.args.held.place) xs at no_ticket inside,
        last.2 no_ticket,
        last.3 no_ticket,
        c.uncount_one.ensures.fast c.args.held.place,
        c.self.invariant.fast_counted c.args.held.place,
      );
    }

pub overflow_sub-self : goal.overflow_sub-self
overflow_sub-self c =
    let ends = rw (← c.self.view_is) at c.requires.last in
    let xs = c.self.inside.gained.items in
    let last = last-fast c.self.inside.places.items xs c.args.held c.self.invariant.rising ends.0 ends.1 in
    let at = length xs - 1 in
    let inside : at < length xs = (let some = last.0 in omega (arith, some)) in
    grind (arith, nat_tests, count_struck (λ (t : Gained). t.fast) xs at no_ticket inside, last.3 no_ticket, c.self.invariant.all_fast)

pub invariant_of-self : goal.invariant_of-self
invariant_of-self c =
    let ends = rw (← c.self.view_is) at c.requires.last in
    let xs = c.self.inside.gained.items in
    let last = last-fast c.self.inside.places.items xs c.args.held c.self.invariant.rising ends.0 ends.1 in
    let at = length xs - 1 in
    let inside : at < length xs = (let some = last.0 in omega (arith, some)) in
    rw c.take_last.ensures.items (kept_strike_fast c.args.held.place c.self.inside.places.items c.uncount_fast.new.places.items xs c.self.inside.fast at no_ticket
    inside (last.2 no_ticket) (last.3 no_ticket) (c.uncount_fast.ensures.tickets.as_many ∙ c.uncount_one.ensures.length) (λ q. rw (c.uncount_fast.ensures.tickets.counted q) (c.uncount_one.ensures.counted q))
    (λ q. sym (c.uncount_one.ensures.fast q) ∙ c.uncount_fast.ensures.fast q) c.self.invariant)

pub returns-clause-struck : goal.returns-clause-struck
returns-clause-struck c =
    let ends = rw (← c.self.view_is) at c.requires.last in
    let xs = c.self.inside.gained.items in
    let last = last-fast c.self.inside.places.items xs c.args.held c.self.invariant.rising ends.0 ends.1 in
    let at = length xs - 1 in
    let inside : at < length xs = (let some = last.0 in omega (arith, some)) in
    let parts = λ (p : Gained → Bool). struck c.args.held.place c.args.held.number c.self.inside.places.items c.uncount_fast.new.places.items p xs c.take_last.new.tickets.items at
    c.self.invariant.rising (inside, last.1) last.2 c.take_last.ensures.items (λ (q : ℕ). c.uncount_fast.ensures.tickets.noted q ∙ c.uncount_one.ensures.noted q) in
    rw (← c.self.view_is) (parts (λ t. not t.fast), parts (λ t. t.fast))
