-- The last ticket is taken out, and its place has one less.
use Rattle.std.proofs.Common.{ℕ, ◌-◌, ◌<◌, Bool, length, sym, ◌∙◌, arith, not}
use Rattle.mdl_shared.proofs.Lemmas.{Gained, count_struck, is_at_place, is_fast_there, kept_strike, kept_strike_fast, nat_tests, no_ticket, struck}
use Rattle.mdl_shared.proofs.tickets.Tickets.strike.Goals as goal

pub uncount_one-requires : goal.uncount_one-requires
uncount_one-requires c =
    let last = rw (c.in-Some.is, c.deref.ensures.value) at c.last_at.ensures in
    let xs = c.self.inside.gained.items in
    let at = length xs - 1 in
    let inside : at < length xs = (let some = last.0 in omega (arith, some)) in
    record { some = grind (arith, nat_tests, count_struck (is_at_place c.args.place) xs at no_ticket inside, last.2 no_ticket, c.self.invariant.counted c.args.place) }

pub uncount_fast-requires : goal.uncount_fast-requires
uncount_fast-requires c =
    let last = rw (c.in-Some.is, c.deref.ensures.value) at c.last_at.ensures in
    let xs = c.self.inside.gained.items in
    let at = length xs - 1 in
    let inside : at < length xs = (let some = last.0 in omega (arith, some)) in
    record {
      some = grind (
        arith,
        nat_tests,
        count_struck (is_fast_there c.args.place) xs at no_ticket inside,
        last.2 no_ticket,
        last.3 no_ticket ∙ c.if-fast.true,
        c.uncount_one.ensures.fast c.args.place,
        c.self.invariant.fast_counted c.args.place,
      );
    }

pub overflow_sub-self : goal.overflow_sub-self
overflow_sub-self c =
    let last = rw (c.in-Some.is, c.deref.ensures.value) at c.last_at.ensures in
    let xs = c.self.inside.gained.items in
    let at = length xs - 1 in
    let inside : at < length xs = (let some = last.0 in omega (arith, some)) in
    grind (arith, nat_tests, count_struck (λ (t : Gained). t.fast) xs at no_ticket inside, last.3 no_ticket ∙ c.if-fast.true, c.self.invariant.all_fast)

pub invariant_of-self : goal.invariant_of-self
invariant_of-self c =
    let last = rw (c.in-Some.is, c.deref.ensures.value) at c.last_at.ensures in
    let xs = c.self.inside.gained.items in
    let at = length xs - 1 in
    let inside : at < length xs = (let some = last.0 in omega (arith, some)) in
    rw c.take_last.ensures.items (kept_strike_fast c.args.place c.self.inside.places.items c.uncount_fast.new.places.items xs c.self.inside.fast at no_ticket
    inside (last.2 no_ticket) (last.3 no_ticket ∙ c.if-fast.true) (c.uncount_fast.ensures.tickets.as_many ∙ c.uncount_one.ensures.length) (λ q. rw (c.uncount_fast.ensures.tickets.counted q) (c.uncount_one.ensures.counted q))
    (λ q. sym (c.uncount_one.ensures.fast q) ∙ c.uncount_fast.ensures.fast q) c.self.invariant)

pub invariant_of-self-else-fast : goal.invariant_of-self-else-fast
invariant_of-self-else-fast c =
    let last = rw (c.in-Some.is, c.deref.ensures.value) at c.last_at.ensures in
    let xs = c.self.inside.gained.items in
    let at = length xs - 1 in
    let inside : at < length xs = (let some = last.0 in omega (arith, some)) in
    rw c.take_last.ensures.items (kept_strike c.args.place c.self.inside.places.items c.uncount_one.new.places.items xs c.self.inside.fast at no_ticket
    inside (last.2 no_ticket) (last.3 no_ticket ∙ c.if-fast.false) c.uncount_one.ensures.length c.uncount_one.ensures.counted c.uncount_one.ensures.fast c.self.invariant)

pub returns-then-fast-clause-struck : goal.returns-then-fast-clause-struck
returns-then-fast-clause-struck c =
    let last = rw (c.in-Some.is, c.deref.ensures.value) at c.last_at.ensures in
    let xs = c.self.inside.gained.items in
    let at = length xs - 1 in
    let inside : at < length xs = (let some = last.0 in omega (arith, some)) in
    let parts = λ (p : Gained → Bool). struck c.args.place c.args.id c.self.inside.places.items c.uncount_fast.new.places.items p xs c.take_last.new.tickets.items at
    c.self.invariant.rising (inside, last.1) last.2 c.take_last.ensures.items (λ (q : ℕ). c.uncount_fast.ensures.tickets.noted q ∙ c.uncount_one.ensures.noted q) in
    rw (← c.self.view_is) (parts (λ t. not t.fast), parts (λ t. t.fast))

pub returns-else-fast-clause-struck : goal.returns-else-fast-clause-struck
returns-else-fast-clause-struck c =
    let last = rw (c.in-Some.is, c.deref.ensures.value) at c.last_at.ensures in
    let xs = c.self.inside.gained.items in
    let at = length xs - 1 in
    let inside : at < length xs = (let some = last.0 in omega (arith, some)) in
    let parts = λ (p : Gained → Bool). struck c.args.place c.args.id c.self.inside.places.items c.uncount_one.new.places.items p xs c.take_last.new.tickets.items at
    c.self.invariant.rising (inside, last.1) last.2 c.take_last.ensures.items c.uncount_one.ensures.noted in
    rw (← c.self.view_is) (parts (λ t. not t.fast), parts (λ t. t.fast))
