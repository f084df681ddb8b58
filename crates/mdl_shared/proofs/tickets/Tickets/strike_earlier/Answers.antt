-- The ticket is taken out where it stands, and its place has one less.
use Rattle.mdl_shared.proofs.Lemmas.{Bool, Gained, ap, kept_strike, kept_strike_fast, not, strike_none, strikes_some, struck, sym, ℕ, ◌∙◌}
use Rattle.mdl_shared.proofs.tickets.Tickets.strike_earlier.Goals as goal

pub invariant_of-self : goal.invariant_of-self
invariant_of-self c =
    let stands = rw (c.in-Some.is, c.deref.ensures.value) at c.index_at.ensures in
    let ticket = c.index.result.now in
    let fast = ap (λ (t : Gained). t.fast) (sym c.index.ensures) ∙ c.if-fast.true in
    rw c.take_out.ensures.items (kept_strike_fast c.args.place c.self.inside.places.items c.uncount_fast.new.places.items c.self.inside.gained.items c.self.inside.fast c.in-Some.at ticket
    stands.0.0 (stands.1 ticket) fast (c.uncount_fast.ensures.tickets.as_many ∙ c.uncount_one.ensures.length) (λ q. rw (c.uncount_fast.ensures.tickets.counted q) (c.uncount_one.ensures.counted q))
    (λ q. sym (c.uncount_one.ensures.fast q) ∙ c.uncount_fast.ensures.fast q) c.self.invariant)

pub invariant_of-self-else-fast : goal.invariant_of-self-else-fast
invariant_of-self-else-fast c =
    let stands = rw (c.in-Some.is, c.deref.ensures.value) at c.index_at.ensures in
    let ticket = c.index.result.now in
    let slow = ap (λ (t : Gained). t.fast) (sym c.index.ensures) ∙ c.if-fast.false in
    rw c.take_out.ensures.items (kept_strike c.args.place c.self.inside.places.items c.uncount_one.new.places.items c.self.inside.gained.items c.self.inside.fast c.in-Some.at ticket
    stands.0.0 (stands.1 ticket) slow c.uncount_one.ensures.length c.uncount_one.ensures.counted c.uncount_one.ensures.fast c.self.invariant)

pub returns-then-fast-clause-struck : goal.returns-then-fast-clause-struck
returns-then-fast-clause-struck c =
    let stands = rw (c.in-Some.is, c.deref.ensures.value) at c.index_at.ensures in
    let parts = λ (p : Gained → Bool). struck c.args.place c.args.id c.self.inside.places.items c.uncount_fast.new.places.items p c.self.inside.gained.items c.take_out.new.tickets.items c.in-Some.at
    c.self.invariant.rising stands.0 stands.1 c.take_out.ensures.items (λ (q : ℕ). c.uncount_fast.ensures.tickets.noted q ∙ c.uncount_one.ensures.noted q) in
    rw (← c.self.view_is) (parts (λ t. not t.fast), parts (λ t. t.fast))

pub returns-else-fast-clause-struck : goal.returns-else-fast-clause-struck
returns-else-fast-clause-struck c =
    let stands = rw (c.in-Some.is, c.deref.ensures.value) at c.index_at.ensures in
    let parts = λ (p : Gained → Bool). struck c.args.place c.args.id c.self.inside.places.items c.uncount_one.new.places.items p c.self.inside.gained.items c.take_out.new.tickets.items c.in-Some.at
    c.self.invariant.rising stands.0 stands.1 c.take_out.ensures.items c.uncount_one.ensures.noted in
    rw (← c.self.view_is) (parts (λ t. not t.fast), parts (λ t. t.fast))

pub returns-in_default-clause-struck : goal.returns-in_default-clause-struck
returns-in_default-clause-struck c =
    let none = rw (c.in_default.is, c.deref.ensures.value) at c.index_at.ensures in
    let parts = λ (p : Gained → Bool). strike_none c.args.place c.args.id c.self.inside.places.items p c.self.inside.gained.items none in
    rw (← c.self.view_is) (parts (λ t. not t.fast), parts (λ t. t.fast))

pub returns-in_default-clause-freed : goal.returns-in_default-clause-freed
returns-in_default-clause-freed c = λ t is here.
    let none = rw (c.in_default.is, c.deref.ensures.value) at c.index_at.ensures in
    absurd (strikes_some c.args.place c.args.id c.self.inside.places.items (λ t. t.fast) c.self.inside.gained.items t none (rw (← c.self.view_is) at is) here)
