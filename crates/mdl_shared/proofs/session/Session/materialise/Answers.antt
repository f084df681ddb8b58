-- Where the session waits it has no fast ticket, and nothing is done.
use Rattle.mdl_shared.proofs.Lemmas.{[], made-none, quiet-none, refl, sym, view_of, waits-unfast, ◌∙◌}
use Rattle.mdl_shared.proofs.session.Session.materialise.Goals as goal

pub returns-then-is_some-clause-quiet : goal.returns-then-is_some-clause-quiet
returns-then-is_some-clause-quiet g c = quiet-none c.args.self.now

pub returns-then-is_some-clause-slow : goal.returns-then-is_some-clause-slow
returns-then-is_some-clause-slow g c =
    let m = c.self.inside.member in
    let none = waits-unfast m (sym c.is_some.ensures ∙ c.if-is_some.true) in
    rw (← c.self.view_is) (none, made-none (view_of m) none)

pub returns-then-is_some-clause-turn : goal.returns-then-is_some-clause-turn
returns-then-is_some-clause-turn g c =
    let m = c.self.inside.member in
    let none = waits-unfast m (sym c.is_some.ensures ∙ c.if-is_some.true) in
    rw (← c.self.view_is) ([], (sym none, refl))

pub returns-clause-turn : goal.returns-clause-turn
returns-clause-turn g c = rw (← c.self.view_is) c.materialise.ensures.turn

pub returns-clause-stops : goal.returns-clause-stops
returns-clause-stops g c = rw (← c.self.view_is) c.materialise.ensures.stops

pub returns-clause-refused : goal.returns-clause-refused
returns-clause-refused g c = rw (← c.self.view_is) c.materialise.ensures.refused
