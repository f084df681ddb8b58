-- The ticket that goes is the fast one of its number.
use Rattle.mdl_shared.proofs.Lemmas.{gave-up-fast, its-number, sym, view_of, ◌∙◌}
use Rattle.mdl_shared.proofs.session.Session.release_earlier.Goals as goal

pub lose_fast-owes-requires : goal.lose_fast-owes-requires
lose_fast-owes-requires g c =
    record { held = its-number c.self.inside.member c.args.id c.in_ok-held.held (sym c.get_fast.ensures.found ∙ c.in_ok-held.was) }

pub returns-clause-released : goal.returns-clause-released
returns-clause-released g c =
    let gone = c.lose_fast-owes.ensures in
    let held = sym c.get_fast.ensures.found ∙ c.in_ok-held.was in
    rw (← c.self.view_is)
    (gave-up-fast c.self.inside.member (view_of c.lose_fast-owes.new.self) c.args.id c.in_ok-held.held held gone.lost gone.released gone.room)
