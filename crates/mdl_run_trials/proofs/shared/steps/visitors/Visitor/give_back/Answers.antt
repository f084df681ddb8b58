-- The ticket is the only one of the session, at the place whose key it knows.
use Rattle.std.proofs.Common.{List, zero, refl, sym, ap, ◌∙◌, subst}
use Rattle.std.specs.Option.{option_to_list}
use Rattle.mdl_steps.specs.declared.view.SessionTicket.{SessionTicket}
use Rattle.mdl_visits.specs.Leavings.{HasTicket}
use Rattle.mdl_shared.proofs.Membership.{kind_there}
use Rattle.mdl_run_trials.proofs.shared.steps.visitors.Visitor.give_back.Goals as goal

pub release-requires-clause-known : goal.release-requires-clause-known
release-requires-clause-known g c =
    let self = c.args.self.now in
    let k = kind_there self.place self.kind self.seat.me.0.known self.known in
    (k.0, k.1, k.2, k.3 ∙ sym c.requires.here)

pub release-requires-clause-held : goal.release-requires-clause-held
release-requires-clause-held g c =
    let t : SessionTicket = c.args.ticket in
    subst (λ (ts : List SessionTicket). HasTicket t.place t.number ts) (sym (c.args.self.now.slow_is ∙ ap option_to_list c.requires.held)) (zero, t, refl, refl, refl)
