-- The space goes on to serve each session, and the contexts of the others.
use Rattle.std.proofs.Common.{◌≡◌, None, refl, sym, subst}
use Rattle.mdl_calls.specs.Words.{Clone_ticket, cloned}
use Rattle.mdl_c_calls.specs.Managers.{direct_fault, seat_of}
use Rattle.mdl_c_calls.proofs.ManagerLemmas.{direct-speaks, serves-direct}
use Rattle.mdl_c_calls.proofs.manager.ServedSpace.clone_ticket.Goals as goal

pub clone_ticket-requires : goal.clone_ticket-requires
clone_ticket-requires c =
    let direct = subst (λ m. direct_fault (seat_of c.args.who m) ≡ None) (sym c.self.view_is) c.in_ok-check_direct.ensures in
    direct-speaks _ c.args.who c.self.inside.sessions c.self.inside.seats.items direct c.self.invariant

pub invariant_of-self : goal.invariant_of-self
invariant_of-self c =
    let direct = subst (λ m. direct_fault (seat_of c.args.who m) ≡ None) (sym c.self.view_is) c.in_ok-check_direct.ensures in
    serves-direct _ c.clone_ticket.new.self (Clone_ticket c.args.who c.args.ticket c.args.mode) (cloned c.clone_ticket.result) c.args.who c.self.inside.sessions c.self.inside.seats.items refl direct c.self.invariant c.clone_ticket.ensures
