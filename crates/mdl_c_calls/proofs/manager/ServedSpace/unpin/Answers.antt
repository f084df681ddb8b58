-- The space goes on to serve each session, and the contexts of the others.
use Rattle.std.proofs.Common.{◌≡◌, None, refl, sym, subst}
use Rattle.mdl_calls.specs.Words.{Unpin, done}
use Rattle.mdl_c_calls.specs.Managers.{direct_fault, seat_of}
use Rattle.mdl_c_calls.proofs.ManagerLemmas.{direct-speaks, serves-direct}
use Rattle.mdl_c_calls.proofs.manager.ServedSpace.unpin.Goals as goal

pub unpin-requires : goal.unpin-requires
unpin-requires c =
    let direct = subst (λ m. direct_fault (seat_of c.args.who m) ≡ None) (sym c.self.view_is) c.in_ok-check_direct.ensures in
    direct-speaks _ c.args.who c.self.inside.sessions c.self.inside.seats.items direct c.self.invariant

pub invariant_of-self : goal.invariant_of-self
invariant_of-self c =
    let direct = subst (λ m. direct_fault (seat_of c.args.who m) ≡ None) (sym c.self.view_is) c.in_ok-check_direct.ensures in
    serves-direct _ c.unpin.new.self (Unpin c.args.who c.args.place) (done c.unpin.result) c.args.who c.self.inside.sessions c.self.inside.seats.items refl direct c.self.invariant c.unpin.ensures
