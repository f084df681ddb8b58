-- The space goes on to serve each session, and the contexts of the others.
use Rattle.std.proofs.Common.{◌≡◌, None, refl, sym, subst}
use Rattle.mdl_calls.specs.Words.{Merge, done}
use Rattle.mdl_c_calls.specs.Managers.{direct_fault, seat_of}
use Rattle.mdl_c_calls.proofs.ManagerLemmas.{direct-speaks, serves-direct}
use Rattle.mdl_c_calls.proofs.manager.ServedSpace.merge.Goals as goal

pub merge-requires : goal.merge-requires
merge-requires c =
    let direct = subst (λ m. direct_fault (seat_of c.args.who m) ≡ None) (sym c.self.view_is) c.in_ok-check_direct.ensures in
    direct-speaks _ c.args.who c.self.inside.sessions c.self.inside.seats.items direct c.self.invariant

pub invariant_of-self : goal.invariant_of-self
invariant_of-self c =
    let direct = subst (λ m. direct_fault (seat_of c.args.who m) ≡ None) (sym c.self.view_is) c.in_ok-check_direct.ensures in
    serves-direct _ c.merge.new.self (Merge c.args.who c.args.kept c.args.gone) (done c.merge.result) c.args.who c.self.inside.sessions c.self.inside.seats.items refl direct c.self.invariant c.merge.ensures
