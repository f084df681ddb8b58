-- The space goes on to serve each session, and the contexts of the others.
use Rattle.std.proofs.Common.{◌≡◌, None, refl, sym, subst}
use Rattle.mdl_calls.specs.Words.{End_wait, ended}
use Rattle.mdl_c_calls.specs.Managers.{direct_fault, seat_of}
use Rattle.mdl_c_calls.proofs.ManagerLemmas.{direct-speaks, serves-direct}
use Rattle.mdl_c_calls.proofs.manager.ServedSpace.end_wait.Goals as goal

pub end_wait-requires : goal.end_wait-requires
end_wait-requires c =
    let direct = subst (λ m. direct_fault (seat_of c.args.who m) ≡ None) (sym c.self.view_is) c.in_ok-check_direct.ensures in
    direct-speaks _ c.args.who c.self.inside.sessions c.self.inside.seats.items direct c.self.invariant

pub invariant_of-self : goal.invariant_of-self
invariant_of-self c =
    let direct = subst (λ m. direct_fault (seat_of c.args.who m) ≡ None) (sym c.self.view_is) c.in_ok-check_direct.ensures in
    serves-direct _ c.end_wait.new.self (End_wait c.args.who) (ended c.end_wait.result) c.args.who c.self.inside.sessions c.self.inside.seats.items refl direct c.self.invariant c.end_wait.ensures
