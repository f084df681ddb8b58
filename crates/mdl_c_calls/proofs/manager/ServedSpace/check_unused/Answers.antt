-- The space speaks for a session that makes calls by itself.
use Rattle.std.proofs.Common.{◌≡◌, None, sym, subst}
use Rattle.mdl_calls.specs.Words.{Has_wait, Wait_of}
use Rattle.mdl_core.proofs.CallLaws.{core-keeps}
use Rattle.mdl_core.proofs.CoreSound.{calls_keep-sound}
use Rattle.mdl_c_calls.specs.Managers.{direct_fault, seat_of}
use Rattle.mdl_c_calls.proofs.ManagerLemmas.{direct-speaks}
use Rattle.mdl_c_calls.proofs.manager.ServedSpace.check_unused.Goals as goal

pub pins_any-requires : goal.pins_any-requires
pins_any-requires c =
    let direct = subst (λ m. direct_fault (seat_of c.args.who m) ≡ None) (sym c.self.view_is) c.in_ok-check_direct.ensures in
    core-keeps calls_keep-sound c.self.inside.space c.wait_of.new.self (Wait_of c.args.who) (Has_wait c.wait_of.result) c.args.who
    (direct-speaks c.self.inside.space c.args.who c.self.inside.sessions c.self.inside.seats.items direct c.self.invariant) c.wait_of.ensures

pub held-requires : goal.held-requires
held-requires c =
    let direct = subst (λ m. direct_fault (seat_of c.args.who m) ≡ None) (sym c.self.view_is) c.in_ok-check_direct.ensures in
    core-keeps calls_keep-sound c.self.inside.space c.wait_of.new.self (Wait_of c.args.who) (Has_wait c.wait_of.result) c.args.who
    (direct-speaks c.self.inside.space c.args.who c.self.inside.sessions c.self.inside.seats.items direct c.self.invariant) c.wait_of.ensures
