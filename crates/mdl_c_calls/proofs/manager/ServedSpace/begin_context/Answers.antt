-- A context that keeps nothing attends to a session that has nothing.
use Rattle.std.proofs.Common.{◌≡◌, None, sym, ◌∙◌, subst}
use Rattle.mdl_c_calls.specs.Transactions.{begin_fault}
use Rattle.mdl_c_calls.proofs.ManagerLemmas.{serves-begun}
use Rattle.mdl_c_calls.proofs.manager.ServedSpace.begin_context.Goals as goal

pub invariant_of-self : goal.invariant_of-self
invariant_of-self c =
    let can = subst (λ m. begin_fault c.args.who m ≡ None) (sym (c.self.view_is ∙ c.in_ok-check_unused.ensures.same)) c.in_ok-check_unused.ensures.fault in
    rw c.from.ensures (serves-begun c.self.inside.space c.args.who c.self.inside.sessions c.self.inside.seats.items c.new.result can c.new.ensures c.self.invariant)
