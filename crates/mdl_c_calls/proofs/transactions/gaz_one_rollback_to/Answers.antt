-- The manager rolls the session's context back to the mark, in the form that a context takes.
use Rattle.std.proofs.Common.{subst}
use Rattle.mdl_context.specs.Releases.{rolling_back}
use Rattle.mdl_c_calls.specs.ContextCodes.{done_code}
use Rattle.mdl_c_calls.specs.Transactions.{ServesContext, Untold}
use Rattle.mdl_c_calls.proofs.transactions.gaz_one_rollback_to.Goals as goal

pub returns : goal.returns
returns c =
    let before = c.args.space.now.handle.manager in let after = c.change.new.space.handle.manager in
    subst (λ mark. ServesContext c.args.who (rolling_back mark) done_code before c.change.result after Untold) c.in_context.ensures c.change.ensures
