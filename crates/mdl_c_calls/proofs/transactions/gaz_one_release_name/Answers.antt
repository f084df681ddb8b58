-- The words of C name a key, whose tickets are given up.
use Rattle.mdl_context.specs.Releases.{releasing_name}
use Rattle.mdl_c_parts.specs.Codes.{namespace_at}
use Rattle.mdl_c_calls.specs.ContextCodes.{done_code}
use Rattle.mdl_c_calls.specs.Exports.{Tells}
use Rattle.mdl_c_calls.specs.Transactions.{ServesContext, Untold}
use Rattle.mdl_c_parts.proofs.NameLemmas.{named-done}
use Rattle.mdl_c_calls.proofs.transactions.gaz_one_release_name.Goals as goal

pub returns-in-Ok : goal.returns-in-Ok
returns-in-Ok c =
    let before = c.args.space.now.handle.manager in let after = c.release_name.new.space.handle.manager in
    named-done (namespace_at c.args.namespace) c.args.schema.now c.args.table.now c.in-Ok.key
    (λ key. ServesContext c.args.who (releasing_name key) done_code before c.release_name.result after Untold)
    (λ wrong. Tells wrong before c.release_name.result after)
    c.in-Ok.ensures c.release_name.ensures
