-- Without a fast ticket nothing is done.
use Rattle.mdl_shared.proofs.Lemmas.{quiet-none, view_of}
use Rattle.mdl_shared.proofs.member.Member.materialise.Goals as goal

pub returns-else-has_fast-clause-done : goal.returns-else-has_fast-clause-done
returns-else-has_fast-clause-done g c = quiet-none (view_of c.args.self.now)
