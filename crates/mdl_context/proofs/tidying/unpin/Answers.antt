-- Whatever the answer is, the call was made.
use Rattle.std.proofs.Common.{refl}
use Rattle.mdl_context.proofs.tidying.unpin.Goals as goal

pub returns-clause-speaks : goal.returns-clause-speaks
returns-clause-speaks g c = g.met.S.LockSpace.laws.keeps _ _ _ _ _ c.requires c.unpin-answer.ensures

pub returns-clause-run : goal.returns-clause-run
returns-clause-run g c = (_, c.unpin-answer.new.self, c.unpin-answer.ensures, (refl, refl))
