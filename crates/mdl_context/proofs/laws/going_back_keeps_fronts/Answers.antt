use Rattle.mdl_context.proofs.FrontLemmas.{since-statement, since-transaction, since-explicit}
use Rattle.mdl_context.proofs.laws.going_back_keeps_fronts.Goals as goal

pub returns : goal.returns
returns c = λ mark kept rising. (since-statement mark kept rising, since-transaction mark kept rising, since-explicit mark kept rising)
