use Rattle.mdl_context.proofs.TidyLemmas.{releases-leave_tidy}
use Rattle.mdl_context.proofs.laws.releases_leave_tidy.Goals as goal

pub returns : goal.returns
returns c = releases-leave_tidy
