use Rattle.std.proofs.Common.{◌∙◌}
use Rattle.mdl_context.proofs.FrontLemmas.{left-since, only-explicit}
use Rattle.mdl_context.proofs.laws.ending_leaves_explicit.Goals as goal

pub returns : goal.returns
returns c = λ kept rising. left-since (record { statement = 0; transaction = 0 }) kept rising ∙ only-explicit kept
