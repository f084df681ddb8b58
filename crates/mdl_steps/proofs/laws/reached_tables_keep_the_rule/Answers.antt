-- At an opening by its clauses, and afterwards by the last step.
use Rattle.mdl_steps.proofs.Histories.{reached-rule}
use Rattle.mdl_steps.proofs.laws.reached_tables_keep_the_rule.Goals as goal

pub returns : goal.returns
returns c = reached-rule
