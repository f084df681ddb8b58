use Rattle.mdl_key.specs.declared.mode.Duration.TheVariants.{Statement, Transaction, Explicit}
use Rattle.mdl_context.proofs.FrontLemmas.{ending-same, ending-other}
use Rattle.mdl_context.proofs.laws.explicit_tickets_end_alone.Goals as goal

pub returns : goal.returns
returns c = λ kept rising. (ending-other Explicit Statement (λ e. cc) kept rising, ending-other Explicit Transaction (λ e. cc) kept rising, ending-same Explicit kept rising)
