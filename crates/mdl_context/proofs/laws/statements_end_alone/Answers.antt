use Rattle.mdl_key.specs.declared.mode.Duration.TheVariants.{Statement, Transaction, Explicit}
use Rattle.mdl_context.proofs.FrontLemmas.{ending-same, ending-other}
use Rattle.mdl_context.proofs.laws.statements_end_alone.Goals as goal

pub returns : goal.returns
returns c = λ kept rising. (ending-same Statement kept rising, ending-other Statement Transaction (λ e. cc) kept rising, ending-other Statement Explicit (λ e. cc) kept rising)
