-- By its lemma.
use Rattle.mdl_context.proofs.OutcomeLemmas.{raised_upgrading}
use Rattle.mdl_context.proofs.wish_laws.upgrades_are_met.Goals as goal

pub returns : goal.returns
returns c = raised_upgrading
