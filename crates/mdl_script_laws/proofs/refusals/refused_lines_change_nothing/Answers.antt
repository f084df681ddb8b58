-- By its lemma.
use Rattle.mdl_script_laws.proofs.RefusedWorlds.{refused_nothing}
use Rattle.mdl_script_laws.proofs.refusals.refused_lines_change_nothing.Goals as goal

pub returns : goal.returns
returns c = refused_nothing
