-- By its lemma.
use Rattle.mdl_rows.proofs.RowOutcomes.{rows_keep_sound}
use Rattle.mdl_rows.proofs.memory_laws.statements_keep_the_space_sound.Goals as goal

pub returns : goal.returns
returns c = rows_keep_sound
