-- By their lemmas.
use Rattle.mdl_steps_laws.proofs.Nobody.{nobody_is_forgotten, nobody_is_forgotten_at_rest}
use Rattle.mdl_steps_laws.proofs.cares.nobody_is_forgotten.Goals as goal

pub returns : goal.returns
returns c = record { forgotten = nobody_is_forgotten; rest = nobody_is_forgotten_at_rest }
