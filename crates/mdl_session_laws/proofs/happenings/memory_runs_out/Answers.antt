-- By its lemma.
use Rattle.mdl_session_laws.proofs.CallsHappen.{memory-out}
use Rattle.mdl_session_laws.proofs.happenings.memory_runs_out.Goals as goal

pub returns : goal.returns
returns c = memory-out
