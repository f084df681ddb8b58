-- By its lemma.
use Rattle.mdl_session_laws.proofs.CallsHappen.{pins-given_up}
use Rattle.mdl_session_laws.proofs.happenings.pins_are_given_up.Goals as goal

pub returns : goal.returns
returns c = pins-given_up
