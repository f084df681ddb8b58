-- By its lemma.
use Rattle.mdl_view_text_laws.proofs.Answers.{waits_are_json}
use Rattle.mdl_view_text_laws.proofs.waits_are_json.Goals as goal

pub returns : goal.returns
returns c = waits_are_json
