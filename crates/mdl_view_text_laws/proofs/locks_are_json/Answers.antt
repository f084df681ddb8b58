-- By its lemma.
use Rattle.mdl_view_text_laws.proofs.Answers.{locks_are_json}
use Rattle.mdl_view_text_laws.proofs.locks_are_json.Goals as goal

pub returns : goal.returns
returns c = locks_are_json
