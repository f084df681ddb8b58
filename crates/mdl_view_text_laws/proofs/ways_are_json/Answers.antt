-- By its lemma.
use Rattle.mdl_view_text_laws.proofs.Answers.{ways_are_json}
use Rattle.mdl_view_text_laws.proofs.ways_are_json.Goals as goal

pub returns : goal.returns
returns c = ways_are_json
