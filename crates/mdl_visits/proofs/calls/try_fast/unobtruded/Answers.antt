-- The mask has all bits except that of the flag.
use Rattle.std.proofs.Common.{true, false}
use Rattle.mdl_word.proofs.WordLemmas.{has_kept}
use Rattle.mdl_visits.proofs.calls.try_fast.unobtruded.Goals as goal

pub returns : goal.returns
returns c = has_kept c.args.word.0 true false
